use Rattle.page_print.proofs.Gathering.{handed_over}
use Rattle.page_print.proofs.page.put_page.Goals as goal

pub returns : goal.returns
returns g c =
    let put = c.put_all.ensures in
    let is = c.bytes.ensures.text in
    handed_over g.K.Sink.seen c.args.sink.now c.put_all.new.sink c.args.page.now c.put_all.result (rw is at put.ok) (rw is at put.err)
    (record { faults_later = put.faults_later; wants_later = put.wants_later; failed = put.failed; no_memory = put.no_memory; unfailed = put.unfailed; unwanted = put.unwanted })
