use Rattle.sg_cli.proofs.Outcomes.{put_prints}
use Rattle.sg_cli.proofs.answers.rows.put_text.Goals as goal

pub returns : goal.returns
returns g c =
    let put = c.put_all.ensures in
    put_prints g.K.Sink.seen c.args.out.now c.put_all.new.sink c.args.text.now c.put_all.result put.ok put.err (record { faults_later = put.faults_later; wants_later = put.wants_later; failed = put.failed; no_memory = put.no_memory; unfailed = put.unfailed; unwanted = put.unwanted })
