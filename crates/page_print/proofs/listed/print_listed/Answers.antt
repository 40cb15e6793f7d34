use Rattle.page_print.proofs.Gathering.{printed}
use Rattle.page_print.proofs.listed.print_listed.Goals as goal

pub returns : goal.returns
returns g c =
    printed g.K.Sink.seen (g.L.Listed.texts c.args.listed.now 0) c.args.sink.now c.new-page.result c.new-page.ensures c.put_listed.new.sink c.put_page.new.sink c.put_listed.new.page c.put_page.result c.in_ok-put_listed.ensures c.put_page.ensures
