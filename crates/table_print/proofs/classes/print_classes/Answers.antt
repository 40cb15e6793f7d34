use Rattle.page_print.proofs.Gathering.{printed}
use Rattle.table_print.specs.Classes.{IsBoxText}
use Rattle.table_print.proofs.classes.print_classes.Goals as goal

pub returns-clause-text : goal.returns-clause-text
returns-clause-text g c =
    let first = c.args.list.now in
    printed g.K.Sink.seen (IsBoxText first.pairs c.args.group.now first.size) c.args.sink.now c.new-page.result c.new-page.ensures c.put_classes.new.sink c.put_page.new.sink c.put_classes.new.page c.put_page.result c.in_ok-put_classes.ensures.gathers c.put_page.ensures
