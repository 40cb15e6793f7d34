use Rattle.page_print.proofs.Gathering.{printed}
use Rattle.table_print.specs.Rows.{IsRowsText}
use Rattle.table_print.proofs.rows.print_rows.Goals as goal

pub returns : goal.returns
returns g c =
    printed g.K.Sink.seen (IsRowsText c.args.group.now c.args.rows.now) c.args.sink.now c.new-page.result c.new-page.ensures c.put_rows.new.sink c.put_page.new.sink c.put_rows.new.page c.put_page.result c.in_ok-put_rows.ensures c.put_page.ensures
