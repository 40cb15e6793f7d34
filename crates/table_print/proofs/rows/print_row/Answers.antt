use Rattle.std.proofs.Common.{refl, get_or, length}
use Rattle.std.proofs.lemmas.Option.{slice_get-get_or}
use Rattle.page_print.proofs.Gathering.{piece_printed}
use Rattle.table_print.specs.Rows.{row_line, IsRowText}
use Rattle.table_print.proofs.RowPages.{no_row, stands_at}
use Rattle.table_print.proofs.rows.print_row.Goals as goal

pub returns : goal.returns
returns g c =
    let rows = c.args.rows.now in
    let row = get_or rows c.args.k no_row in
    let at = slice_get-get_or rows c.args.k no_row c.requires.within in
    piece_printed g.K.Sink.seen (IsRowText c.args.group.now rows c.args.k) c.args.sink.now c.new-page.result c.new-page.ensures c.put_page.new.sink c.push_line.new.page c.put_page.result
    (row_line (length c.args.group.now) c.args.k row, record { row = row; at = stands_at rows c.args.k row at; whole = refl }, c.push_line.ensures row at) c.put_page.ensures
