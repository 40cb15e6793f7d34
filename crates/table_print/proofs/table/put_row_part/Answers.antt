use Rattle.std.proofs.Common.{Err, ap, ◌∙◌, codes, length, refl}
use Rattle.std.proofs.lemmas.Result.{err_from_is_err_and}
use Rattle.table_print.specs.Rows.{IsRowsText}
use Rattle.page_print.specs.Parts.{Is, counted}
use Rattle.page_print.proofs.PartTexts.{two_gathered, first_stopped}
use Rattle.table_print.proofs.table.put_row_part.Goals as goal

pub returns-in_err-put_heading : goal.returns-in_err-put_heading
returns-in_err-put_heading g c =
    let p = err_from_is_err_and c.from_residual.result c.from_residual.ensures.1 in
    let rows = c.args.rows.now in
    let heading = c.bytes.ensures.text ∙ c.counted-heading.ensures.text ∙ ap (counted (codes "rows ")) c.len.ensures in
    rw (p.1 ∙ ap Err p.2) (first_stopped g.K.Sink.seen (Is (counted (codes "rows ") (length rows))) (IsRowsText c.args.group.now rows) c.args.sink.now c.put_heading.new.sink c.args.page.now c.put_heading.new.page
    (_, refl) _ (rw heading at c.in_err-put_heading.ensures.gathers))

pub returns : goal.returns
returns g c =
    let rows = c.args.rows.now in
    let heading = c.bytes.ensures.text ∙ c.counted-heading.ensures.text ∙ ap (counted (codes "rows ")) c.len.ensures in
    two_gathered g.K.Sink.seen (Is (counted (codes "rows ") (length rows))) (IsRowsText c.args.group.now rows) c.args.sink.now c.put_heading.new.sink c.args.page.now c.put_heading.new.page c.put_rows.new.sink c.put_rows.new.page c.put_rows.result
    (rw heading at c.in_ok-put_heading.ensures.gathers) c.put_rows.ensures
