use Rattle.std.proofs.Common.{◌≡◌, ◌∙◌, ◌++◌, Some, length, sym, ap}
use Rattle.space_groups.specs.Rows.{Row}
use Rattle.wyckoff_rows.specs.Shown.{row_in}
use Rattle.table_print.specs.Rows.{shown_row}
use Rattle.page_print.proofs.Pushed.{three_pushed}
use Rattle.table_print.proofs.rows.push_row.Goals as goal

same_row : (r s : Row) → Some r ≡ Some s → r ≡ s
same_row r s e = cc

pub returns-clause-text : goal.returns-clause-text
returns-clause-text c = λ row is.
    three_pushed _ _ _ _ _ _ _ _ _ _ _ _ c.push.ensures c.push-2.ensures c.push-3.ensures c.push-4.ensures c.push-5.ensures
    (c.as_bytes.ensures.value ∙ c.format.ensures.text) (c.as_bytes-2.ensures.value ∙ c.format-2.ensures.text)
    (c.bytes.ensures.text ∙ c.row_text.ensures (row_in c.get-row.result) c.get-row.ensures)
    ∙ ap (λ r. c.args.page.now ++ shown_row (length c.args.group.now) c.args.k r) (same_row (row_in c.get-row.result) row (sym c.get-row.ensures ∙ is))
