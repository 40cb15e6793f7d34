use Rattle.std.proofs.Common.{◌≡◌, ◌++◌, ◌∙◌, Some, sym, ap}
use Rattle.space_groups.specs.Rows.{Row}
use Rattle.wyckoff_rows.specs.Shown.{row_in}
use Rattle.table_print.specs.Params.{param_line}
use Rattle.table_print.proofs.FormTexts.{line_pushed}
use Rattle.table_print.proofs.params.push_line.Goals as goal

same_row : (r s : Row) → Some r ≡ Some s → r ≡ s
same_row r s e = cc

pub returns : goal.returns
returns c = λ form row gives is.
    let shown = row_in c.get-row.result in
    line_pushed _ _ _ _ _ _ _ _ _ _ _ _ c.push.ensures c.push-2.ensures c.push-3.ensures c.push-4.ensures (c.push_row_form.ensures.text form shown gives c.get-row.ensures) c.push-5.ensures
    (c.as_bytes.ensures.value ∙ c.format.ensures.text) (c.as_bytes-2.ensures.value ∙ c.format-2.ensures.text)
    ∙ ap (λ r. c.args.page.now ++ param_line form c.args.k r) (same_row shown row (sym c.get-row.ensures ∙ is))
