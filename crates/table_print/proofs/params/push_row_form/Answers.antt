use Rattle.std.proofs.Common.{◌≡◌, ◌<◌, ◌++◌, ◌∙◌, length, Some, sym, ap}
use Rattle.std.proofs.lemmas.Option.{slice_get_within}
use Rattle.lattice_algebra.specs.Operator.{identity_operator}
use Rattle.space_groups.specs.Rows.{Row}
use Rattle.wyckoff_rows.specs.Shown.{row_in}
use Rattle.table_print.specs.Params.{form_text}
use Rattle.table_print.proofs.FormTexts.{same_form_text}
use Rattle.table_print.proofs.RowSizes.{in_cell_at}
use Rattle.table_print.proofs.params.push_row_form.Goals as goal

same_row : (r s : Row) → Some r ≡ Some s → r ≡ s
same_row r s e = cc

pub param-requires : goal.param-requires
param-requires c = in_cell_at c.args.group.now c.len.ensures.group c.args.rows.now c.requires.list c.args.k (row_in c.get-row.result) c.get-row.ensures

pub returns-clause-text : goal.returns-clause-text
returns-clause-text c = λ form row gives is.
    let n = length c.args.group.now in
    let shown = row_in c.get-row.result in
    let some : 0 < n = slice_get_within c.args.group.now 0 identity_operator c.len.ensures.group.first in
    let text = same_form_text c.affine_map_has_one_text.ensures n shown.key c.param.result (form shown.key) some c.param.ensures.form (gives shown.key) in
    c.push_form.ensures.text ∙ ap (λ t. c.args.page.now ++ t) text
    ∙ ap (λ (r : Row). c.args.page.now ++ form_text (form r.key)) (same_row shown row (sym c.get-row.ensures ∙ is))

pub returns-clause-kept : goal.returns-clause-kept
returns-clause-kept c = (c.param.result, c.push_form.ensures.kept, c.push_form.ensures.text)
