use Rattle.std.proofs.Common.{length}
use Rattle.std.proofs.lemmas.Option.{slice_get_within}
use Rattle.lattice_algebra.specs.Operator.{identity_operator}
use Rattle.exact_ops.specs.declared.TheConstants.{UNIT}
use Rattle.exact_ops.proofs.Narrow.{some_parts}
use Rattle.triplet_text.proofs.AffineValues.{component_by_component}
use Rattle.table_print.specs.Rows.{numbers_of_key}
use Rattle.table_print.proofs.FormTexts.{kept_printable}
use Rattle.table_print.proofs.RowSizes.{row_printable}
use Rattle.table_print.proofs.TextPoints.{printed_points}
use Rattle.table_print.proofs.laws.row_texts_have_the_same_points.Goals as goal

pub returns : goal.returns
returns c = λ members rows row f g list is_row form kept y.
    let n = length members in
    let key = numbers_of_key row.key in
    let on_row = printed_points c.affine_text_has_values.ensures c.affine_text_is_unique.ensures n key (component_by_component n key (row_printable members g rows list row is_row)) y in
    let on_form = printed_points c.affine_text_has_values.ensures c.affine_text_is_unique.ensures f.over (record { w = f.b; t = f.s }) (kept_printable f kept) y in
    let points = c.form_has_the_points.ensures UNIT n row.key f some_parts (slice_get_within members 0 identity_operator g.first) form y in
    ((λ h. on_form.1 (points.0 (on_row.0 h))), (λ h. on_row.1 (points.1 (on_form.0 h))))
