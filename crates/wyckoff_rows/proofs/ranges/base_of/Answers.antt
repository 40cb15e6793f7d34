use Rattle.std.proofs.Common.{◌≡◌, ◌≤◌, ◌∙◌, ◌*◌, ◌+◌, ◌^◌, ℕ, w64, ap, sym, subst, arith, unsigned_abs}
use Rattle.lattice_algebra.specs.Matrix.{Column, matrix_of, column_of, times}
use Rattle.lattice_algebra.specs.Operator.{AreWithin, HasEntriesWithin}
use Rattle.lattice_algebra.proofs.Machine.{back}
use Rattle.exact_ops.specs.declared.TheConstants.{UNIT}
use Rattle.exact_ops.specs.Fields.{matrix_in}
use Rattle.group_closure.specs.declared.TheConstants.{MAX_OPERATORS}
use Rattle.affine_sets.specs.declared.TheConstants.{MAX_NEAR_SHIFT, MAX_TRANSLATION}
use Rattle.affine_sets.specs.Fields.{offset_in}
use Rattle.affine_sets.proofs.LeftAlone.{part_size}
use Rattle.wyckoff_rows.proofs.RangeSizes.{base_made, sum_within, difference_within, turned_within, multiple_within, wider_column, number_kept}
use Rattle.wyckoff_rows.proofs.Columns.{over_is}
use Rattle.wyckoff_rows.proofs.ranges.base_of.Goals as goal

abbrev near : ℕ
near = MAX_OPERATORS * (UNIT * (MAX_NEAR_SHIFT + 1))

pub offset_multiple-parts-requires-clause-column : goal.offset_multiple-parts-requires-clause-column
offset_multiple-parts-requires-clause-column c =
    let parts_is = c.of-2.ensures ∙ ap column_of c.t.ensures.value in
    let parts = subst (λ (v : Column). AreWithin UNIT v.x v.y v.z) (sym parts_is) (part_size c.args.f.now.t c.t.ensures.narrow.is_operator.in_cell) in
    wider_column UNIT MAX_TRANSLATION (offset_in c.of-2.result) (omega arith) parts

pub offset_sum-requires-clause-left : goal.offset_sum-requires-clause-left
offset_sum-requires-clause-left c =
    let turned = turned_within near (matrix_in c.of.result) (offset_in c.translation_of-t.result) (offset_in c.image-turned.result) c.image-turned.ensures
    (subst (HasEntriesWithin 2) (sym (c.of.ensures ∙ ap matrix_of c.w.ensures.value)) c.w.ensures.narrow.within_two)
    (subst (λ (v : Column). AreWithin near v.x v.y v.z) (sym c.translation_of-t.ensures) c.requires) in
    wider_column (6 * near) MAX_TRANSLATION (offset_in c.image-turned.result) (omega arith) turned

pub offset_sum-requires-clause-right : goal.offset_sum-requires-clause-right
offset_sum-requires-clause-right c =
    let parts_is = c.of-2.ensures ∙ ap column_of c.t.ensures.value in
    let parts = subst (λ (v : Column). AreWithin UNIT v.x v.y v.z) (sym parts_is) (part_size c.args.f.now.t c.t.ensures.narrow.is_operator.in_cell) in
    let over = over_is c.args.s.now c.over.result c.over.ensures.special c.over.ensures.value in
    let number = number_kept c.from.result c.over.result c.from.ensures over.few in
    let multiple = multiple_within MAX_OPERATORS UNIT (back w64 c.from.result) (offset_in c.of-2.result) (offset_in c.offset_multiple-parts.result) c.offset_multiple-parts.ensures (subst (λ n. unsigned_abs n ≤ MAX_OPERATORS) (sym number) over.few) parts in
    wider_column (MAX_OPERATORS * UNIT) MAX_TRANSLATION (offset_in c.offset_multiple-parts.result) (omega arith) multiple

pub offset_difference-requires-clause-right : goal.offset_difference-requires-clause-right
offset_difference-requires-clause-right c =
    let turned = turned_within near (matrix_in c.of.result) (offset_in c.translation_of-t.result) (offset_in c.image-turned.result) c.image-turned.ensures
    (subst (HasEntriesWithin 2) (sym (c.of.ensures ∙ ap matrix_of c.w.ensures.value)) c.w.ensures.narrow.within_two)
    (subst (λ (v : Column). AreWithin near v.x v.y v.z) (sym c.translation_of-t.ensures) c.requires) in
    let parts_is = c.of-2.ensures ∙ ap column_of c.t.ensures.value in
    let parts = subst (λ (v : Column). AreWithin UNIT v.x v.y v.z) (sym parts_is) (part_size c.args.f.now.t c.t.ensures.narrow.is_operator.in_cell) in
    let over = over_is c.args.s.now c.over.result c.over.ensures.special c.over.ensures.value in
    let number = number_kept c.from.result c.over.result c.from.ensures over.few in
    let multiple = multiple_within MAX_OPERATORS UNIT (back w64 c.from.result) (offset_in c.of-2.result) (offset_in c.offset_multiple-parts.result) c.offset_multiple-parts.ensures (subst (λ n. unsigned_abs n ≤ MAX_OPERATORS) (sym number) over.few) parts in
    let both = sum_within (6 * near) (MAX_OPERATORS * UNIT) (offset_in c.image-turned.result) (offset_in c.offset_multiple-parts.result) (offset_in c.offset_sum.result) c.offset_sum.ensures turned multiple in
    wider_column (6 * near + MAX_OPERATORS * UNIT) MAX_TRANSLATION (offset_in c.offset_sum.result) (omega arith) both

pub returns-clause-value : goal.returns-clause-value
returns-clause-value c =
    let parts_is = c.of-2.ensures ∙ ap column_of c.t.ensures.value in
    let parts = subst (λ (v : Column). AreWithin UNIT v.x v.y v.z) (sym parts_is) (part_size c.args.f.now.t c.t.ensures.narrow.is_operator.in_cell) in
    let over = over_is c.args.s.now c.over.result c.over.ensures.special c.over.ensures.value in
    let number = number_kept c.from.result c.over.result c.from.ensures over.few in
    base_made c.args.s.now c.args.f.now (matrix_in c.of.result) (offset_in c.translation_of-t.result) (offset_in c.image-turned.result) (offset_in c.offset_multiple-parts.result) (offset_in c.offset_sum.result) (offset_in c.offset_difference.result) (back w64 c.from.result)
    c.translation_of-t.ensures (c.of.ensures ∙ ap matrix_of c.w.ensures.value) (number ∙ c.over.ensures.value) c.image-turned.ensures
    (subst (λ v. offset_in c.offset_multiple-parts.result ≡ times (back w64 c.from.result) v) parts_is c.offset_multiple-parts.ensures) c.offset_sum.ensures c.offset_difference.ensures

pub returns-clause-size : goal.returns-clause-size
returns-clause-size c =
    let turned = turned_within near (matrix_in c.of.result) (offset_in c.translation_of-t.result) (offset_in c.image-turned.result) c.image-turned.ensures
    (subst (HasEntriesWithin 2) (sym (c.of.ensures ∙ ap matrix_of c.w.ensures.value)) c.w.ensures.narrow.within_two)
    (subst (λ (v : Column). AreWithin near v.x v.y v.z) (sym c.translation_of-t.ensures) c.requires) in
    let parts_is = c.of-2.ensures ∙ ap column_of c.t.ensures.value in
    let parts = subst (λ (v : Column). AreWithin UNIT v.x v.y v.z) (sym parts_is) (part_size c.args.f.now.t c.t.ensures.narrow.is_operator.in_cell) in
    let over = over_is c.args.s.now c.over.result c.over.ensures.special c.over.ensures.value in
    let number = number_kept c.from.result c.over.result c.from.ensures over.few in
    let multiple = multiple_within MAX_OPERATORS UNIT (back w64 c.from.result) (offset_in c.of-2.result) (offset_in c.offset_multiple-parts.result) c.offset_multiple-parts.ensures (subst (λ n. unsigned_abs n ≤ MAX_OPERATORS) (sym number) over.few) parts in
    let both = sum_within (6 * near) (MAX_OPERATORS * UNIT) (offset_in c.image-turned.result) (offset_in c.offset_multiple-parts.result) (offset_in c.offset_sum.result) c.offset_sum.ensures turned multiple in
    wider_column (near + (6 * near + MAX_OPERATORS * UNIT)) (10 ^ 8) (offset_in c.offset_difference.result) (omega arith)
    (difference_within near (6 * near + MAX_OPERATORS * UNIT) (offset_in c.translation_of-t.result) (offset_in c.offset_sum.result) (offset_in c.offset_difference.result) c.offset_difference.ensures
    (subst (λ (v : Column). AreWithin near v.x v.y v.z) (sym c.translation_of-t.ensures) c.requires) both)
