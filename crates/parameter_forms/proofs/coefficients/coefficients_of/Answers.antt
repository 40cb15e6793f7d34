use Rattle.std.proofs.Common.{◌≡◌, ◌*◌, ◌^◌, ℤ, to_z, of_z, w32, w64, sym, ap, ap₂, ◌∙◌}
use Rattle.std.proofs.lemmas.Bool.{false≢true}
use Rattle.lattice_algebra.specs.Matrix.{Matrix, Column, origin}
use Rattle.lattice_algebra.specs.Operator.{AreWithin, HasEntriesWithin}
use Rattle.lattice_algebra.proofs.Machine.{kept}
use Rattle.exact_ops.specs.Fields.{matrix_in, column_in}
use Rattle.exact_ops.specs.declared.TheConstants.{MAX_ENTRY}
use Rattle.parameter_forms.specs.declared.TheConstants.{MAX_MATRIX, MAX_MINOR}
use Rattle.parameter_forms.specs.Finding.{cross_product}
use Rattle.parameter_forms.proofs.Spanning.{first, second, third, all_along, all_free, plane_found, line_found, other_within, other_of, none_of, same_three}
use Rattle.parameter_forms.proofs.coefficients.coefficients_of.Goals as goal

-- a column of numbers that went to bits
abbrev machine_column : ℤ → ℤ → ℤ → Column
machine_column x y z = record { x = to_z w32 (of_z w32 x); y = to_z w32 (of_z w32 y); z = to_z w32 (of_z w32 z) }

module _ (m : Matrix) (h : HasEntriesWithin MAX_MATRIX m) where
  first_passed : machine_column m.xx m.yx m.zx ≡ first m
  first_passed = λ i. record { x = kept w32 MAX_MATRIX m.xx h.x.first tt i; y = kept w32 MAX_MATRIX m.yx h.y.first tt i; z = kept w32 MAX_MATRIX m.zx h.z.first tt i }

  second_passed : machine_column m.xy m.yy m.zy ≡ second m
  second_passed = λ i. record { x = kept w32 MAX_MATRIX m.xy h.x.second tt i; y = kept w32 MAX_MATRIX m.yy h.y.second tt i; z = kept w32 MAX_MATRIX m.zy h.z.second tt i }

  third_passed : machine_column m.xz m.yz m.zz ≡ third m
  third_passed = λ i. record { x = kept w32 MAX_MATRIX m.xz h.x.third tt i; y = kept w32 MAX_MATRIX m.yz h.y.third tt i; z = kept w32 MAX_MATRIX m.zz h.z.third tt i }

  first_within : AreWithin MAX_MATRIX (first m).x (first m).y (first m).z
  first_within = record { first = h.x.first; second = h.y.first; third = h.z.first }

  second_within : AreWithin MAX_MATRIX (second m).x (second m).y (second m).z
  second_within = record { first = h.x.second; second = h.y.second; third = h.z.second }

  third_within : AreWithin MAX_MATRIX (third m).x (third m).y (third m).z
  third_within = record { first = h.x.third; second = h.y.third; third = h.z.third }

pub returns-then-determinant-ne0-clause-matrix : goal.returns-then-determinant-ne0-clause-matrix
returns-then-determinant-ne0-clause-matrix c = let m = matrix_in c.args.m.now in all_free m (all_along m (λ e. c.if-determinant-ne0.true (ap (of_z w64) (c.determinant.ensures.value ∙ e))))

pub plane-requires-clause-small : goal.plane-requires-clause-small
plane-requires-clause-small c =
    other_within MAX_MINOR (column_in c.cross.result) (column_in c.cross-2.result) (column_in c.cross-3.result) (column_in c.first_other-normal.result)
    c.first_other-normal.ensures c.cross.ensures.size c.cross-2.ensures.size c.cross-3.ensures.size

pub returns-then-not-is_nothing-clause-matrix : goal.returns-then-not-is_nothing-clause-matrix
returns-then-not-is_nothing-clause-matrix c =
    let m = matrix_in c.args.m.now in
    let x = first_passed m c.requires in
    let y = second_passed m c.requires in
    let z = third_passed m c.requires in
    let l = column_in c.first_other-normal.result in
    let one = same_three _ _ _ (cross_product (second m) (third m)) (cross_product (third m) (first m)) (cross_product (first m) (second m)) l
    (c.cross.ensures.value ∙ ap₂ cross_product y z) (c.cross-2.ensures.value ∙ ap₂ cross_product z x) (c.cross-3.ensures.value ∙ ap₂ cross_product x y) c.first_other-normal.ensures in
    let some = λ (e : l ≡ origin). false≢true (sym c.if-not-is_nothing.true ∙ c.is_nothing.ensures.1 e) in
    let none = sym c.determinant.ensures.value ∙ sym (kept w64 (6 * MAX_ENTRY ^ 3) c.determinant.result c.determinant.ensures.size tt) ∙ ap (to_z w64) c.if-determinant-ne0.false in
    c.plane.ensures.matrix m (plane_found m l none some (other_of _ _ _ l one some))

pub line-requires : goal.line-requires
line-requires c =
    let m = matrix_in c.args.m.now in
    let v = column_in c.first_other.result in
    other_within MAX_MATRIX (first m) (second m) (third m) v (same_three _ _ _ (first m) (second m) (third m) v (first_passed m c.requires) (second_passed m c.requires) (third_passed m c.requires) c.first_other.ensures)
    (first_within m c.requires) (second_within m c.requires) (third_within m c.requires)

pub returns-clause-matrix : goal.returns-clause-matrix
returns-clause-matrix c =
    let m = matrix_in c.args.m.now in
    let x = first_passed m c.requires in
    let y = second_passed m c.requires in
    let z = third_passed m c.requires in
    let v = column_in c.first_other.result in
    let l = column_in c.first_other-normal.result in
    let none = none_of _ _ _ l c.first_other-normal.ensures (c.is_nothing.ensures.0 c.if-not-is_nothing.false) in
    let bc = sym (c.cross.ensures.value ∙ ap₂ cross_product y z) ∙ none.0 in
    let ca = sym (c.cross-2.ensures.value ∙ ap₂ cross_product z x) ∙ none.1 in
    let ab = sym (c.cross-3.ensures.value ∙ ap₂ cross_product x y) ∙ none.2 in
    c.line.ensures.matrix m (line_found m ab bc ca v (same_three _ _ _ (first m) (second m) (third m) v x y z c.first_other.ensures))
