use Rattle.std.proofs.Common.{◌≤◌, pos, unsigned_abs, w64, ap, sym, ◌∙◌, subst, arith, Contains}
use Rattle.std.proofs.lemmas.List.Elements.{All-contains, All-cons}
use Rattle.lattice_algebra.specs.Matrix.{Column, ◌+ᶜ◌, times}
use Rattle.lattice_algebra.specs.Operator.{Operator, IsOperator, AreWithin}
use Rattle.lattice_algebra.specs.Map.{Map, IsShift}
use Rattle.lattice_algebra.proofs.Maps.{shifted, operator_of-shifted, one_shift}
use Rattle.lattice_algebra.proofs.Machine.{back, kept}
use Rattle.lattice_algebra.proofs.Remainders.{modulo_same, modulo_part}
use Rattle.exact_ops.specs.declared.TheConstants.{UNIT}
use Rattle.exact_ops.specs.Narrow.{IsNarrow}
use Rattle.exact_ops.proofs.Narrow.{some_parts}
use Rattle.group_closure.proofs.Places.{contains_at}
use Rattle.affine_sets.specs.declared.TheConstants.{MAX_GROWN_SHIFT, MAX_NEAR_SHIFT}
use Rattle.affine_sets.proofs.Groups.{shifts_wider}
use Rattle.library_examples.proofs.averages.grown_by_inversion.Goals as goal

whole_shift : (f : Operator) (k : Column) → IsOperator UNIT f → IsShift UNIT (shifted UNIT f k) k
whole_shift f k o = ap (λ c. c +ᶜ times (pos UNIT) k) (sym (modulo_same UNIT some_parts (f.t +ᶜ times (pos UNIT) k) f.t k (λ i. f.t +ᶜ times (pos UNIT) k) ∙ modulo_part UNIT some_parts f.t o.in_cell))

pub grow-requires-clause-element : goal.grow-requires-clause-element
grow-requires-clause-element c =
    let f : Operator = c.op-op.result in
    let at = contains_at c.args.g.now f 1 c.op-op.ensures.value in
    let o = (All-contains IsNarrow c.args.g.now f c.op-op.ensures.group.narrow at).is_operator in
    subst (Contains c.args.g.now) (sym (operator_of-shifted UNIT some_parts f _ o)) at

pub grow-requires-clause-shifts : goal.grow-requires-clause-shifts
grow-requires-clause-shifts c =
    let f : Operator = c.op-op.result in
    let at = contains_at c.args.g.now f 1 c.op-op.ensures.value in
    let o = (All-contains IsNarrow c.args.g.now f c.op-op.ensures.group.narrow at).is_operator in
    let k : Column = record { x = back w64 c.args.x; y = pos 0; z = pos 0 } in
    let near = subst (λ v. unsigned_abs v ≤ MAX_GROWN_SHIFT) (sym (kept w64 MAX_NEAR_SHIFT c.args.x c.requires.near tt)) (omega (arith, c.requires.near)) in
    All-cons (λ (e : Map). (j : Column) → IsShift UNIT e j → AreWithin MAX_GROWN_SHIFT j.x j.y j.z) _ c.args.s.now
    (λ j s. subst (λ (v : Column). AreWithin MAX_GROWN_SHIFT v.x v.y v.z) (one_shift UNIT some_parts (shifted UNIT f k) k j (whole_shift f k o) s) (record { first = near; second = omega arith; third = omega arith }))
    (shifts_wider MAX_NEAR_SHIFT MAX_GROWN_SHIFT c.args.s.now (omega arith) c.requires.shifts)
