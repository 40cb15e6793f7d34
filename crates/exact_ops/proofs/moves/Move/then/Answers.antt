use Rattle.std.proofs.Common.{ℤ, List, sym, ◌∙◌, refl}
use Rattle.lattice_algebra.specs.Matrix.{column_of}
use Rattle.lattice_algebra.specs.Map.{◌∘◌, IsShift}
use Rattle.exact_ops.specs.declared.TheConstants.{UNIT}
use Rattle.exact_ops.specs.Moves.{map_with}
use Rattle.exact_ops.proofs.WholeShifts.{sums, IsShift-sums, shift_test, product_is}
use Rattle.exact_ops.proofs.moves.Move.then.Goals as goal

pub returns-then-not-are_shifts-clause-some : goal.returns-then-not-are_shifts-clause-some
returns-then-not-are_shifts-clause-some c =
    let f = c.args.next.now.op in
    let g = c.args.self.now.op in
    let r = c.shift_after.result in
    let s = c.args.next.now.shift in
    let t = c.args.self.now.shift in
    let i = IsShift-sums f g r s t c.shift_after.ensures.value c.shift_after.ensures.within c.args.next.now.in_range in
    λ k j. (λ e. cc, λ h. sym c.if-not-are_shifts.true ∙ (shift_test f g (sums r s) s t c.are_shifts.result i c.are_shifts.ensures k j).1 h.1)

pub invariant_of-result : goal.invariant_of-result
invariant_of-result c = record { in_range = c.are_shifts.ensures.0 c.if-not-are_shifts.false }

abbrev shifts : goal.After-result-1 → List ℤ
shifts c = sums c.shift_after.result c.args.next.now.shift

is_shift : (c : goal.After-result-1) → IsShift UNIT (map_with c.args.next.now.op c.args.next.now.shift ∘ map_with c.args.self.now.op c.args.self.now.shift) (column_of (shifts c))
is_shift c = IsShift-sums c.args.next.now.op c.args.self.now.op c.shift_after.result c.args.next.now.shift c.args.self.now.shift c.shift_after.ensures.value c.shift_after.ensures.within c.args.next.now.in_range

pub returns-clause-some : goal.returns-clause-some
returns-clause-some c =
    λ k j. (λ _. (c.in_ok-op.ensures.some.0 refl, (shift_test c.args.next.now.op c.args.self.now.op (shifts c) c.args.next.now.shift c.args.self.now.shift c.are_shifts.result (is_shift c) c.are_shifts.ensures k j).0 c.if-not-are_shifts.false), λ _. refl)

pub returns-clause-value : goal.returns-clause-value
returns-clause-value c = product_is c.args.next.now.op c.args.self.now.op c.in_ok-op.op (shifts c) c.args.next.now.shift c.args.self.now.shift c.in_ok-op.ensures.value (is_shift c)
