use Rattle.std.proofs.Common.{◌≡◌, ◌+◌, ◌/◌, ◌<◌, Some, length, slice_get, refl, sym, arith, ◌∙◌}
use Rattle.std.proofs.lemmas.Bool.{true≢false}
use Rattle.lattice_algebra.proofs.Equality.{operator_eq-is}
use Rattle.group_closure.proofs.InOrder.{narrowed_all, narrowed_up, narrowed_down, narrowed_none}
use Rattle.group_closure.proofs.Ordered.{operator_ties}
use Rattle.group_closure.proofs.Places.{found, contains_at}
use Rattle.group_closure.proofs.halving.place_in_order.Goals as goal

first : (c : goal.Then-eq) → slice_get c.args.members.now 0 ≡ Some c.args.op.now
first c = found _ _ _ _ 0 refl c.requires.some_member c.index-members-0.is ((operator_eq-is c.index-members-0.result c.args.op.now c.eq.result c.eq.ensures).0 c.if-eq.true)

pub returns-then-eq-clause-some : goal.returns-then-eq-clause-some
returns-then-eq-clause-some c = (λ _. contains_at _ _ _ (first c), λ _. refl)

pub returns-then-eq-clause-place : goal.returns-then-eq-clause-place
returns-then-eq-clause-place c = first c

pub loop-low-init : goal.loop-low-init
loop-low-init c =
    narrowed_all c.args.members.now c.args.op.now c.requires.sorted c.requires.some_member c.index-members-0.result c.index-members-0.is (λ e. true≢false (sym ((operator_eq-is c.index-members-0.result c.args.op.now c.eq.result c.eq.ensures).1 e) ∙ c.if-eq.false))

pub loop-low-preserved-in-Less : goal.loop-low-preserved-in-Less
loop-low-preserved-in-Less c =
    narrowed_up c.args.members.now c.args.op.now c.requires.sorted c.loop-low.low c.loop-low.high ((c.loop-low.low + c.loop-low.high) / 2) c.index-members-middle.result c.loop-low.invariant (omega arith) (omega arith) c.index-members-middle.is (sym c.in-Less.ensures)

pub loop-low-preserved : goal.loop-low-preserved
loop-low-preserved c =
    narrowed_down c.args.members.now c.args.op.now c.requires.sorted c.loop-low.low c.loop-low.high ((c.loop-low.low + c.loop-low.high) / 2) c.index-members-middle.result c.loop-low.invariant (omega arith) (omega arith) c.index-members-middle.is (sym c.in-Greater.ensures)

here : (c : goal.In-Equal) → slice_get c.args.members.now ((c.loop-low.low + c.loop-low.high) / 2) ≡ Some c.args.op.now
here c =
    let l : (c.loop-low.low + c.loop-low.high) / 2 < c.loop-low.high = omega arith in
    let m : (c.loop-low.low + c.loop-low.high) / 2 < length c.args.members.now = omega (arith, l, c.loop-low.invariant.end_) in
    found _ _ _ _ _ refl m c.index-members-middle.is (operator_ties _ _ (sym c.in-Equal.ensures))

pub returns-in-Equal-clause-some : goal.returns-in-Equal-clause-some
returns-in-Equal-clause-some c = (λ _. contains_at _ _ _ (here c), λ _. refl)

pub returns-in-Equal-clause-place : goal.returns-in-Equal-clause-place
returns-in-Equal-clause-place c = here c

pub returns-clause-some : goal.returns-clause-some
returns-clause-some c = (λ e. absurd (true≢false (sym e)), λ m. absurd (narrowed_none c.args.members.now c.args.op.now c.requires.sorted c.loop-low.low c.loop-low.high c.loop-low.invariant c.loop-low-test.false m))
