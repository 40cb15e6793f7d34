use Rattle.std.proofs.Common.{◌≡◌, ◌≢◌, Some, slice_get, refl, sym, ◌∙◌}
use Rattle.std.proofs.lemmas.Bool.{true≢false}
use Rattle.lattice_algebra.proofs.Equality.{operator_eq-is}
use Rattle.group_closure.proofs.Places.{found, contains_at, other_more}
use Rattle.group_closure.proofs.closing.place_among.Goals as goal

here : (c : goal.Then-eq) → slice_get c.args.members.now c.loop-i.i ≡ Some c.args.op.now
here c = found _ _ _ _ _ refl c.loop-i-test.true c.index-members-i.is ((operator_eq-is c.index-members-i.result c.args.op.now c.eq.result c.eq.ensures).0 c.if-eq.true)

pub returns-then-eq-clause-some : goal.returns-then-eq-clause-some
returns-then-eq-clause-some c = (λ _. contains_at _ _ _ (here c), λ _. refl)

pub returns-then-eq-clause-place : goal.returns-then-eq-clause-place
returns-then-eq-clause-place c = here c

pub loop-i-preserved : goal.loop-i-preserved
loop-i-preserved c =
    let other : c.index-members-i.result ≢ c.args.op.now = λ e. true≢false (sym ((operator_eq-is c.index-members-i.result c.args.op.now c.eq.result c.eq.ensures).1 e) ∙ c.if-eq.false) in
    other_more c.args.members.now _ c.args.op.now _ c.loop-i.i refl c.loop-i-test.true c.index-members-i.is other c.loop-i.invariant
