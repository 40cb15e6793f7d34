use Rattle.std.proofs.Common.{◌≡◌, ◌≢◌, ◌-◌, ◌<◌, Some, length, slice_get, get_or, refl, sym, ap, arith, subst, ◌∙◌}
use Rattle.std.proofs.lemmas.Bool.{true≢false}
use Rattle.lattice_algebra.proofs.Equality.{operator_eq-is}
use Rattle.group_closure.proofs.Filed.{IsCandidate, candidate_next, nowhere}
use Rattle.group_closure.proofs.Places.{contains_at, read_at}
use Rattle.group_closure.proofs.buckets.Buckets.find.Goals as goal

here : (c : goal.Then-eq) → slice_get c.args.members.now (c.loop-candidate.candidate - 1) ≡ Some c.args.op.now
here c =
    let l : c.loop-candidate.candidate - 1 < length c.args.members.now = omega (arith, c.loop-candidate-test.true, c.loop-candidate.invariant.within) in
    read_at c.args.members.now c.args.members.now _ _ _ refl c.from.ensures l c.index-members-from.is ∙ ap Some ((operator_eq-is c.index-members-from.result c.args.op.now c.eq.result c.eq.ensures).0 c.if-eq.true)

pub returns-then-eq-clause-some : goal.returns-then-eq-clause-some
returns-then-eq-clause-some c = (λ _. contains_at _ _ _ (here c), λ _. refl)

pub returns-then-eq-clause-place : goal.returns-then-eq-clause-place
returns-then-eq-clause-place c = here c

pub loop-candidate-preserved : goal.loop-candidate-preserved
loop-candidate-preserved c =
    let l : c.loop-candidate.candidate - 1 < length c.args.members.now = omega (arith, c.loop-candidate-test.true, c.loop-candidate.invariant.within) in
    let at : slice_get c.args.members.now (c.loop-candidate.candidate - 1) ≡ Some c.index-members-from.result = read_at c.args.members.now c.args.members.now _ _ _ refl c.from.ensures l c.index-members-from.is in
    let other : c.index-members-from.result ≢ c.args.op.now = λ e. true≢false (sym ((operator_eq-is c.index-members-from.result c.args.op.now c.eq.result c.eq.ensures).1 e) ∙ c.if-eq.false) in
    subst (λ j. IsCandidate c.args.members.now c.args.op.now (get_or c.args.self.now.before j 0)) (sym c.from-in-loop-candidate.ensures)
    (candidate_next c.args.members.now c.args.self.now.heads c.args.self.now.before c.args.op.now c.requires.filed c.loop-candidate.candidate c.index-members-from.result c.loop-candidate.invariant c.loop-candidate-test.true at other)

pub returns-clause-some : goal.returns-clause-some
returns-clause-some c = (λ e. absurd (true≢false (sym e)), λ m. absurd (nowhere c.args.members.now c.args.op.now c.loop-candidate.candidate c.loop-candidate.invariant c.loop-candidate-test.false m))
