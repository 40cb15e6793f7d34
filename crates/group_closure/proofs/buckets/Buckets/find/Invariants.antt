use Rattle.group_closure.proofs.Filed.{IsCandidate}
use Rattle.group_closure.proofs.buckets.Buckets.find.Given as goal

abbrev pub invariant-loop-candidate : goal.invariant-loop-candidate
invariant-loop-candidate l = IsCandidate l.members l.op l.candidate

abbrev pub decreases-loop-candidate : goal.decreases-loop-candidate
decreases-loop-candidate l = l.candidate
