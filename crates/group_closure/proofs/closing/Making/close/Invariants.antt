use Rattle.group_closure.specs.Making.{IsMadeUpTo}
use Rattle.group_closure.proofs.closing.Making.close.Given as goal

abbrev pub invariant-loop-k : goal.invariant-loop-k
invariant-loop-k l = IsMadeUpTo l.list l.k l.self l.buckets
