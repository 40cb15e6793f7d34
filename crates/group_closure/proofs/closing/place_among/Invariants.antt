use Rattle.std.proofs.Common.{◌≢◌, ℕ, ◌<◌, get_or}
use Rattle.lattice_algebra.specs.Operator.{Operator}
use Rattle.group_closure.proofs.closing.place_among.Given as goal

abbrev pub invariant-loop-i : goal.invariant-loop-i
invariant-loop-i l = (k : ℕ) (d : Operator) → k < l.i → get_or l.members k d ≢ l.op
