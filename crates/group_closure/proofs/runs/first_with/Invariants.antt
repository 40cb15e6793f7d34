use Rattle.std.proofs.Common.{◌-◌}
use Rattle.group_closure.proofs.OneMatrix.{IsNarrowedTo}
use Rattle.group_closure.proofs.runs.first_with.Given as goal

abbrev pub invariant-loop-low : goal.invariant-loop-low
invariant-loop-low l = IsNarrowedTo l.members l.matrix l.low l.high

abbrev pub decreases-loop-low : goal.decreases-loop-low
decreases-loop-low l = l.high - l.low
