use Rattle.std.proofs.Common.{◌-◌}
use Rattle.group_closure.proofs.InOrder.{IsNarrowed}
use Rattle.group_closure.proofs.halving.place_in_order.Given as goal

abbrev pub invariant-loop-low : goal.invariant-loop-low
invariant-loop-low l = IsNarrowed l.members l.op l.low l.high

abbrev pub decreases-loop-low : goal.decreases-loop-low
decreases-loop-low l = l.high - l.low
