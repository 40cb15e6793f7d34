use Rattle.std.proofs.Common.{◌-◌}
use Rattle.exact_ops.specs.Fields.{matrix_in}
use Rattle.group_closure.specs.declared.TheConstants.{MAX_OPERATORS}
use Rattle.op_types.proofs.Cycles.{IsTurned}
use Rattle.op_types.proofs.cycle.cycle_of.Given as goal

abbrev pub invariant-loop-power : goal.invariant-loop-power
invariant-loop-power l = IsTurned (matrix_in l.p) l.order (matrix_in l.power) (matrix_in l.sum)

abbrev pub decreases-loop-power : goal.decreases-loop-power
decreases-loop-power l = MAX_OPERATORS - l.order
