use Rattle.std.proofs.Common.{arith}
use Rattle.exact_ops.specs.declared.TheConstants.{UNIT}
use Rattle.lattice_algebra.proofs.Maps.{IsOperator-identity}
use Rattle.exact_ops.proofs.op.Op.identity.Goals as goal

pub invariant_of-result : goal.invariant_of-result
invariant_of-result c = record { is_operator = IsOperator-identity UNIT (omega arith); within_two = omega arith }
