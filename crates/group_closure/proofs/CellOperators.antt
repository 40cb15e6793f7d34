-- The operators modulo the cell as one of the groups that the laws of finite groups speak of.
use Rattle.finite_groups.specs.Groups.{Group}
use Rattle.lattice_algebra.proofs.Operators.{operators}
use Rattle.exact_ops.specs.declared.TheConstants.{UNIT}
use Rattle.exact_ops.proofs.Narrow.{some_parts}

abbrev pub cell_operators : Group
cell_operators = operators UNIT some_parts
