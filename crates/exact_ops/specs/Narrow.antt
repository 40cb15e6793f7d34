-- The operators that a group within the limits can have.
use Rattle.lattice_algebra.specs.Operator.{Operator, IsOperator, HasEntriesWithin}
use Rattle.exact_ops.specs.declared.TheConstants.{UNIT}

-- an operator whose matrix has entries from -2 to 2
pub record IsNarrow (f : Operator) : Type 0 where
  pub is_operator : IsOperator UNIT f
  pub within_two : HasEntriesWithin 2 f.w
