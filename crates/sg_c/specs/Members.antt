-- What is told of the members of a group, as C has it.
use Rattle.std.specs.Prelude.{◌≡◌, ◌↔◌, ℕ, Some, IsTrue, List, slice_get}
use Rattle.lattice_algebra.specs.Matrix.{Matrix, origin, entries, coordinates, column_of}
use Rattle.lattice_algebra.specs.Operator as lattice
use Rattle.lattice_algebra.specs.Powers.{IsOrder}
use Rattle.op_types.specs.ProperPart.{IsProper, IsProperPart}
use Rattle.op_types.specs.IntrinsicPart.{IsIntrinsicPart}
use Rattle.op_types.specs.Axis.{IsLine, IsAxis}
use Rattle.sg_c.specs.declared.group.Operator.{Operator}
use Rattle.sg_c.specs.declared.members.OperatorType.{OperatorType}

-- the operator has the numbers of the member
pub record IsOperatorOf (member : lattice.Operator) (op : Operator) : Type 0 where
  pub matrix : op.w ≡ entries member.w
  pub translation : op.t ≡ coordinates member.t

-- the operator has the numbers of the member at this place
pub record IsOperatorAt (members : List lattice.Operator) (place : ℕ) (op : Operator) : Type 0 where
  pub member : lattice.Operator
  pub is : slice_get members place ≡ Some member
  pub numbers : IsOperatorOf member op

-- the type of the member: the handedness and the order of its proper part, its intrinsic part, and its axis, or 0 0 0 where it has
-- none
pub record IsTypeAs (member : lattice.Operator) (type : OperatorType) : Type 0 where
  pub handedness : IsTrue type.proper ↔ IsProper member.w
  pub order : (p : Matrix) → IsProperPart member.w p → IsOrder p type.order
  pub intrinsic : IsIntrinsicPart member (column_of type.intrinsic) type.denominator
  pub axis : (p : Matrix) → IsProperPart member.w p → IsLine p → IsAxis p (column_of type.axis)
  pub no_axis : (p : Matrix) → IsProperPart member.w p → (IsLine p → ⊥) → column_of type.axis ≡ origin
