-- What the types of operators are, all three answers together.
use Rattle.std.specs.Prelude.{◌≡◌, ◌↔◌, IsTrue, Bool, ℕ, ℤ, Option, Some, None}
use Rattle.lattice_algebra.specs.Matrix.{Matrix, Column, times}
use Rattle.lattice_algebra.specs.Operator.{Operator}
use Rattle.lattice_algebra.specs.Powers.{IsOrder}
use Rattle.op_types.specs.ProperPart.{IsProper, IsProperPart}
use Rattle.op_types.specs.IntrinsicPart.{IsIntrinsicPart}
use Rattle.op_types.specs.Axis.{IsLine, IsAxis}

-- the kind of an operation, its intrinsic part as three fractions with one denominator, and its axis
pub record OperationType : Type 0 where
  pub order : ℕ
  pub proper : Bool
  pub part : Column
  pub denominator : ℤ
  pub axis : Option Column

-- the axis of P, or none where the columns that it fixes are no line
abbrev pub HasAxis : Matrix → Option Column → Type 0
HasAxis p (Some a) = IsAxis p a
HasAxis p None = IsLine p → ⊥

-- the operator is of this type
pub record IsTypeOf (f : Operator) (t : OperationType) : Type 0 where
  pub handedness : IsTrue t.proper ↔ IsProper f.w
  pub order : (p : Matrix) → IsProperPart f.w p → IsOrder p t.order
  pub part : IsIntrinsicPart f t.part t.denominator
  pub axis : (p : Matrix) → IsProperPart f.w p → HasAxis p t.axis

-- both types say the same: the fractions have equal values
pub record AgreeInType (s t : OperationType) : Type 0 where
  pub order : s.order ≡ t.order
  pub proper : s.proper ≡ t.proper
  pub part : times s.denominator t.part ≡ times t.denominator s.part
  pub axis : s.axis ≡ t.axis
