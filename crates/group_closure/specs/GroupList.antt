-- Groups of operators as lists.
use Rattle.std.specs.Prelude.{◌≡◌, ◌≤◌, ◌↔◌, Some, List, length, drop, slice_get}
use Rattle.std.specs.List.{All, Contains}
use Rattle.std.specs.List.Sorted.{IsStrictlySortedBy}
use Rattle.lattice_algebra.specs.Operator.{Operator, product, identity_operator}
use Rattle.exact_ops.specs.Narrow.{IsNarrow}
use Rattle.exact_ops.specs.declared.TheConstants.{UNIT}
use Rattle.group_closure.specs.declared.TheConstants.{MAX_OPERATORS}
use Rattle.group_closure.specs.Order.{operator_cmp}
use Rattle.group_closure.specs.Words.{Span, AreDistinct}

-- the group list of a list: the identity first, then every other member of Span, each once, in order
pub record IsGroupList (list members : List Operator) : Type 0 where
  pub first : slice_get members 0 ≡ Some identity_operator
  pub span : (f : Operator) → Contains members f ↔ Span list f
  pub distinct : AreDistinct members
  pub sorted : IsStrictlySortedBy operator_cmp (drop 1 members)

-- a group modulo the cell, in order: the identity first, each member once, the product of each two, at most MAX_OPERATORS members,
-- and none with an entry beyond 2
pub record IsGroup (members : List Operator) : Type 0 where
  pub first : slice_get members 0 ≡ Some identity_operator
  pub distinct : AreDistinct members
  pub closed : (f g : Operator) → Contains members f → Contains members g → Contains members (product UNIT f g)
  pub sorted : IsStrictlySortedBy operator_cmp (drop 1 members)
  pub narrow : All IsNarrow members
  pub within : length members ≤ MAX_OPERATORS
