-- The site-symmetry group of a point as a list. International Tables A; the order, that of the operators, is this project's own.
use Rattle.std.specs.Prelude.{◌≡◌, ◌<◌, ℕ, Some, List, slice_get}
use Rattle.std.specs.List.{AllPairs}
use Rattle.lattice_algebra.specs.Operator.{Operator}
use Rattle.lattice_algebra.specs.Map.{Map, operator_of}
use Rattle.lattice_algebra.specs.Point.{Point, ◌≈◌, image}
use Rattle.exact_ops.specs.declared.TheConstants.{UNIT}
use Rattle.space_groups.specs.Lists.{IsSiteList}

-- some element of the operator f maps x to itself
abbrev pub SomeElementFixes : Operator → Point → Type 0
SomeElementFixes f x = (s : Map) × (operator_of UNIT s ≡ f) × (image UNIT s x ≈ x)

-- in the list of members the operator of a stands before that of b
abbrev pub StandsBefore : List Operator → Map → Map → Type 0
StandsBefore members a b = (i j : ℕ) → slice_get members i ≡ Some (operator_of UNIT a) → slice_get members j ≡ Some (operator_of UNIT b) → i < j

-- the list has each element of the site-symmetry group of x once, in the order of their operators
pub record IsOrderedSite (members : List Operator) (x : Point) (list : List Map) : Type 0 where
  pub site : IsSiteList UNIT members x list
  pub ordered : AllPairs (StandsBefore members) list
