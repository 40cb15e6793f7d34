-- The parts of a group in the making.
use Rattle.std.specs.Prelude.{◌≡◌, ◌<◌, ◌≤◌, ℕ, Some, List, [], length, slice_get, vec_capacity}
use Rattle.std.specs.List.{All, Contains}
use Rattle.lattice_algebra.specs.Operator.{Operator}
use Rattle.exact_ops.specs.Narrow.{IsNarrow}
use Rattle.group_closure.specs.declared.TheConstants.{MAX_OPERATORS}
use Rattle.group_closure.specs.declared.buckets.Buckets.{Buckets}
use Rattle.group_closure.specs.declared.closing.Making.{Making}
use Rattle.group_closure.specs.declared.closing.Origin.{Origin}
use Rattle.group_closure.specs.Buckets.{IsFiled}
use Rattle.group_closure.specs.Steps.{IsPartial, IsGenerated}
use Rattle.group_closure.specs.Origins.{AreOrigins, AreProducts}

-- there is room for as many operators as there may be, and for one member more
pub record HasRoom (making : Making) : Type 0 where
  pub generators : MAX_OPERATORS ≤ vec_capacity making.generators
  pub members : MAX_OPERATORS < vec_capacity making.members
  pub origins : MAX_OPERATORS < vec_capacity making.origins
  pub products : MAX_OPERATORS ≤ vec_capacity making.products

-- nothing is made, and there is room for all
pub record IsEmpty (making : Making) : Type 0 where
  pub generators : making.generators.items ≡ []
  pub members : making.members.items ≡ []
  pub origins : making.origins.items ≡ []
  pub products : making.products.items ≡ []
  pub room : HasRoom making

-- between two products
pub record IsUnderWay (generators members : List Operator) (origins : List Origin) (buckets : Buckets) : Type 0 where
  pub narrow : All IsNarrow generators
  pub few : length generators ≤ MAX_OPERATORS
  pub partial : IsPartial generators members
  pub within : length members ≤ MAX_OPERATORS
  pub origins_known : AreOrigins generators members origins
  pub filed : IsFiled members buckets

-- all that the generators make is made
pub record IsMade (making : Making) : Type 0 where
  pub narrow : All IsNarrow making.generators.items
  pub few : length making.generators.items < length making.members.items
  pub generated : IsGenerated making.generators.items making.members.items
  pub origins : AreOrigins making.generators.items making.members.items making.origins.items
  pub products : AreProducts making.generators.items making.members.items making.products.items
  pub all : length making.products.items ≡ length making.members.items

-- and there is room for what one more makes
pub record IsReady (making : Making) (buckets : Buckets) : Type 0 where
  pub made : IsMade making
  pub filed : IsFiled making.members.items buckets
  pub room : HasRoom making

-- the first k of the listed operators are members, and the generators are listed
pub record IsMadeUpTo (list : List Operator) (k : ℕ) (making : Making) (buckets : Buckets) : Type 0 where
  pub ready : IsReady making buckets
  pub members : (j : ℕ) (f : Operator) → j < k → slice_get list j ≡ Some f → Contains making.members.items f
  pub generators : All (Contains list) making.generators.items
