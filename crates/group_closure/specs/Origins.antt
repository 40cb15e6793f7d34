-- How the members of a group are made, each but the first as the product of an earlier one by a generator.
use Rattle.std.specs.Prelude.{◌≡◌, ◌⊎◌, ◌<◌, ◌≤◌, ℕ, Some, List, [], ◌∷◌, ◌++◌, length, slice_get, slice_index}
use Rattle.std.specs.List.{Contains}
use Rattle.lattice_algebra.specs.Operator.{Operator, product}
use Rattle.exact_ops.specs.declared.TheConstants.{UNIT}
use Rattle.group_closure.specs.declared.closing.Origin.{Origin}

-- new is old, or op and origin were added at the ends, which only happens where old lacks op
abbrev pub AddsMade : List Operator → List Origin → Operator → Origin → List Operator → List Origin → Type 0
AddsMade old origins op origin new more = (Contains old op × (new ≡ old) × (more ≡ origins)) ⊎ ((¬ Contains old op) × (new ≡ old ++ op ∷ []) × (more ≡ origins ++ origin ∷ []))

-- the member at place c is the product of an earlier one by a generator
pub record IsOrigin (generators members : List Operator) (c : ℕ) (origin : Origin) : Type 0 where
  pub before : origin.earlier < c
  pub known : origin.generator < length generators
  pub value : (f g : Operator) → slice_get members origin.earlier ≡ Some f → slice_get generators origin.generator ≡ Some g → slice_get members c ≡ Some (product UNIT f g)

-- so is each member but the first
pub record AreOrigins (generators members : List Operator) (origins : List Origin) : Type 0 where
  pub count : length origins ≡ length members
  pub each : (c : ℕ) (origin : Origin) → 0 < c → slice_get origins c ≡ Some origin → IsOrigin generators members c origin

-- row has the places of the products of f by the generators
abbrev pub IsRow : List Operator → Operator → List Operator → List ℕ → Type 0
IsRow generators f members row = (k : ℕ) (g : Operator) → slice_get generators k ≡ Some g → slice_get members (slice_index row k) ≡ Some (product UNIT f g)

-- such a row of each of the first members
pub record AreProducts (generators members : List Operator) (products : List (List ℕ)) : Type 0 where
  pub within : length products ≤ length members
  pub each : (k : ℕ) (f : Operator) (row : List ℕ) → slice_get members k ≡ Some f → slice_get products k ≡ Some row → IsRow generators f members row
