-- Site-symmetry groups and orbits as lists.
use Rattle.std.specs.Prelude.{◌≢◌, ℕ, ◌↔◌, List}
use Rattle.std.specs.List.{AllPairs, Contains}
use Rattle.lattice_algebra.specs.Operator.{Operator}
use Rattle.lattice_algebra.specs.Map.{Map}
use Rattle.lattice_algebra.specs.Point.{Point, IsPoint, ◌≈◌}
use Rattle.space_groups.specs.Space.{IsInSite, IsInOrbit}

-- the list has each element of the site-symmetry group of x once
pub record IsSiteList (unit : ℕ) (members : List Operator) (x : Point) (list : List Map) : Type 0 where
  pub exactly : (g : Map) → Contains list g ↔ IsInSite unit members x g
  pub once : AllPairs (λ f g. f ≢ g) list

-- the list has each point of the orbit of x in the cell once
pub record IsOrbitList (unit : ℕ) (members : List Operator) (x : Point) (list : List Point) : Type 0 where
  pub in_orbit : (p : Point) → Contains list p → IsPoint p × IsInOrbit unit members x p
  pub has_each : (p : Point) → IsPoint p → IsInOrbit unit members x p → (q : Point) × Contains list q × (p ≈ q)
  pub once : AllPairs (λ p q. p ≈ q → ⊥) list
