-- The space group of a list of operators, site-symmetry groups, orbits and conjugate points. International Tables A.
use Rattle.std.specs.Prelude.{◌≡◌, ◌≢◌, ℕ, ◌<◌, pos, ◌*ℤ◌, ◌≤ℤ◌, ◌<ℤ◌, ◌↔◌, List, All, AllPairs, Contains}
use Rattle.lattice_algebra.specs.Matrix.{Column, ◌·ᶜ◌, ◌+ᶜ◌, times}
use Rattle.lattice_algebra.specs.Operator.{Operator, IsOperator, identity_operator, product, HasEntriesWithin}
use Rattle.lattice_algebra.specs.Map.{Map, ◌∘◌, AreInverse, operator_of}
use Rattle.lattice_algebra.specs.Point.{Point, ◌≈◌, image}

-- the operators of a group modulo the cell, each once, with matrices whose entries are of size at most 2
pub record IsMembers (unit : ℕ) (members : List Operator) : Type 0 where
  pub operators : All (IsOperator unit) members
  pub once : AllPairs (λ f g. f ≢ g) members
  pub identity : Contains members identity_operator
  pub products : (f g : Operator) → Contains members f → Contains members g → Contains members (product unit f g)
  pub narrow : (f : Operator) → Contains members f → HasEntriesWithin 2 f.w

-- g is an element of the space group: the map of a member, with whole shifts
abbrev pub IsElement : ℕ → List Operator → Map → Type 0
IsElement unit members g = Contains members (operator_of unit g)

-- g is in the site-symmetry group of x: an element that maps x to itself
pub record IsInSite (unit : ℕ) (members : List Operator) (x : Point) (g : Map) : Type 0 where
  pub element : IsElement unit members g
  pub fixes : image unit g x ≈ x

-- each coordinate is at least 0 and below 1
abbrev pub IsInCell : Point → Type 0
IsInCell p = (pos 0 ≤ℤ p.n.x) × (p.n.x <ℤ p.d) × (pos 0 ≤ℤ p.n.y) × (p.n.y <ℤ p.d) × (pos 0 ≤ℤ p.n.z) × (p.n.z <ℤ p.d)

-- p is a point of the orbit of x in the cell: an image of x with coordinates from 0 to below 1
pub record IsInOrbit (unit : ℕ) (members : List Operator) (x p : Point) : Type 0 where
  pub by : Map
  pub element : IsElement unit members by
  pub is_image : image unit by x ≈ p
  pub in_cell : IsInCell p

-- x and y are conjugate: some element g makes the site-symmetry group of y from that of x, by s -> g s g^-1
pub record AreConjugate (unit : ℕ) (members : List Operator) (x y : Point) : Type 0 where
  pub by : Map
  pub back : Map
  pub element : IsElement unit members by
  pub inverse : AreInverse by back
  pub exactly : (s : Map) → IsElement unit members s → IsInSite unit members x s ↔ IsInSite unit members y (by ∘ s ∘ back)

-- ---- points over a denominator that is a multiple of unit: every image keeps it

-- the point n / (unit d)
pub record ScaledPoint : Type 0 where
  pub n : Column
  pub d : ℕ
  pub some : 0 < d

abbrev pub point_of : ℕ → ScaledPoint → Point
point_of unit y = record { n = y.n; d = pos unit *ℤ pos y.d }

unfoldable pub moved : Map → ScaledPoint → ScaledPoint
moved g y = record { n = g.w ·ᶜ y.n +ᶜ times (pos y.d) g.s; d = y.d; some = y.some }

-- ---- conjugate points, member by member

-- x and y have the same element of the operator f in their site-symmetry groups, or both none
abbrev pub HaveSameElement : ℕ → List Operator → Operator → Point → Point → Type 0
HaveSameElement unit members f x y = (s : Map) → operator_of unit s ≡ f → IsInSite unit members x s ↔ IsInSite unit members y s
