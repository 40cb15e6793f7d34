-- The expansion of labelled sites to the points of their orbits in the cell. International Tables A, "crystallographic orbit".
use Rattle.std.specs.Prelude.{◌≡◌, ◌<◌, ◌↔◌, ℕ, List, Option, Some, None, length, slice_get}
use Rattle.std.specs.List.{All, Contains}
use Rattle.lattice_algebra.specs.Operator.{Operator}
use Rattle.lattice_algebra.specs.Point.{Point, IsPoint, ◌≈◌}
use Rattle.exact_ops.specs.declared.TheConstants.{UNIT}
use Rattle.space_groups.specs.Space.{IsInOrbit}
use Rattle.orbit_map.specs.OrderedOrbit.{IsScaled, IsOrderedOrbit}
use Rattle.atom_expand.specs.declared.expansion.Expanded.{Expanded}
use Rattle.atom_expand.specs.declared.expansion.Expanded.TheVariants.{First, Same}
use Rattle.atom_expand.specs.Sites.{AtomSite}

-- the orbits of x and y have the same points in the cell
abbrev pub HaveOneOrbit : List Operator → Point → Point → Type 0
HaveOneOrbit members x y = (p : Point) → IsPoint p → IsInOrbit UNIT members x p ↔ IsInOrbit UNIT members y p

-- the first site whose orbit is that of x stands at place j
pub record IsFirstWith (members : List Operator) (sites : List AtomSite) (x : Point) (j : ℕ) : Type 0 where
  pub site : AtomSite
  pub here : slice_get sites j ≡ Some site
  pub one : HaveOneOrbit members site.at x
  pub first : (i : ℕ) (other : AtomSite) → i < j → slice_get sites i ≡ Some other → ¬ HaveOneOrbit members other.at x

-- the site x at place k: the points of its orbit, ascending, where it is the first with this orbit; or the first, which stands before it
abbrev pub IsExpandedTo : List Operator → List AtomSite → ℕ → Point → Expanded → Type 0
IsExpandedTo members sites k x (First points) = IsFirstWith members sites x k × IsOrderedOrbit members x points
IsExpandedTo members sites k x (Same j) = IsFirstWith members sites x j × (j < k)

-- each site is expanded so
pub record IsExpansion (members : List Operator) (sites : List AtomSite) (entries : List Expanded) : Type 0 where
  pub as_many : length entries ≡ length sites
  pub each : (k : ℕ) (site : AtomSite) (entry : Expanded) → slice_get sites k ≡ Some site → slice_get entries k ≡ Some entry → IsExpandedTo members sites k site.at entry

-- ---- what an expansion says of a site

-- the orbit of the site at place k: the points under it, or those under the first site with this orbit
pub data HasOrbit (entries : List Expanded) (k : ℕ) : List Point → Type 0 where
  own : {points : List Point} → slice_get entries k ≡ Some (First points) → HasOrbit entries k points
  shared : {j : ℕ} {points : List Point} → slice_get entries k ≡ Some (Same j) → slice_get entries j ≡ Some (First points) → HasOrbit entries k points

-- the orbit of the site at place k has this property
pub record OfOrbit (entries : List Expanded) (k : ℕ) (IsSuch : List Point → Type 0) : Type 0 where
  pub points : List Point
  pub has_orbit : HasOrbit entries k points
  pub such : IsSuch points

-- the place of the first site with the orbit of the site at place k, where that is an earlier one
abbrev pub same_at : Option Expanded → Option ℕ
same_at (Some (Same j)) = Some j
same_at other = None

-- p is one of the points under the site at place k
pub record StandsUnder (entries : List Expanded) (p : Point) (k : ℕ) : Type 0 where
  pub points : List Point
  pub under : slice_get entries k ≡ Some (First points)
  pub written : Point
  pub among : Contains points written
  pub same : written ≈ p

-- it stands under the site at place k alone
pub record StandsOnce (entries : List Expanded) (p : Point) (k : ℕ) : Type 0 where
  pub here : StandsUnder entries p k
  pub only : (i : ℕ) → StandsUnder entries p i → i ≡ k

-- the first site whose orbit has the point p stands at place j
pub record IsFirstThrough (members : List Operator) (sites : List AtomSite) (p : Point) (j : ℕ) : Type 0 where
  pub site : AtomSite
  pub here : slice_get sites j ≡ Some site
  pub through : IsInOrbit UNIT members site.at p
  pub first : (i : ℕ) (other : AtomSite) → i < j → slice_get sites i ≡ Some other → ¬ IsInOrbit UNIT members other.at p

-- each site stands at a point, or at one whose denominator is a multiple of UNIT
abbrev pub AreAtPoints : List AtomSite → Type 0
AreAtPoints sites = All (λ (site : AtomSite). IsPoint site.at) sites

abbrev pub AreAtScaledPoints : List AtomSite → Type 0
AreAtScaledPoints sites = All (λ (site : AtomSite). IsScaled site.at) sites
