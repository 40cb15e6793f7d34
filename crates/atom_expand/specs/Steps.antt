-- What the steps of an expansion find and keep.
use Rattle.std.specs.Prelude.{◌≡◌, ◌<◌, ℕ, List, Some, slice_get}
use Rattle.lattice_algebra.specs.Point.{Point, ◌≈◌}
use Rattle.space_groups.specs.Space.{IsInCell}
use Rattle.atom_expand.specs.declared.expansion.Expanded.{Expanded}
use Rattle.atom_expand.specs.declared.expansion.Expanded.TheVariants.{First, Same}

-- the list begins with a point in the cell
pub record BeginsInCell (points : List Point) : Type 0 where
  pub least : Point
  pub here : slice_get points 0 ≡ Some least
  pub in_cell : IsInCell least

-- the list begins with a point that is p
pub record BeginsWith (p : Point) (points : List Point) : Type 0 where
  pub least : Point
  pub here : slice_get points 0 ≡ Some least
  pub same : least ≈ p

-- the points under a site, where it has some, have this property
abbrev pub IfFirst : (List Point → Type 0) → Expanded → Type 0
IfFirst IsSuch (First points) = IsSuch points
IfFirst IsSuch (Same j) = Unit {0}

-- there are points under the site, and they have this property
abbrev pub IsFirstAnd : (List Point → Type 0) → Expanded → Type 0
IsFirstAnd IsSuch (First points) = IsSuch points
IsFirstAnd IsSuch (Same j) = ⊥

-- none of the entries is such
abbrev pub NoneIs : (Expanded → Type 0) → List Expanded → Type 0
NoneIs IsSuch entries = (i : ℕ) (entry : Expanded) → slice_get entries i ≡ Some entry → ¬ IsSuch entry

-- the entry at place j is such
pub record IsAt (IsSuch : Expanded → Type 0) (entries : List Expanded) (j : ℕ) : Type 0 where
  pub entry : Expanded
  pub here : slice_get entries j ≡ Some entry
  pub such : IsSuch entry

-- a site with these points is expanded so behind the others: to the place of points that begin as these do, or to these
abbrev pub IsEntryFor : List Expanded → List Point → Expanded → Type 0
IsEntryFor entries points (First own) = (own ≡ points) × ((p : Point) → slice_get points 0 ≡ Some p → NoneIs (IsFirstAnd (BeginsWith p)) entries)
IsEntryFor entries points (Same j) = (p : Point) → slice_get points 0 ≡ Some p → IsAt (IsFirstAnd (BeginsWith p)) entries j

-- where a site has the orbit of an earlier one, that one has points under it
abbrev pub AreLinked : List Expanded → Type 0
AreLinked entries = (k j : ℕ) → slice_get entries k ≡ Some (Same j) → (points : List Point) × (slice_get entries j ≡ Some (First points))

-- the place of another site is below this
abbrev pub IsSameWithin : ℕ → Expanded → Type 0
IsSameWithin most (First points) = Unit {0}
IsSameWithin most (Same j) = j < most
