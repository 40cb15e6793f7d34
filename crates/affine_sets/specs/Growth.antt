-- How a finite group of elements grows by one more: what is held of each member, and the elements that came first in their blocks.
use Rattle.std.specs.Prelude.{◌≡◌, ◌≢◌, ◌<◌, ◌+◌, ◌*◌, ◌⊎◌, ◌↔◌, ℕ, pos, Option, None, Some, List, ◌∷◌, length, map, slice_get, slice_index_or}
use Rattle.std.specs.List.{All, AllPairs, Contains, fold}
use Rattle.lattice_algebra.specs.Matrix.{◌+ᶜ◌, times}
use Rattle.lattice_algebra.specs.Operator.{Operator, AreWithin, identity_operator}
use Rattle.lattice_algebra.specs.Map.{Map, ◌∘◌, identity_map, AreInverse}
use Rattle.exact_ops.specs.declared.TheConstants.{UNIT, MAX_SHIFT}
use Rattle.site_symmetry.specs.OrderedSite.{StandsBefore}
use Rattle.affine_sets.specs.declared.TheConstants.{MAX_GROWN_SHIFT}
use Rattle.affine_sets.specs.declared.numbers.Offset.{Offset}
use Rattle.affine_sets.specs.declared.growth.Placed.{Placed}
use Rattle.affine_sets.specs.Fields.{offset_in}

-- the element of the member at a place
abbrev pub placed_map : List Operator → Placed → Map
placed_map members x = let f = slice_index_or members x.place identity_operator in record { w = f.w; s = f.t +ᶜ times (pos UNIT) (offset_in x.shift) }

-- ---- what is held: at most one whole shift of each member

abbrev pub Holds : List (Option Offset) → ℕ → Offset → Type 0
Holds held p k = slice_index_or held p None ≡ Some k

-- x is held besides
abbrev pub Puts : List (Option Offset) → List (Option Offset) → Placed → Type 0
Puts old new x = (p : ℕ) (k : Offset) → Holds new p k ↔ (Holds old p k ⊎ ((p ≡ x.place) × (k ≡ x.shift)))

abbrev pub HoldsMap : List Operator → List (Option Offset) → Map → Type 0
HoldsMap members held e = (x : Placed) × (x.place < length members) × Holds held x.place x.shift × (placed_map members x ≡ e)

-- these elements are held, and no others
abbrev pub AreHeld : List Placed → List (Option Offset) → Type 0
AreHeld list held = (p : ℕ) (k : Offset) → Holds held p k ↔ Contains list (record { place = p; shift = k })

-- the list has the maps that are held, in the order of the members
pub record AreListed (members : List Operator) (held : List (Option Offset)) (list : List Map) : Type 0 where
  pub exactly : (e : Map) → Contains list e ↔ HoldsMap members held e
  pub ordered : AllPairs (StandsBefore members) list

abbrev pub no_shift : Offset
no_shift = record { x = pos 0; y = pos 0; z = pos 0 }

-- some held element has the rotation part of x, and is not x
pub record IsApart (members : List Operator) (held : List (Option Offset)) (x : Placed) : Type 0 where
  pub other : Placed
  pub within : other.place < length members
  pub held_there : Holds held other.place other.shift
  pub rotation : (placed_map members other).w ≡ (placed_map members x).w
  pub differ : other ≢ x

-- ---- the group that grows

-- the elements of a finite group, the identity first
pub record AreOld (members : List Operator) (old : List Placed) : Type 0 where
  pub first : slice_get old 0 ≡ Some (record { place = 0; shift = no_shift })
  pub within : All (λ h. h.place < length members) old
  pub size : All (λ (h : Placed). AreWithin MAX_GROWN_SHIFT h.shift.x h.shift.y h.shift.z) old
  pub products : (a b : Placed) → Contains old a → Contains old b → (h : Placed) × Contains old h × (placed_map members h ≡ placed_map members a ∘ placed_map members b)

-- e stands in the block of x: it is an old element after x
abbrev pub IsInBlock : List Operator → List Placed → Placed → Map → Type 0
IsInBlock members old x e = (h : Placed) × Contains old h × (placed_map members h ∘ placed_map members x ≡ e)

-- what is held are whole blocks, one for each of the firsts; the whole shift of the one at place j is at most j + 1 times seven million
pub record IsGrowing (members : List Operator) (old : List Placed) (held : List (Option Offset)) (firsts : List Placed) : Type 0 where
  pub has_old : (h : Placed) → Contains old h → HoldsMap members held (placed_map members h)
  pub zero : Holds held 0 no_shift
  pub small : (p : ℕ) (k : Offset) → Holds held p k → (p < length members) × AreWithin MAX_SHIFT k.x k.y k.z
  pub blocks : (h : Placed) (e : Map) → Contains old h → HoldsMap members held e → HoldsMap members held (placed_map members h ∘ e)
  pub origin : (e : Map) → HoldsMap members held e → (r : Placed) × Contains firsts r × IsInBlock members old r e
  pub firsts_held : All (λ r. Holds held r.place r.shift) firsts
  pub apart : AllPairs (λ (a b : Placed). a.place ≢ b.place) firsts
  pub near : (j : ℕ) (r : Placed) → slice_get firsts j ≡ Some r → AreWithin ((j + 1) * 7000000) r.shift.x r.shift.y r.shift.z

-- the one list begins with the other
abbrev pub Extends : List Placed → List Placed → Type 0
Extends old new = (j : ℕ) (r : Placed) → slice_get old j ≡ Some r → slice_get new j ≡ Some r

-- ---- what some maps generate

-- a letter is a map of the list, or undoes one
abbrev pub IsLetter : List Map → Map → Type 0
IsLetter list e = Contains list e ⊎ ((f : Map) × Contains list f × AreInverse f e)

-- e is the product of a word of letters
abbrev pub IsProduct : List Map → Map → Type 0
IsProduct list e = (word : List Map) × All (IsLetter list) word × (fold ◌∘◌ identity_map word ≡ e)

-- the group has exactly the products of the given maps and of what undoes them
abbrev pub IsGeneratedBy : List Map → List Map → Type 0
IsGeneratedBy given list = (e : Map) → Contains list e ↔ IsProduct given e

-- what e and the old elements generate
abbrev pub given_maps : List Operator → List Placed → Placed → List Map
given_maps members old e = placed_map members e ∷ map (placed_map members) old

-- all that is held are products of these
abbrev pub AreProducts : List Operator → List Map → List (Option Offset) → Type 0
AreProducts members given held = (e : Map) → HoldsMap members held e → IsProduct given e

-- two products differ and have one rotation part: so no point is fixed by all
pub record IsTorn (given : List Map) : Type 0 where
  pub one : Map
  pub other : Map
  pub is_product : IsProduct given one
  pub is_product_too : IsProduct given other
  pub rotation : one.w ≡ other.w
  pub differ : one ≢ other
