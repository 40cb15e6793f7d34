-- What the steps of the search keep.
use Rattle.std.specs.Prelude.{◌≡◌, ◌≢◌, ◌≤◌, ◌<◌, ◌+◌, ◌↔◌, ◌⊎◌, ℕ, ℤ, ◌≤ℤ◌, ◌<ℤ◌, Bool, true, false, Some, List, [], ◌∷◌, ◌++◌, length, slice_get}
use Rattle.std.specs.List.{All, AllPairs, Contains}
use Rattle.lattice_algebra.specs.Matrix.{Column, coordinates}
use Rattle.lattice_algebra.specs.Operator.{Operator, product, IsInverse}
use Rattle.lattice_algebra.specs.Map.{Map, operator_of}
use Rattle.exact_ops.specs.declared.TheConstants.{UNIT}
use Rattle.affine_sets.specs.declared.TheConstants.{MAX_GROWN_SHIFT, MAX_NEAR_SHIFT}
use Rattle.space_groups.specs.Space.{IsElement, ScaledPoint, moved}
use Rattle.space_groups.specs.Averages.{Block, IsMean}
use Rattle.space_groups.specs.Keys.{key_of, IsKey}
use Rattle.space_groups.specs.Search.{IsSub, FixAll, IsFull, Kept, IsKept, IsGrown}
use Rattle.group_closure.specs.GroupList.{IsGroup}
use Rattle.affine_sets.specs.Averages.{KeyOver}
use Rattle.affine_sets.specs.Subs.{AreShiftsWithin}
use Rattle.affine_sets.specs.Conditions.{IsAverage}
use Rattle.exact_ops.specs.Moves.{map_with}
use Rattle.wyckoff_rows.specs.declared.ranges.Range.{Range}
use Rattle.wyckoff_rows.specs.declared.ranges.Ranges.{Ranges}
use Rattle.wyckoff_rows.specs.declared.entry.Entry.{Entry}
use Rattle.wyckoff_rows.specs.declared.parts.Row.{Row}

-- ---- one kept group

abbrev pub kept_in : Entry → Kept
kept_in t = record { set = t.set; average = t.average; key = t.key.key; mult = t.mult }

-- a is the average of some group near the origin
pub record IsAverageNearOrigin (members : List Operator) (a : Block) : Type 0 where
  pub group : List Map
  pub is_group : IsSub UNIT members group
  pub mean : IsMean (length members) group a
  pub shifts : AreShiftsWithin MAX_NEAR_SHIFT group

-- the set of a kept group is the full group of its average, which is that of a group near the origin
pub record IsEntry (members : List Operator) (t : Entry) : Type 0 where
  pub kept : IsKept UNIT members (kept_in t)
  pub over : t.key.over ≡ length members
  pub near : IsAverageNearOrigin members t.average
  pub full : IsFull UNIT members t.average t.set
  pub shifts : AreShiftsWithin MAX_GROWN_SHIFT t.set

-- ---- the list of kept groups

-- all are as they should be, and no key is there twice
pub record AreKept (members : List Operator) (kept : List Entry) : Type 0 where
  pub group : IsGroup members
  pub each : All (IsEntry members) kept
  pub apart : AllPairs (λ (s t : Entry). s.key ≢ t.key) kept

-- a kept group has the key of the average a
abbrev pub HasKeyOf : List Operator → List Entry → Block → Type 0
HasKeyOf members kept a = (t : Entry) × Contains kept t × IsKey UNIT members (length members) a t.key.key

-- each average that was met, as what is left of it with its translation modulo the cell, has its key among the kept ones
abbrev pub AreMet : List Operator → List Entry → List KeyOver → Type 0
AreMet members kept met = (k : KeyOver) → Contains met k → (a : Block) → IsAverage members a → key_of UNIT (length members) a ≡ k.key → HasKeyOf members kept a

-- what k and e generate has its key among the kept ones, where some point is fixed by all
abbrev pub HasGrown : List Operator → List Entry → Entry → Map → Type 0
HasGrown members kept k e = (y : ScaledPoint) → FixAll k.set y → moved e y ≡ y → (t : Entry) × Contains kept t × IsGrown UNIT members (kept_in k) e t.key.key

-- and so for every element
abbrev pub IsGrownByAll : List Operator → List Entry → Entry → Type 0
IsGrownByAll members kept k = (e : Map) → IsElement UNIT members e → HasGrown members kept k e

-- new is old and more
abbrev pub Extends : List Entry → List Entry → Type 0
Extends old new = (more : List Entry) × (new ≡ old ++ more)

-- ---- which elements are tried

-- what the set and e fix is what the set and c fix, moved by an element of the space group: so c can stand for e
pub record StandsFor (members : List Operator) (set : List Map) (c e : Map) : Type 0 where
  pub by : Map
  pub element : IsElement UNIT members by
  pub points : (z : ScaledPoint) → (FixAll set z × (moved e z ≡ z)) ↔ (FixAll set (moved by z) × (moved c (moved by z) ≡ moved by z))

-- each element that fixes some point which the whole set fixes has one in the list that stands for it
abbrev pub AreEnough : List Operator → List Map → List Map → Type 0
AreEnough members set list = (e : Map) → IsElement UNIT members e → (y : ScaledPoint) → FixAll set y → moved e y ≡ y → (c : Map) × Contains list c × StandsFor members set c e

-- each element of the operator f that fixes some point which the whole set fixes has one in the list that stands for it
abbrev pub IsCovered : List Operator → List Map → List Map → Operator → Type 0
IsCovered members set list f = (e : Map) → IsElement UNIT members e → operator_of UNIT e ≡ f → (y : ScaledPoint) → FixAll set y → moved e y ≡ y → (c : Map) × Contains list c × StandsFor members set c e

-- the place of the operator of an element of the set
abbrev pub IsPlaceIn : List Operator → List Map → ℕ → Type 0
IsPlaceIn members set p = (s : Map) × Contains set s × (slice_get members p ≡ Some (operator_of UNIT s))

-- h is the operator of an element of the set times f, or the inverse of that
abbrev pub IsInCoset : List Map → Operator → Operator → Type 0
IsInCoset set f h = (s : Map) × Contains set s × ((h ≡ product UNIT (operator_of UNIT s) f) ⊎ IsInverse UNIT (product UNIT (operator_of UNIT s) f) h)

-- h is so made of f times the operator of an element of the set: it is covered where f is
abbrev pub IsAlike : List Map → Operator → Operator → Type 0
IsAlike set f h = (s : Map) × Contains set s × IsInCoset set (product UNIT f (operator_of UNIT s)) h

-- a whole number from low to below end
abbrev pub IsIn : Range → ℤ → Type 0
IsIn r k = (r.low ≤ℤ k) × (k <ℤ r.end)

abbrev pub AreIn : Ranges → Column → Type 0
AreIn r k = IsIn r.xs k.x × IsIn r.ys k.y × IsIn r.zs k.z

-- each element of the operator f that fixes some point which the whole set fixes has the element of f with a whole shift in
-- the ranges that stands for it
abbrev pub AreRanges : List Operator → List Map → Operator → Ranges → Type 0
AreRanges members set f r = (e : Map) → IsElement UNIT members e → operator_of UNIT e ≡ f → (y : ScaledPoint)
    → FixAll set y → moved e y ≡ y → (k : Column) × AreIn r k × StandsFor members set (map_with f (coordinates k)) e

-- what a list has after the elements of f were added whose whole shifts are as P asks
pub record IsPushed (P : Column → Type 0) (f : Operator) (old new : List Map) : Type 0 where
  pub extends : (c : Map) → Contains old c → Contains new c
  pub more : (k : Column) → P k → Contains new (map_with f (coordinates k))
  pub only : (c : Map) → Contains new c → Contains old c ⊎ ((k : Column) × P k × (map_with f (coordinates k) ≡ c))

-- the operators at the places below i, and those that are marked, are covered
abbrev pub AreTried : List Operator → List Map → List Map → List Bool → ℕ → Type 0
AreTried members set list tried i = (j : ℕ) (f : Operator) → (j < i) ⊎ (slice_get tried j ≡ Some true) → slice_get members j ≡ Some f → IsCovered members set list f

-- elements that `Sub::grow` takes
pub record IsCandidate (members : List Operator) (e : Map) : Type 0 where
  pub element : IsElement UNIT members e
  pub shifts : AreShiftsWithin MAX_GROWN_SHIFT (e ∷ [])

-- ---- what a visit leaves

-- the group that was kept last, at its beginning, and all that were kept since are done
pub record IsVisited (members : List Operator) (old new : List Entry) : Type 0 where
  pub extends : Extends old new
  pub kept : AreKept members new
  pub done : (j : ℕ) (t : Entry) → length old ≤ j + 1 → slice_get new j ≡ Some t → IsGrownByAll members new t

-- amid a visit of the group k, which was kept last in first: the candidates below i are tried, and all that were kept since are done
pub record IsVisiting (members : List Operator) (candidates : List Map) (k : Entry) (first now : List Entry) (i : ℕ) : Type 0 where
  pub extends : Extends first now
  pub kept : AreKept members now
  pub tried : (j : ℕ) (e : Map) → j < i → slice_get candidates j ≡ Some e → HasGrown members now k e
  pub done : (j : ℕ) (t : Entry) → length first ≤ j → slice_get now j ≡ Some t → IsGrownByAll members now t

-- the last kept group
abbrev pub last_set : List Entry → List Map
last_set [] = []
last_set (t ∷ []) = t.set
last_set (t ∷ u ∷ rest) = last_set (u ∷ rest)

-- the row of a kept group
abbrev pub row_shown : Entry → Row
row_shown t = record { mult = t.mult; key = t.key }

-- what is kept after the group k was grown: where more is true a larger group stands at the end, else nothing new
pub record IsKeptMore (more : Bool) (old : List Entry) (k : Entry) (new : List Entry) : Type 0 where
  pub one : more ≡ true → (t : Entry) × (new ≡ old ++ t ∷ []) × (length k.set < length t.set)
  pub none : more ≡ false → new ≡ old

-- what is kept after an average was taken up: where more is true it stands at the end, else nothing new
pub record IsAdded (more : Bool) (old : List Entry) (a : Block) (new : List Entry) : Type 0 where
  pub one : more ≡ true → (t : Entry) × (new ≡ old ++ t ∷ []) × (t.average ≡ a)
  pub none : more ≡ false → new ≡ old
