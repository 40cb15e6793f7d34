-- Changes of coordinates, and the space group that one makes of another. International Tables A, 1.5: under x' = Q x + q the operation
-- g becomes c g c^-1. Nothing is divided: h is c g c^-1 where h after c is c after g.
use Rattle.std.specs.Prelude.{◌≡◌, ◌≢◌, ℕ, ℤ, pos, ◌*ℤ◌, ◌<ℤ◌, ◌<◌, List, length, AllPairs, Contains}
use Rattle.lattice_algebra.specs.Matrix.{Matrix, Column, ◌·◌, ◌·ᶜ◌, ◌+ᶜ◌, neg_column, times, scaled, identity, IsUnimodular, inverse_matrix}
use Rattle.lattice_algebra.specs.Operator.{Operator, HasEntriesWithin}
use Rattle.lattice_algebra.specs.Map.{Map, operator_of, map_of}
use Rattle.lattice_algebra.specs.Point.{Point}
use Rattle.space_groups.specs.Space.{IsElement}
use Rattle.space_groups.specs.Regions.{shift_by}

-- the change of coordinates x -> (W x) / d + t / unit
pub record CoordinateChange : Type 0 where
  pub w : Matrix
  pub t : Column
  pub d : ℤ

-- W has an inverse over the rationals: V over k
pub record IsInvertible (w : Matrix) : Type 0 where
  pub v : Matrix
  pub k : ℤ
  pub some : k ≢ pos 0
  pub right : w · v ≡ scaled k identity
  pub left : v · w ≡ scaled k identity

-- it can be undone, and its denominator is positive
pub record IsChange (c : CoordinateChange) : Type 0 where
  pub invertible : IsInvertible c.w
  pub positive : pos 0 <ℤ c.d

-- a change of the basis of one lattice, and of the origin: x -> Q x + q / unit with Q unimodular
pub record IsBasisChange (c : CoordinateChange) : Type 0 where
  pub unimodular : IsUnimodular c.w
  pub one : c.d ≡ pos 1

-- h is c g c^-1: h after c is c after g
pub record IsChanged (c : CoordinateChange) (g h : Map) : Type 0 where
  pub rotation : h.w · c.w ≡ c.w · g.w
  pub translation : times c.d (h.w ·ᶜ c.t +ᶜ h.s) ≡ c.w ·ᶜ g.s +ᶜ times c.d c.t

-- the point c x, over unit times d times the denominator of x
unfoldable pub changed_point : ℕ → CoordinateChange → Point → Point
changed_point unit c x = record { n = times (pos unit) (c.w ·ᶜ x.n) +ᶜ times (c.d *ℤ x.d) c.t; d = pos unit *ℤ (c.d *ℤ x.d) }

-- ---- of a space group

-- h is c g c^-1 for some element g of the space group
pub record IsInChanged (unit : ℕ) (members : List Operator) (c : CoordinateChange) (h : Map) : Type 0 where
  pub from : Map
  pub element : IsElement unit members from
  pub changed : IsChanged c from h

-- the space group of `changed` is the set of all c g c^-1, g in that of members
pub record IsChangedGroup (unit : ℕ) (members : List Operator) (c : CoordinateChange) (changed : List Operator) : Type 0 where
  -- each element g has its c g c^-1, with whole numbers, and it is an element
  pub each : (g : Map) → IsElement unit members g → (h : Map) × IsElement unit changed h × IsChanged c g h
  -- and there are no others
  pub only : (h : Map) → IsElement unit changed h → IsInChanged unit members c h

-- ---- of a basis change

-- c g c^-1, with P the inverse of Q: Q W P and Q w + q - Q W P q
unfoldable pub changed_map : CoordinateChange → Map → Map
changed_map c g = let m = c.w · g.w · inverse_matrix c.w in record { w = m; s = c.w ·ᶜ g.s +ᶜ c.t +ᶜ neg_column (m ·ᶜ c.t) }

-- the changed operator modulo the cell
abbrev pub changed_operator : ℕ → CoordinateChange → Operator → Operator
changed_operator unit c f = operator_of unit (changed_map c (map_of f))

-- ---- of a change of the volume of the cell

-- one cell along each axis
abbrev pub x_cell : Column
x_cell = record { x = pos 1; y = pos 0; z = pos 0 }

abbrev pub y_cell : Column
y_cell = record { x = pos 0; y = pos 1; z = pos 0 }

abbrev pub z_cell : Column
z_cell = record { x = pos 0; y = pos 0; z = pos 1 }

-- the changed cell is a lattice cell: the translation by one cell along each axis is in the changed group
pub record IsCell (unit : ℕ) (members : List Operator) (c : CoordinateChange) : Type 0 where
  pub x : IsInChanged unit members c (shift_by unit x_cell)
  pub y : IsInChanged unit members c (shift_by unit y_cell)
  pub z : IsInChanged unit members c (shift_by unit z_cell)

-- the list has the operator of c g c^-1
abbrev pub HasChanged : ℕ → CoordinateChange → List Operator → Map → Type 0
HasChanged unit c list g = (h : Map) × IsChanged c g h × Contains list (operator_of unit h)

-- the list has the changed operators of all members, and of the translation by one cell along each axis, and no operator that is not
-- of the changed group
pub record AreGenerators (unit : ℕ) (members : List Operator) (c : CoordinateChange) (list : List Operator) : Type 0 where
  pub each : (f : Operator) → Contains members f → HasChanged unit c list (map_of f)
  pub x : HasChanged unit c list (shift_by unit x_cell)
  pub y : HasChanged unit c list (shift_by unit y_cell)
  pub z : HasChanged unit c list (shift_by unit z_cell)
  pub only : (f : Operator) → Contains list f → (h : Map) × IsInChanged unit members c h × (operator_of unit h ≡ f)

-- ---- what a change of the volume asks

-- the changed matrix of each element is whole
abbrev pub AreWhole : ℕ → List Operator → CoordinateChange → Type 0
AreWhole unit members c = (g : Map) → IsElement unit members g → (m : Matrix) × (m · c.w ≡ c.w · g.w)

-- and has no entry beyond 2
abbrev pub AreNarrow : ℕ → List Operator → CoordinateChange → Type 0
AreNarrow unit members c = (g : Map) (m : Matrix) → IsElement unit members g → m · c.w ≡ c.w · g.w → HasEntriesWithin 2 m

-- the changed map of each element is whole, its translation in parts of a cell
abbrev pub AreInParts : ℕ → List Operator → CoordinateChange → Type 0
AreInParts unit members c = (g : Map) → IsElement unit members g → (h : Map) × IsChanged c g h

-- the changed group has more than n elements modulo the cell
abbrev pub IsMoreThan : ℕ → ℕ → List Operator → CoordinateChange → Type 0
IsMoreThan n unit members c = (list : List Operator) × (n < length list) × AllPairs (λ (f g : Operator). f ≢ g) list × ((f : Operator) → Contains list f → (h : Map) × IsInChanged unit members c h × (operator_of unit h ≡ f))
