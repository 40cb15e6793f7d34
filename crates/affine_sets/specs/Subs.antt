-- Finite groups of elements of the space group as lists of maps. The order, that of the operators with the identity first, is this
-- project's own.
use Rattle.std.specs.Prelude.{◌≡◌, ◌≢◌, ◌≤◌, ℕ, Some, List, length, drop, map, slice_get}
use Rattle.std.specs.List.{All, AllPairs, Contains}
use Rattle.std.specs.Ordering.{on}
use Rattle.std.specs.List.Sorted.{IsStrictlySortedBy}
use Rattle.lattice_algebra.specs.Matrix.{Matrix, Column, neg_column, ◌+ᶜ◌, ◌·ᶜ◌}
use Rattle.lattice_algebra.specs.Operator.{Operator, AreWithin}
use Rattle.lattice_algebra.specs.Map.{Map, ◌∘◌, identity_map, undo, operator_of, IsShift}
use Rattle.exact_ops.specs.declared.TheConstants.{UNIT}
use Rattle.affine_sets.specs.declared.TheConstants.{MAX_NEAR_SHIFT}
use Rattle.group_closure.specs.declared.TheConstants.{MAX_OPERATORS}
use Rattle.group_closure.specs.Order.{operator_cmp}
use Rattle.space_groups.specs.Space.{IsElement, ScaledPoint}
use Rattle.space_groups.specs.Regions.{shift_by}
use Rattle.space_groups.specs.Averages.{Block}
use Rattle.space_groups.specs.Search.{FixAll}
use Rattle.affine_sets.specs.Averages.{whole_part}

-- a finite group of maps, the identity first, then the others in the order of their operators; no two have one matrix, and some
-- point is fixed by all
pub record IsSubList (list : List Map) : Type 0 where
  pub first : slice_get list 0 ≡ Some identity_map
  pub sorted : IsStrictlySortedBy (on (operator_of UNIT) operator_cmp) (drop 1 list)
  pub apart : AllPairs (λ e f. e.w ≢ f.w) list
  pub products : (e f : Map) → Contains list e → Contains list f → Contains list (e ∘ f)
  pub common : (z : ScaledPoint) × FixAll list z
  pub within : length list ≤ MAX_OPERATORS

-- all are elements of the space group
abbrev pub AreElements : List Operator → List Map → Type 0
AreElements members list = All (IsElement UNIT members) list

-- each whole shift of each map is at most this in size
abbrev pub AreShiftsWithin : ℕ → List Map → Type 0
AreShiftsWithin size list = All (λ e. (k : Column) → IsShift UNIT e k → AreWithin size k.x k.y k.z) list

-- ---- near the origin

-- v s v^-1
abbrev pub conjugate_by : Map → Map → Map
conjugate_by v s = (v ∘ s) ∘ undo v

-- the conjugates by the whole shift -f, where f is the whole part of the translation of a
abbrev pub IsShifted : Block → List Map → List Map → Type 0
IsShifted a from to = to ≡ map (conjugate_by (shift_by UNIT (neg_column (whole_part a)))) from

-- the whole shift of v s v^-1, where s has the matrix w and the whole shift k, and v is the shift by -f
pub record IsNearShift (w : Matrix) (k f : Column) : Type 0 where
  pub within : (let c = k +ᶜ w ·ᶜ f +ᶜ neg_column f in AreWithin MAX_NEAR_SHIFT c.x c.y c.z)
