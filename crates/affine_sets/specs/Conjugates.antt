-- The conjugates of an average, one operator at a time, as the key is found from them.
use Rattle.std.specs.Prelude.{◌≡◌, ◌<◌, ◌≤◌, ◌+◌, ◌*◌, ◌/◌, ◌%◌, ◌⊎◌, ℕ, ℤ, pos, List, Some, length, slice_get, slice_index}
use Rattle.std.specs.List.{Contains}
use Rattle.lattice_algebra.specs.Matrix.{Matrix, Column, entries, inverse_matrix, neg_column, times, ◌·◌, ◌·ᶜ◌, ◌+ᶜ◌}
use Rattle.lattice_algebra.specs.Operator.{Operator}
use Rattle.lattice_algebra.specs.Map.{map_of}
use Rattle.exact_ops.specs.declared.TheConstants.{UNIT}
use Rattle.exact_ops.specs.Fields.{matrix_in}
use Rattle.group_closure.specs.declared.TheConstants.{MAX_OPERATORS}
use Rattle.space_groups.specs.Averages.{Block}
use Rattle.space_groups.specs.Regions.{shift_by, AreWholeColumns}
use Rattle.space_groups.specs.Keys.{Key, carried, key_of, IsBelow, ComesBefore}
use Rattle.affine_sets.specs.declared.keys.Sizes.{Sizes}
use Rattle.affine_sets.specs.declared.keys.Greatest.{Greatest}
use Rattle.affine_sets.specs.Averages.{KeyOver}
use Rattle.affine_sets.specs.Conditions.{IsAverage}

-- the average that has these numbers
abbrev pub block_of_key : KeyOver → Block
block_of_key s = record { m = s.key.m; t = s.key.t; n = pos s.over }

-- s is what is left, modulo the cell, of the average of some finite group of elements
pub record IsLeftOf (members : List Operator) (s : KeyOver) : Type 0 where
  pub average : Block
  pub is_average : IsAverage members average
  pub key : key_of UNIT s.over average ≡ s.key
  pub over : pos s.over ≡ average.n

-- W M W^-1
abbrev pub turned_matrix : Operator → Matrix → Matrix
turned_matrix f m = (f.w · m) · inverse_matrix f.w

-- the key of the conjugate by the operator without whole shifts
abbrev pub carried_key : Operator → KeyOver → Key
carried_key f s = key_of UNIT s.over (carried (map_of f) (block_of_key s))

-- the key of the conjugate by the whole shift -k
abbrev pub moved_key : KeyOver → Column → Key
moved_key s k = key_of UNIT s.over (carried (shift_by UNIT (neg_column k)) (block_of_key s))

-- the key of the conjugate by the operator and then the whole shift -k
abbrev pub key_by : Operator → Column → KeyOver → Key
key_by f k s = key_of UNIT s.over (carried (shift_by UNIT (neg_column k)) (carried (map_of f) (block_of_key s)))

-- ---- the greatest matrix

-- no member at a place before end turns m to a greater matrix
abbrev pub IsGreatestBefore : List Operator → Matrix → Matrix → ℕ → Type 0
IsGreatestBefore members m best end = (k : ℕ) (f : Operator) → k < end → slice_get members k ≡ Some f → IsBelow (entries best) (entries (turned_matrix f m)) → ⊥

-- the run of the member at s, which the identity has for itself, has the member at k
abbrev pub Heads : List Operator → ℕ → ℕ → Type 0
Heads members s k = (s ≡ k) ⊎ ((0 < s) × (s ≤ k) × ((f g : Operator) → slice_get members s ≡ Some f → slice_get members k ≡ Some g → g.w ≡ f.w))

-- the first starts, so many as count says, are places of members that turn m to best; of the members before end these and those of
-- their runs do so, and no others
pub record AreListed (members : List Operator) (m best : Matrix) (starts : List ℕ) (count end : ℕ) : Type 0 where
  pub some : 0 < count
  pub few : count ≤ end
  pub within : (j : ℕ) → j < count → slice_index starts j < length members
  pub turned : (j : ℕ) (f : Operator) → j < count → slice_get members (slice_index starts j) ≡ Some f → turned_matrix f m ≡ best
  pub all : (k : ℕ) (f : Operator) → k < end → slice_get members k ≡ Some f → turned_matrix f m ≡ best → (j : ℕ) × (j < count) × Heads members (slice_index starts j) k

-- the place is listed alone, for the matrix m
pub record IsAlone (at : ℕ) (m : Matrix) (after : Greatest) (new : List ℕ) : Type 0 where
  pub matrix : matrix_in after.m ≡ m
  pub one : after.count ≡ 1
  pub first : slice_index new 0 ≡ at

-- the place is listed after the others
pub record IsAdded (before : Greatest) (old : List ℕ) (at : ℕ) (after : Greatest) (new : List ℕ) : Type 0 where
  pub matrix : matrix_in after.m ≡ matrix_in before.m
  pub more : after.count ≡ before.count + 1
  pub last : slice_index new before.count ≡ at
  pub kept : (j : ℕ) → j < before.count → slice_index new j ≡ slice_index old j

-- the run from a place on turns to m: if that is greater, it stands alone; if the same, it is added; if less, nothing changes
abbrev pub IsWithRun : Greatest → List ℕ → ℕ → Matrix → Greatest → List ℕ → Type 0
IsWithRun before old at m after new = (let best = matrix_in before.m in
    (IsBelow (entries best) (entries m) × IsAlone at m after new)
    ⊎ ((IsBelow (entries best) (entries m) → ⊥) × (((best ≡ m) × IsAdded before old at after new) ⊎ ((best ≡ m → ⊥) × (after ≡ before) × (new ≡ old)))))

-- ---- whole shifts below the sizes of the columns

pub record AreSizes (q : Sizes) : Type 0 where
  pub some_x : 0 < q.x
  pub some_y : 0 < q.y
  pub some_z : 0 < q.z
  pub x : q.x ≤ MAX_OPERATORS
  pub y : q.y ≤ MAX_OPERATORS
  pub z : q.z ≤ MAX_OPERATORS

-- so many times each column of m is a multiple of n
abbrev pub AreWholeFor : Sizes → Matrix → ℕ → Type 0
AreWholeFor q m n = (r : Matrix) × AreWholeColumns (record { x = pos q.x; y = pos q.y; z = pos q.z }) r (record { m = m; t = record { x = pos 0; y = pos 0; z = pos 0 }; n = pos n })

-- the whole shift with the number i, counted from 0: z goes first, then y
abbrev pub shift_number : Sizes → ℕ → Column
shift_number q i = record { x = pos (i / q.z / q.y); y = pos (i / q.z % q.y); z = pos (i % q.z) }

-- m takes each whole shift where it takes one of those below the sizes, but for whole cells over n
abbrev pub AreEnoughFor : Sizes → Matrix → ℕ → Type 0
AreEnoughFor q m n = (k : Column) → (i : ℕ) × (i < q.x * q.y * q.z) × (c : Column) × (m ·ᶜ k ≡ m ·ᶜ shift_number q i +ᶜ times (pos n) c)

-- the column b is a multiple of a, but for whole cells over n
abbrev pub IsMultiple : Column → Column → ℕ → Type 0
IsMultiple a b n = (e : ℤ) × (c : Column) × (b ≡ times e a +ᶜ times (pos n) c)

-- the column b is a or its opposite, but for whole cells over n
abbrev pub IsSameOrOpposite : Column → Column → ℕ → Type 0
IsSameOrOpposite a b n = (c : Column) × ((b ≡ a +ᶜ times (pos n) c) ⊎ (b ≡ neg_column a +ᶜ times (pos n) c))

-- ---- the first of some conjugates

-- the key p has the matrix m, and is that of a conjugate of s
pub record IsCandidate (members : List Operator) (s : KeyOver) (m : Matrix) (p : KeyOver) : Type 0 where
  pub over : p.over ≡ s.over
  pub matrix : p.key.m ≡ m
  pub by : Operator
  pub member : Contains members by
  pub shift : Column
  pub gives : key_by by shift s ≡ p.key

-- what comes before the one comes before the other
abbrev pub IsNoLater : KeyOver → KeyOver → Type 0
IsNoLater p q = (k : Key) → ComesBefore k p.key → ComesBefore k q.key

-- no conjugate by an element of a member at these places comes before p
abbrev pub AreNotBefore : List Operator → KeyOver → KeyOver → ℕ → ℕ → Type 0
AreNotBefore members s p start end = (i : ℕ) (f : Operator) (k : Column) → start ≤ i → i < end → slice_get members i ≡ Some f → ComesBefore (key_by f k s) p.key → ⊥
