-- Places of operators by buckets. A place is held as one more than it is, and 0 means none.
use Rattle.std.specs.Prelude.{◌≡◌, ℕ, ℤ, pos, ◌+◌, ◌-◌, ◌*◌, ◌%◌, ◌<◌, ◌≤◌, Some, List, length, slice_get, slice_index, unsigned_abs}
use Rattle.std.specs.Int.{int_rem_euclid}
use Rattle.std.specs.List.{fold}
use Rattle.lattice_algebra.specs.Matrix.{entries, coordinates}
use Rattle.lattice_algebra.specs.Operator.{Operator}
use Rattle.group_closure.specs.declared.buckets.Buckets.{Buckets}

abbrev pub mixed : ℕ → ℤ → ℕ
mixed m n = (5 * m + unsigned_abs (int_rem_euclid n (pos 64))) % 256

-- the bucket of an operator
unfoldable pub bucket_of : Operator → ℕ
bucket_of f = fold mixed (fold mixed 0 (entries f.w)) (coordinates f.t)

-- heads has the last place in each bucket, before the last place before each that is in its bucket
pub record AreFiled (members : List Operator) (heads before : List ℕ) : Type 0 where
  pub size_heads : length heads ≡ 256
  pub size_before : length before ≡ 256
  pub within : (b : ℕ) → slice_index heads b ≤ length members
  pub last : (k : ℕ) (f : Operator) → slice_get members k ≡ Some f → k < slice_index heads (bucket_of f)
  pub last_in : (b : ℕ) (f : Operator) → 0 < slice_index heads b → slice_get members (slice_index heads b - 1) ≡ Some f → bucket_of f ≡ b
  pub falls : (j : ℕ) → j < length members → slice_index before j ≤ j
  pub next : (j k : ℕ) (f g : Operator) → k < j → slice_get members j ≡ Some f → slice_get members k ≡ Some g → bucket_of g ≡ bucket_of f → k < slice_index before j
  pub next_in : (j : ℕ) (f g : Operator) → slice_get members j ≡ Some f → 0 < slice_index before j → slice_get members (slice_index before j - 1) ≡ Some g → bucket_of g ≡ bucket_of f

abbrev pub IsFiled : List Operator → Buckets → Type 0
IsFiled members buckets = AreFiled members buckets.heads buckets.before
