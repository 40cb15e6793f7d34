-- Members with one matrix stand together in the order of a group.
use Rattle.std.specs.Prelude.{◌≡◌, ◌≢◌, ◌<◌, ◌≤◌, ◌↔◌, ◌⊎◌, ◌+◌, ℕ, negsuc, Option, Some, None, IsSome, IfSome, List, length, slice_get, slice_index, slice_index_or}
use Rattle.std.specs.List.{Contains}
use Rattle.lattice_algebra.specs.Matrix.{Matrix, scaled}
use Rattle.lattice_algebra.specs.Operator.{Operator}

-- the members from place i on that have the matrix of that at i are those before end
abbrev pub IsRun : List Operator → ℕ → ℕ → Type 0
IsRun members i end = (k : ℕ) (f g : Operator) → i ≤ k → slice_get members i ≡ Some f → slice_get members k ≡ Some g → (g.w ≡ f.w) ↔ (k < end)

-- where each run ends; the identity is a run of its own
pub record AreRunEnds (members : List Operator) (ends : List ℕ) : Type 0 where
  pub first : slice_index ends 0 ≡ 1
  pub beyond : (i : ℕ) → i < length members → i < slice_index ends i
  pub within : (i : ℕ) → i < length members → slice_index ends i ≤ length members
  pub run : (i : ℕ) → 0 < i → i < length members → IsRun members i (slice_index ends i)

-- some member has the matrix m
abbrev pub HasMatrix : List Operator → Matrix → Type 0
HasMatrix members m = (g : Operator) × Contains members g × (g.w ≡ m)

-- j is the first place of a member with the matrix m
pub record IsFirstWith (members : List Operator) (m : Matrix) (j : ℕ) : Type 0 where
  pub within : j < length members
  pub at : (g : Operator) → slice_get members j ≡ Some g → g.w ≡ m
  pub before : (k : ℕ) (g : Operator) → k < j → slice_get members k ≡ Some g → g.w ≢ m

-- found is the first place of a member with the matrix m, None where there is no such member
pub record IsFirstIfAny (members : List Operator) (m : Matrix) (found : Option ℕ) : Type 0 where
  pub some : IsSome found ↔ HasMatrix members m
  pub first : IfSome found (IsFirstWith members m)

-- where the members with the opposite of each matrix begin
abbrev pub AreOpposites : List Operator → List (Option ℕ) → Type 0
AreOpposites members opposites = (i : ℕ) (f : Operator) → slice_get members i ≡ Some f → IsFirstIfAny members (scaled (negsuc 0) f.w) (slice_index_or opposites i None)

-- e is end where the next member, if there is one, has the matrix of that at i, else i + 1
abbrev pub GoesOn : List Operator → ℕ → ℕ → ℕ → Type 0
GoesOn members i end e = (((f g : Operator) → slice_get members i ≡ Some f → slice_get members (i + 1) ≡ Some g → f.w ≡ g.w) × (e ≡ end)) ⊎ (((f g : Operator) → slice_get members i ≡ Some f → slice_get members (i + 1) ≡ Some g → f.w ≢ g.w) × (i + 1 < length members) × (e ≡ i + 1))
