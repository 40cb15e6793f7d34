use Rattle.std.proofs.Common.{◌≡◌, ◌⊎◌, ℕ, List, slice_get, Some, true}
use Rattle.std.specs.List.{All}
use Rattle.lattice_algebra.specs.Operator.{Operator}
use Rattle.lattice_algebra.specs.Map.{Map}
use Rattle.wyckoff_rows.specs.Steps.{IsPlaceIn, IsInCoset}
use Rattle.wyckoff_rows.proofs.candidates.mark_coset.Given as goal

abbrev pub invariant-loop-place : goal.invariant-loop-place
invariant-loop-place l = record {
  marked : (set : List Map) → All (IsPlaceIn l.g set) l.places → (n : ℕ) (f h : Operator) → slice_get l.tried n ≡ Some true → slice_get l.g l.j ≡ Some f → slice_get l.g n ≡ Some h → (slice_get l.initial.tried n ≡ Some true) ⊎ IsInCoset set f h;
}
