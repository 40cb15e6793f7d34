use Rattle.std.proofs.Common.{◌≡◌, ◌⊎◌, ℕ, List, slice_get, Some, true}
use Rattle.std.specs.List.{All}
use Rattle.lattice_algebra.specs.Operator.{Operator}
use Rattle.lattice_algebra.specs.Map.{Map}
use Rattle.wyckoff_rows.specs.Steps.{IsPlaceIn, IsAlike}
use Rattle.wyckoff_rows.proofs.candidates.mark.Given as goal

abbrev pub invariant-loop-place : goal.invariant-loop-place
invariant-loop-place l = record {
  marked : (set : List Map) → All (IsPlaceIn l.g set) l.places → (j : ℕ) (f h : Operator) → slice_get l.tried j ≡ Some true → slice_get l.g l.i ≡ Some f → slice_get l.g j ≡ Some h → (slice_get l.initial.tried j ≡ Some true) ⊎ IsAlike set f h;
}
