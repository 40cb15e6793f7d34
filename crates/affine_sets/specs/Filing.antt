-- How the elements that are held are found: the place of each in their list, one more than it is, stands at the place of its operator.
use Rattle.std.specs.Prelude.{◌≡◌, ◌≤◌, ◌+◌, ◌∷◌, ℕ, Option, None, Some, List, length, map, slice_get, slice_index_or}
use Rattle.affine_sets.specs.declared.numbers.Offset.{Offset}
use Rattle.affine_sets.specs.declared.growth.Placed.{Placed}

-- none, and the whole shift of each
abbrev pub none_and_shifts : List Placed → List (Option Offset)
none_and_shifts list = None ∷ map (λ (x : Placed). Some x.shift) list

-- the whole shift at each place
abbrev pub filed_shifts : List Placed → List ℕ → List (Option Offset)
filed_shifts list places = map (λ n. slice_index_or (none_and_shifts list) n None) places

-- each number leads into the list or means none, and that of each element is one more than its place
pub record AreFiled (list : List Placed) (places : List ℕ) : Type 0 where
  pub within : (p : ℕ) → slice_index_or places p 0 ≤ length list
  pub filed : (i : ℕ) (x : Placed) → slice_get list i ≡ Some x → slice_index_or places x.place 0 ≡ i + 1
