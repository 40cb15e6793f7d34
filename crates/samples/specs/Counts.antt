-- How many of the made points fit each row of a table.
use Rattle.std.specs.Prelude.{◌≡◌, ℕ, suc, List, length, slice_index_or}
use Rattle.lattice_algebra.specs.Operator.{Operator}
use Rattle.exact_ops.specs.declared.TheConstants.{UNIT}
use Rattle.space_groups.specs.Rows.{Row, IsAt, Fits}
use Rattle.samples.specs.Points.{made_point}

-- so many of the numbers below n have the property
pub data IsCount (P : ℕ → Type 0) : ℕ → ℕ → Type 0 where
  none : IsCount P 0 0
  one_more : {n c : ℕ} → IsCount P n c → P n → IsCount P (suc n) (suc c)
  no_more : {n c : ℕ} → IsCount P n c → (P n → ⊥) → IsCount P (suc n) c

-- for each row, how many of the first n points that are made from the seed fit it
pub record AreCounts (members : List Operator) (rows : List Row) (seed n : ℕ) (counts : List ℕ) : Type 0 where
  pub all : length counts ≡ length rows
  pub each : (k : ℕ) (row : Row) → IsAt rows k row → IsCount (λ i. Fits UNIT members row (made_point seed i)) n (slice_index_or counts k 0)
