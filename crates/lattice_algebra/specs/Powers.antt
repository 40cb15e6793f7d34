-- The powers of a matrix, and its order.
use Rattle.std.specs.Prelude.{◌≡◌, ◌<◌, ◌≤◌, ℕ, zero, suc}
use Rattle.lattice_algebra.specs.Matrix.{Matrix, ◌·◌, ◌+ᵐ◌, identity, no_matrix}

-- W^k
unfoldable pub power : Matrix → ℕ → Matrix
power w zero = identity
power w (suc k) = w · power w k

-- W^(k-1) + .. + W + I
unfoldable pub sum_of_powers : Matrix → ℕ → Matrix
sum_of_powers w zero = no_matrix
sum_of_powers w (suc k) = sum_of_powers w k +ᵐ power w k

-- the order of W is its least power above 0 that is the identity
pub record IsOrder (w : Matrix) (k : ℕ) : Type 0 where
  pub positive : 0 < k
  pub returns : power w k ≡ identity
  pub least : (j : ℕ) → 0 < j → power w j ≡ identity → k ≤ j
