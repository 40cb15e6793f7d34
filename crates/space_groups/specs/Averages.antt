-- The average over a list of maps: the special-position operator of a point is that over its site-symmetry group.
-- Averages stand over a common denominator, as blocks of a matrix, a column and a number, so that sums and products are exact: this
-- project's own.
use Rattle.std.specs.Prelude.{◌≡◌, ℕ, ℤ, pos, ◌+ℤ◌, ◌*ℤ◌, List, [], ◌∷◌, length}
use Rattle.lattice_algebra.specs.Matrix.{Matrix, Column, ◌·◌, ◌·ᶜ◌, ◌+ᶜ◌, ◌+ᵐ◌, times, scaled, origin, no_matrix}
use Rattle.lattice_algebra.specs.Map.{Map}
use Rattle.space_groups.specs.Space.{ScaledPoint}

-- the map x -> (M x + t / unit) / n: a matrix of four rows and columns, whose last row is 0 0 0 n
pub record Block : Type 0 where
  pub m : Matrix
  pub t : Column
  pub n : ℤ

-- the point p / (unit d): a column of four
pub record Vector : Type 0 where
  pub p : Column
  pub d : ℤ

-- a map as a block, over 1
unfoldable pub block_of : Map → Block
block_of g = record { m = g.w; t = g.s; n = pos 1 }

-- the sum of two blocks
unfoldable pub block_plus : Block → Block → Block
block_plus a b = record { m = a.m +ᵐ b.m; t = a.t +ᶜ b.t; n = a.n +ℤ b.n }

-- the sum of none
abbrev pub no_block : Block
no_block = record { m = no_matrix; t = origin; n = pos 0 }

-- the product of two blocks: a after b
unfoldable pub block_times : Block → Block → Block
block_times a b = record { m = a.m · b.m; t = a.m ·ᶜ b.t +ᶜ times b.n a.t; n = a.n *ℤ b.n }

-- k times a block: the same map over k times its number
unfoldable pub block_scaled : ℤ → Block → Block
block_scaled k a = record { m = scaled k a.m; t = times k a.t; n = k *ℤ a.n }

-- the sum of two vectors
unfoldable pub vector_plus : Vector → Vector → Vector
vector_plus u v = record { p = u.p +ᶜ v.p; d = u.d +ℤ v.d }

-- the sum of none
abbrev pub no_vector : Vector
no_vector = record { p = origin; d = pos 0 }

-- what a block makes of a vector
unfoldable pub block_on : Block → Vector → Vector
block_on a v = record { p = a.m ·ᶜ v.p +ᶜ times v.d a.t; d = a.n *ℤ v.d }

-- k times a vector: the same point
unfoldable pub vector_scaled : ℤ → Vector → Vector
vector_scaled k v = record { p = times k v.p; d = k *ℤ v.d }

-- the sum of the blocks of a list of maps
abbrev pub sum_of : List Map → Block
sum_of [] = no_block
sum_of (g ∷ gs) = block_plus (block_of g) (sum_of gs)

-- a is the average of the list, over n: its length times a is n times the sum
abbrev pub IsMean : ℕ → List Map → Block → Type 0
IsMean n list a = block_scaled (pos (length list)) a ≡ block_scaled (pos n) (sum_of list)

-- the point lies in the image of the average, which is idempotent: the average leaves it where it is
abbrev pub IsInImage : Block → ScaledPoint → Type 0
IsInImage a y = a.m ·ᶜ y.n +ᶜ times (pos y.d) a.t ≡ times a.n y.n
