-- Which whole shifts an element of an operator can have that fixes a point of the first cell of an image: an interval for each coordinate.
-- This project's own.
use Rattle.std.specs.Prelude.{ℕ, ℤ, pos, negsuc, ◌+ℤ◌, ◌-ℤ◌, ◌*ℤ◌, ◌≤ℤ◌}
use Rattle.std.specs.Int.{int_min, int_max, int_signum}
use Rattle.lattice_algebra.specs.Matrix.{Matrix, Column, ◌·◌, ◌·ᶜ◌, ◌+ᶜ◌, ◌+ᵐ◌, neg_column, times, scaled}
use Rattle.lattice_algebra.specs.Operator.{Operator}
use Rattle.space_groups.specs.Averages.{Block}

-- (I - W) r
unfoldable pub differences : Matrix → Matrix → Matrix
differences w r = r +ᵐ scaled (negsuc 0) (w · r)

-- t - (W t + n w), over unit n, where t is the translation of the average over n, and the operator is W, w
unfoldable pub base_shift : Block → Operator → Column
base_shift a f = a.t +ᶜ neg_column (f.w ·ᶜ a.t +ᶜ times a.n f.t)

-- the sum of those of three numbers that are below 0, and of those that are above 0
abbrev pub sum_below : ℤ → ℤ → ℤ → ℤ
sum_below a b c = int_min a (pos 0) +ℤ int_min b (pos 0) +ℤ int_min c (pos 0)

abbrev pub sum_above : ℤ → ℤ → ℤ → ℤ
sum_above a b c = int_max a (pos 0) +ℤ int_max b (pos 0) +ℤ int_max c (pos 0)

-- these sums for each row of a matrix
unfoldable pub sums_below : Matrix → Column
sums_below m = record { x = sum_below m.xx m.xy m.xz; y = sum_below m.yx m.yy m.yz; z = sum_below m.zx m.zy m.zz }

unfoldable pub sums_above : Matrix → Column
sums_above m = record { x = sum_above m.xx m.xy m.xz; y = sum_above m.yx m.yy m.yz; z = sum_above m.zx m.zy m.zz }

-- the ends of the intervals, over unit n
unfoldable pub lowest : ℕ → Block → Matrix → Operator → Column
lowest unit a r f = base_shift a f +ᶜ times (pos unit *ℤ a.n) (sums_below (differences f.w r))

unfoldable pub highest : ℕ → Block → Matrix → Operator → Column
highest unit a r f = base_shift a f +ᶜ times (pos unit *ℤ a.n) (sums_above (differences f.w r))

-- each coordinate of s, which counts cells, lies between those of the columns low and high, which count parts: u to a cell
pub record IsBetween (u : ℤ) (low high s : Column) : Type 0 where
  pub x : (low.x ≤ℤ (u *ℤ s.x)) × ((u *ℤ s.x) ≤ℤ high.x)
  pub y : (low.y ≤ℤ (u *ℤ s.y)) × ((u *ℤ s.y) ≤ℤ high.y)
  pub z : (low.z ≤ℤ (u *ℤ s.z)) × ((u *ℤ s.z) ≤ℤ high.z)

-- ---- intervals that the equation of such an element leaves open

-- the last whole number before base + g s on the way there from base, which is base itself where s is 0
abbrev pub open_end : ℤ → ℤ → ℤ → ℤ
open_end g base s = base +ℤ g *ℤ s -ℤ int_signum s

-- g times k lies between two ends, which lie from the base by g times the sum of those of the three numbers that are below 0, and by that of
-- those above: an end is left out where it is not the base
abbrev pub IsBetweenEnds : ℤ → ℤ → ℤ → ℤ → ℤ → ℤ → Type 0
IsBetweenEnds g base a b c k = (open_end g base (sum_below a b c) ≤ℤ (g *ℤ k)) × ((g *ℤ k) ≤ℤ open_end g base (sum_above a b c))

-- and so for each coordinate, with the three numbers of its row
abbrev pub AreBetweenEnds : ℤ → Column → Matrix → Column → Type 0
AreBetweenEnds g base m k = IsBetweenEnds g base.x m.xx m.xy m.xz k.x × IsBetweenEnds g base.y m.yx m.yy m.yz k.y × IsBetweenEnds g base.z m.zx m.zy m.zz k.z
