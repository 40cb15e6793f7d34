-- Boxes of indices: all rows whose numbers are at most these in size. The order, descending, is this project's own.
use Rattle.std.specs.Prelude.{◌≡◌, ◌≤◌, ◌+◌, ◌*◌, ◌⊎◌, ℕ, ℤ, pos, ◌-ℤ◌, ◌<ℤ◌, unsigned_abs}
use Rattle.phase_rules.specs.Rows.{Row}
use Rattle.reflections.specs.declared.TheConstants.{MAX_HALF, MAX_PLACES}

-- the greatest size of each number
pub record Box : Type 0 where
  pub h : ℕ
  pub k : ℕ
  pub l : ℕ

-- each number of the row is at most that of the box in size
pub record IsInBox (b : Box) (r : Row) : Type 0 where
  pub h : unsigned_abs r.h ≤ b.h
  pub k : unsigned_abs r.k ≤ b.k
  pub l : unsigned_abs r.l ≤ b.l

-- each number of the one box is at most that of the other
pub record IsNoLarger (a b : Box) : Type 0 where
  pub h : a.h ≤ b.h
  pub k : a.k ≤ b.k
  pub l : a.l ≤ b.l

-- how many numbers are at most n in size
abbrev pub width : ℕ → ℕ
width n = 2 * n + 1

-- how many rows are in the box
abbrev pub places : Box → ℕ
places b = width b.h * width b.k * width b.l

-- the box is within the limits
pub record IsBoxInRange (b : Box) : Type 0 where
  pub h : b.h ≤ MAX_HALF
  pub k : b.k ≤ MAX_HALF
  pub l : b.l ≤ MAX_HALF
  pub few : places b ≤ MAX_PLACES

-- g stands before h: lexicographically descending
abbrev pub ComesBefore : Row → Row → Type 0
ComesBefore g h = (h.h <ℤ g.h) ⊎ ((g.h ≡ h.h) × ((h.k <ℤ g.k) ⊎ ((g.k ≡ h.k) × (h.l <ℤ g.l))))

-- the place of a row of the box among all of them in that order, from 0 on
abbrev pub steps_down : ℕ → ℤ → ℕ
steps_down n x = unsigned_abs (pos n -ℤ x)

unfoldable pub place_of : Box → Row → ℕ
place_of b r = (steps_down b.h r.h * width b.k + steps_down b.k r.k) * width b.l + steps_down b.l r.l
