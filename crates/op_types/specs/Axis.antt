-- The axis of a rotation: the columns that it fixes, where they are one line.
use Rattle.std.specs.Prelude.{◌≡◌, ◌≢◌, ◌≤◌, ◌⊎◌, ℕ, ℤ, pos, ◌<ℤ◌}
use Rattle.lattice_algebra.specs.Matrix.{Matrix, Column, ◌·ᶜ◌, times, origin}

-- c is a rational multiple of a
abbrev pub IsMultiple : Column → Column → Type 0
IsMultiple a c = (m k : ℤ) × (m ≢ pos 0) × (times m c ≡ times k a)

-- P fixes a, and each column that it fixes is a multiple of a
pub record IsAlong (p : Matrix) (a : Column) : Type 0 where
  pub some : a ≢ origin
  pub fixed : p ·ᶜ a ≡ a
  pub all : (c : Column) → p ·ᶜ c ≡ c → IsMultiple a c

-- the columns that P fixes are one line
abbrev pub IsLine : Matrix → Type 0
IsLine p = (a : Column) × IsAlong p a

-- the first entry other than 0 is positive
abbrev pub IsDirected : Column → Type 0
IsDirected a = (pos 0 <ℤ a.x) ⊎ ((a.x ≡ pos 0) × ((pos 0 <ℤ a.y) ⊎ ((a.y ≡ pos 0) × (pos 0 <ℤ a.z))))

-- the entries have no common divisor above 1
abbrev pub HasNoDivisor : Column → Type 0
HasNoDivisor a = (d : ℕ) (b : Column) → a ≡ times (pos d) b → d ≤ 1

-- the vector of the line that P fixes: whole, without common divisor, its first entry other than 0 positive
pub record IsAxis (p : Matrix) (a : Column) : Type 0 where
  pub along : IsAlong p a
  pub no_divisor : HasNoDivisor a
  pub directed : IsDirected a
