-- Rational points, and what maps do to them.
use Rattle.std.specs.Prelude.{◌≡◌, ℕ, ℤ, pos, ◌*ℤ◌, ◌*◌, ◌<ℤ◌, unsigned_abs}
use Rattle.lattice_algebra.specs.Matrix.{Column, ◌·ᶜ◌, ◌+ᶜ◌, times}
use Rattle.lattice_algebra.specs.Operator.{AreWithin}
use Rattle.lattice_algebra.specs.Map.{Map}

-- the point n / d
pub record Point : Type 0 where
  pub n : Column
  pub d : ℤ

-- its denominator is positive
abbrev pub IsPoint : Point → Type 0
IsPoint p = pos 0 <ℤ p.d

-- one point: the cross products are equal
infix 40 ◌≈◌
abbrev pub ◌≈◌ : Point → Point → Type 0
p ≈ q = times q.d p.n ≡ times p.d q.n

-- the image W x + s / unit of a point, over unit times its denominator
unfoldable pub image : ℕ → Map → Point → Point
image unit g p = record { n = times (pos unit) (g.w ·ᶜ p.n) +ᶜ times p.d g.s; d = pos unit *ℤ p.d }

-- each coordinate of the point is at most this in size
abbrev pub HasCoordinatesWithin : ℕ → Point → Type 0
HasCoordinatesWithin size p = AreWithin (size * unsigned_abs p.d) p.n.x p.n.y p.n.z
