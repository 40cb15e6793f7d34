-- Columns on one line through the origin, divisors of a column, and the columns of a matrix.
use Rattle.std.specs.Prelude.{◌≡◌, ℤ, ◌*ℤ◌}
use Rattle.lattice_algebra.specs.Matrix.{Matrix, Column, ◌·ᶜ◌, times}

-- a and b are on one line through the origin: their cross product vanishes
pub record AreParallel (a b : Column) : Type 0 where
  pub xy : a.x *ℤ b.y ≡ a.y *ℤ b.x
  pub yz : a.y *ℤ b.z ≡ a.z *ℤ b.y
  pub zx : a.z *ℤ b.x ≡ a.x *ℤ b.z

-- each entry of c is a whole multiple of g
abbrev pub Divides : ℤ → Column → Type 0
Divides g c = (b : Column) × (c ≡ times g b)

-- a is what M makes of some column
abbrev pub IsImage : Matrix → Column → Type 0
IsImage m a = (e : Column) × (a ≡ m ·ᶜ e)

-- the columns of a matrix
abbrev pub x_column_of : Matrix → Column
x_column_of m = record { x = m.xx; y = m.yx; z = m.zx }

abbrev pub y_column_of : Matrix → Column
y_column_of m = record { x = m.xy; y = m.yy; z = m.zy }

abbrev pub z_column_of : Matrix → Column
z_column_of m = record { x = m.xz; y = m.yz; z = m.zz }
