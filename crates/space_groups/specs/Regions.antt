-- Whole shifts along the image of an average, and the part of the image to which they bring each of its points. This project's own: they
-- bound the search for the rows of the table.
use Rattle.std.specs.Prelude.{◌≡◌, ◌≢◌, ℕ, ℤ, pos, ◌*ℤ◌}
use Rattle.lattice_algebra.specs.Matrix.{Matrix, Column, ◌·◌, ◌·ᶜ◌, ◌+ᶜ◌, times, scaled, identity}
use Rattle.lattice_algebra.specs.Operator.{AreParts}
use Rattle.lattice_algebra.specs.Map.{Map}
use Rattle.space_groups.specs.Space.{ScaledPoint}
use Rattle.space_groups.specs.Averages.{Block}

-- the translation by whole cells
abbrev pub shift_by : ℕ → Column → Map
shift_by unit k = record { w = identity; s = times (pos unit) k }

-- q is a common denominator of the matrix of a: r = q M is whole
abbrev pub IsWhole : ℕ → Matrix → Block → Type 0
IsWhole q r a = scaled (pos q) a.m ≡ scaled a.n r

-- the matrix with these three numbers on its diagonal, and 0 elsewhere
unfoldable pub diagonal : Column → Matrix
diagonal q = let o = pos 0 in record { xx = q.x; xy = o; xz = o; yx = o; yy = q.y; yz = o; zx = o; zy = o; zz = q.z }

-- each number of q makes its column of the matrix of a whole: the columns of r
abbrev pub AreWholeColumns : Column → Matrix → Block → Type 0
AreWholeColumns q r a = a.m · diagonal q ≡ scaled a.n r

-- the columns of r are whole shifts along the image of a, and each direction of the image is a rational combination of them: some number
-- times the matrix of a is r times a whole matrix
pub record SpansImage (a : Block) (r : Matrix) : Type 0 where
  pub along : a.m · r ≡ scaled a.n r
  pub number : ℤ
  pub some : number ≢ pos 0
  pub weights : Matrix
  pub spans : scaled number a.m ≡ r · weights

-- y is t + r z for some z with coordinates from 0 to below 1, where t is the translation of a: the coordinates are those of at, divided by
-- over
pub record IsInFirstCell (unit : ℕ) (a : Block) (r : Matrix) (y : ScaledPoint) : Type 0 where
  pub at : Column
  pub over : ℕ
  pub parts : AreParts over at
  pub equal : times (a.n *ℤ pos over) y.n ≡ times (pos y.d *ℤ pos over) a.t +ᶜ times (pos unit *ℤ pos y.d *ℤ a.n) (r ·ᶜ at)
