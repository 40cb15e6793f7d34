-- The proper part of a matrix. International Tables A: a rotation, or a rotation times the inversion.
use Rattle.std.specs.Prelude.{◌≡◌, pos, negsuc, ◌<ℤ◌}
use Rattle.lattice_algebra.specs.Matrix.{Matrix, det, scaled}

-- the handedness of W is +1: its determinant, by the cofactor formula, is positive
abbrev pub IsProper : Matrix → Type 0
IsProper w = pos 0 <ℤ det w

-- -W
abbrev pub opposite : Matrix → Matrix
opposite w = scaled (negsuc 0) w

-- the proper part of W is W where its handedness is +1, else -W
pub record IsProperPart (w p : Matrix) : Type 0 where
  pub same : IsProper w → p ≡ w
  pub opposite_of : ¬ IsProper w → p ≡ opposite w
