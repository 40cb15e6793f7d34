-- What the laws about tables speak of.
use Rattle.std.specs.Prelude.{◌≡◌, ℕ, pos, List}
use Rattle.lattice_algebra.specs.Matrix.{identity, origin, scaled}
use Rattle.lattice_algebra.specs.Operator.{Operator}
use Rattle.lattice_algebra.specs.Point.{Point}
use Rattle.exact_ops.specs.declared.TheConstants.{UNIT}
use Rattle.space_groups.specs.Rows.{Row, Fits, IsAt}

-- x fits the row at place k, and none at another place
pub record IsOnlyPlaceOf (members : List Operator) (rows : List Row) (x : Point) (k : ℕ) : Type 0 where
  pub row : Row
  pub at : IsAt rows k row
  pub fits : Fits UNIT members row x
  pub only : (j : ℕ) (other : Row) → IsAt rows j other → Fits UNIT members other x → j ≡ k

-- x and y fit the row at place k
pub record IsPlaceOfBoth (members : List Operator) (rows : List Row) (x y : Point) (k : ℕ) : Type 0 where
  pub row : Row
  pub at : IsAt rows k row
  pub fits : Fits UNIT members row x
  pub fits_too : Fits UNIT members row y

-- the row of the general position, over n members: n points, M the identity and t zero
abbrev pub general_row : ℕ → Row
general_row n = record { mult = n; key = record { m = scaled (pos n) identity; t = origin } }
