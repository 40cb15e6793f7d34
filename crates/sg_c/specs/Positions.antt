-- The table of Wyckoff positions, as C has it.
use Rattle.std.specs.Prelude.{◌≡◌, ◌≢◌, ℕ, List, length}
use Rattle.lattice_algebra.specs.Matrix.{entries, coordinates}
use Rattle.lattice_algebra.specs.Operator as lattice
use Rattle.lattice_algebra.specs.Point.{Point}
use Rattle.exact_ops.specs.declared.TheConstants.{UNIT}
use Rattle.exact_ops.specs.Points.{HasCoordinates}
use Rattle.space_groups.specs.Rows.{Row, Fits, IsAt, IsRowList}
use Rattle.sg_c.specs.declared.positions.Position.{Position}
use Rattle.sg_c.specs.declared.questions.Coordinates.{Coordinates}
use Rattle.sg_c.specs.Arrays.{AreAnswers}
use Rattle.sg_c.specs.Questions.{pairs_in}

-- the row has these numbers
pub record IsRowAs (row : Row) (position : Position) : Type 0 where
  pub multiplicity : position.multiplicity ≡ row.mult
  pub matrix : position.m ≡ entries row.key.m
  pub translation : position.t ≡ coordinates row.key.t

-- the table of the group has so many rows
pub record IsRowCount (members : List lattice.Operator) (count : ℕ) : Type 0 where
  pub rows : List Row
  pub are_rows : IsRowList UNIT members rows
  pub counted : count ≡ length rows

-- the table of the group has more rows or fewer
pub record IsNoRowCount (members : List lattice.Operator) (count : ℕ) : Type 0 where
  pub rows : List Row
  pub are_rows : IsRowList UNIT members rows
  pub other : count ≢ length rows

-- these are the rows of the table of the group, in order
pub record AreRowsAs (members : List lattice.Operator) (positions : List Position) : Type 0 where
  pub rows : List Row
  pub are_rows : IsRowList UNIT members rows
  pub each : AreAnswers IsRowAs rows positions

-- the point with these coordinates fits the row at this place, and no other
pub record IsPlaceOf (members : List lattice.Operator) (c : Coordinates) (place : ℕ) : Type 0 where
  pub rows : List Row
  pub are_rows : IsRowList UNIT members rows
  pub point : Point
  pub has : HasCoordinates (pairs_in c) point
  pub row : Row
  pub at : IsAt rows place row
  pub fits : Fits UNIT members row point
  pub only : (k : ℕ) (other : Row) → IsAt rows k other → Fits UNIT members other point → k ≡ place
