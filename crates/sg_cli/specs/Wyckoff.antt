-- What is printed of the Wyckoff positions of a group.
use Rattle.std.specs.Prelude.{ℕ, List}
use Rattle.lattice_algebra.specs.Operator.{Operator}
use Rattle.lattice_algebra.specs.Point.{Point}
use Rattle.exact_ops.specs.declared.TheConstants.{UNIT}
use Rattle.space_groups.specs.Rows.{Row, Fits, IsRowList}
use Rattle.table_print.specs.Rows.{IsRowText}
use Rattle.table_print.specs.Sample.{IsSampleText}
use Rattle.samples.specs.declared.counting.TheConstants.{POINTS}
use Rattle.samples.specs.Groups.{number_of}
use Rattle.samples.specs.Counts.{AreCounts}

-- such a text of the row list of the space group, which is its Wyckoff table
pub record IsTextOfRows (members : List Operator) (IsText : List Row → List ℕ → Type 0) (text : List ℕ) : Type 0 where
  pub rows : List Row
  pub list : IsRowList UNIT members rows
  pub is_text : IsText rows text

-- the line of a row that the point fits, with its place; a table has one such row
pub record IsFitText (members : List Operator) (x : Point) (rows : List Row) (text : List ℕ) : Type 0 where
  pub place : ℕ
  pub line : IsRowText members rows place text
  pub fits : Fits UNIT members line.row x

-- the rows of the group that a seed asks for, each with how many of the points that are made from the seed fit it
pub record IsCountedText (members : List Operator) (seed : ℕ) (rows : List Row) (text : List ℕ) : Type 0 where
  pub counts : List ℕ
  pub are : AreCounts members rows seed POINTS counts
  pub is_text : IsSampleText (number_of seed) members rows counts text
