-- The lines of the commands `wyckoff` and `fit`: a row of the table of Wyckoff positions, by its place, counted from 1, by how many
-- points an orbit has in the cell, and by its key as an affine map.
use Rattle.std.specs.Prelude.{◌≡◌, ◌+◌, ℕ, List, [], ◌∷◌, ◌++◌, length, decimal}
use Rattle.lattice_algebra.specs.Operator.{Operator}
use Rattle.space_groups.specs.Keys.{Key}
use Rattle.space_groups.specs.Rows.{Row, IsAt}
use Rattle.triplet_text.specs.Bytes.{line_feed, space}
use Rattle.triplet_text.specs.Printing.{affine_text}

-- the matrix of a key, over the number of members, and its translation in parts of a cell over it
abbrev pub numbers_of_key : Key → Operator
numbers_of_key p = record { w = p.m; t = p.t }

-- the numbers of the row at place k, counted from 0, of the table of so many members
abbrev pub shown_row : ℕ → ℕ → Row → List ℕ
shown_row over k row = decimal (k + 1) ++ space ∷ decimal row.mult ++ space ∷ affine_text over (numbers_of_key row.key)

abbrev pub row_line : ℕ → ℕ → Row → List ℕ
row_line over k row = shown_row over k row ++ line_feed ∷ []

-- the lines of rows of which the first stands at place k
abbrev pub lines_from : (ℕ → Row → List ℕ) → ℕ → List Row → List ℕ
lines_from line k [] = []
lines_from line k (row ∷ rest) = line k row ++ lines_from line (k + 1) rest

-- a line for each row, in their order
abbrev pub IsRowsText : List Operator → List Row → List ℕ → Type 0
IsRowsText members rows text = text ≡ lines_from (row_line (length members)) 0 rows

-- the line of the row at place k
pub record IsRowText (members : List Operator) (rows : List Row) (k : ℕ) (text : List ℕ) : Type 0 where
  pub row : Row
  pub at : IsAt rows k row
  pub whole : text ≡ row_line (length members) k row
