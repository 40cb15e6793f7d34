-- The lines of the command `grid`: the first point of each orbit, and how many grid points of the cell are in the orbit.
use Rattle.std.specs.Prelude.{◌≡◌, ℕ, List, [], ◌∷◌, ◌++◌, decimal}
use Rattle.lattice_algebra.specs.Operator.{Operator}
use Rattle.grid_tags.specs.declared.line.GridLine.{GridLine}
use Rattle.grid_tags.specs.Grids.{Grid, triple_of}
use Rattle.grid_tags.specs.GridLists.{IsGridList}
use Rattle.triplet_text.specs.Bytes.{line_feed, space}
use Rattle.page_print.specs.Lines.{AreLines}

abbrev pub orbit_text : GridLine → List ℕ
orbit_text line =
    let p = triple_of line.at in
    decimal p.i ++ space ∷ decimal p.j ++ space ∷ decimal p.k ++ space ∷ decimal line.size ++ line_feed ∷ []

-- the text of a line of a grid list
abbrev pub IsOrbitText : GridLine → List ℕ → Type 0
IsOrbitText line text = text ≡ orbit_text line

-- a line for each orbit of grid points, in the order of the grid list
pub record IsGridText (members : List Operator) (grid : Grid) (text : List ℕ) : Type 0 where
  pub lines : List GridLine
  pub is_list : IsGridList members grid lines
  pub are_lines : AreLines IsOrbitText lines text
