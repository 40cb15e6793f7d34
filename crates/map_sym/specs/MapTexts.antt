-- The lines of the command `map`: those of the grid list, each with the sum at its point, and the total.
use Rattle.std.specs.Prelude.{◌≡◌, ℕ, ℤ, List, [], ◌∷◌, ◌++◌, codes, decimal}
use Rattle.std.specs.Fmt.{signed_decimal}
use Rattle.lattice_algebra.specs.Operator.{Operator}
use Rattle.grid_tags.specs.declared.line.GridLine.{GridLine}
use Rattle.grid_tags.specs.Grids.{triple_of}
use Rattle.grid_tags.specs.GridLists.{IsGridList}
use Rattle.triplet_text.specs.Bytes.{line_feed, space}
use Rattle.page_print.specs.Lines.{AreLines}
use Rattle.page_print.specs.Parts.{Is, Then}
use Rattle.map_sym.specs.SummedMaps.{GridValues, SummedMap, value_at}

-- the first point of an orbit, how many grid points of the cell are in the orbit, and a sum
abbrev pub sum_text : GridLine → ℤ → List ℕ
sum_text line sum =
    let p = triple_of line.at in
    decimal p.i ++ space ∷ decimal p.j ++ space ∷ decimal p.k ++ space ∷ decimal line.size ++ space ∷ signed_decimal sum ++ line_feed ∷ []

-- the text of a line of a grid list, with the sum at its point
abbrev pub IsSumText : GridValues → GridLine → List ℕ → Type 0
IsSumText sums line text = text ≡ sum_text line (value_at sums (triple_of line.at))

-- a line for each orbit of grid points, in the order of the grid list
pub record AreSumLines (members : List Operator) (sums : GridValues) (text : List ℕ) : Type 0 where
  pub lines : List GridLine
  pub is_list : IsGridList members sums.size lines
  pub are_lines : AreLines (IsSumText sums) lines text

abbrev pub total_text : ℤ → List ℕ
total_text total = codes "total " ++ signed_decimal total ++ line_feed ∷ []

-- and then a line of the total
abbrev pub IsMapText : List Operator → SummedMap → List ℕ → Type 0
IsMapText members map = Then (AreSumLines members map.sums) (Is (total_text map.total))
