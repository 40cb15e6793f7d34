-- The grid list: the grid points of a cell that have no earlier one in their orbit. This project's own.
use Rattle.std.specs.Prelude.{◌≡◌, ◌≢◌, ◌↔◌, ℕ, List, length}
use Rattle.std.specs.List.{AllPairs, Contains}
use Rattle.lattice_algebra.specs.Operator.{Operator}
use Rattle.lattice_algebra.specs.Map.{Map}
use Rattle.exact_ops.specs.declared.TheConstants.{UNIT}
use Rattle.space_groups.specs.Space.{IsElement}
use Rattle.tag_walks.specs.Regions.{Region, Lines, AreFirstPlaces, IsFirstList, IsOnlyLine}
use Rattle.grid_tags.specs.declared.line.GridLine.{GridLine}
use Rattle.grid_tags.specs.Grids.{Grid, Triple, IsInGrid, IsGridImage, ComesBefore, column_at, triple_of, place_of, points}

-- some element of the space group maps p to q
abbrev pub AreInOneOrbit : List Operator → Grid → Triple → Triple → Type 0
AreInOneOrbit members s p q = (g : Map) × IsElement UNIT members g × IsGridImage s g (column_at p) (column_at q)

-- the list has each grid point of the cell once that is in the orbit of p
pub record IsGridOrbit (members : List Operator) (s : Grid) (p : Triple) (list : List Triple) : Type 0 where
  pub exactly : (q : Triple) → Contains list q ↔ (IsInGrid s q × AreInOneOrbit members s p q)
  pub once : AllPairs (λ (a b : Triple). a ≢ b) list

-- what the line says is so of its point
pub record IsGridLine (members : List Operator) (s : Grid) (line : GridLine) : Type 0 where
  pub three : length line.at ≡ 3
  pub size : (orbit : List Triple) → IsGridOrbit members s (triple_of line.at) orbit → line.size ≡ length orbit

-- the grid points of the cell in ascending order, equivalent where they are in one orbit
abbrev pub grid_region : List Operator → Grid → Region
grid_region members s = record {
  X = Triple;
  In = IsInGrid s;
  Before = ComesBefore;
  Equivalent = AreInOneOrbit members s;
  place = place_of s;
  count = points s;
}

-- the numbers are, for each grid point of the cell by its place, the place of the first point of its orbit
abbrev pub AreFirstPoints : List Operator → Grid → List ℕ → Type 0
AreFirstPoints members s firsts = AreFirstPlaces (grid_region members s) firsts

abbrev pub grid_lines : (members : List Operator) (s : Grid) → Lines (grid_region members s)
grid_lines members s = record { L = GridLine; at = λ (line : GridLine). triple_of line.at; IsLine = IsGridLine members s }

-- the grid list: the lines of the grid points that have no earlier one in their orbit
abbrev pub IsGridList : List Operator → Grid → List GridLine → Type 0
IsGridList members s list = IsFirstList (grid_region members s) (grid_lines members s) list

-- of the lines this one alone has a point in the orbit of p
abbrev pub IsOnlyLineOf : List Operator → Grid → List GridLine → Triple → GridLine → Type 0
IsOnlyLineOf members s list p line = IsOnlyLine (grid_region members s) (grid_lines members s) list p line
