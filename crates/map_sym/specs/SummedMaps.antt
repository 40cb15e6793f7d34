-- Values at the points of a grid, and their sums over orbits. International Tables A for orbits; the sums are this project's own.
use Rattle.std.specs.Prelude.{◌≡◌, ℤ, pos, ◌+ℤ◌, List, [], ◌∷◌, length, slice_index_or}
use Rattle.lattice_algebra.specs.Operator.{Operator}
use Rattle.grid_tags.specs.declared.line.GridLine.{GridLine}
use Rattle.grid_tags.specs.Grids.{Grid, Triple, IsInGrid, triple_of, place_of, points}
use Rattle.grid_tags.specs.GridLists.{AreInOneOrbit, IsGridOrbit, IsGridList}

-- values for the grid points of a cell, by their places
pub record GridValues : Type 0 where
  pub size : Grid
  pub values : List ℤ

-- there is one for each point
abbrev pub AreAllPoints : GridValues → Type 0
AreAllPoints given = length given.values ≡ points given.size

-- the value at a grid point
abbrev pub value_at : GridValues → Triple → ℤ
value_at given p = slice_index_or given.values (place_of given.size p) (pos 0)

-- the sum of what f gives of each element
abbrev pub sum_over : {X : Type 0} → (X → ℤ) → List X → ℤ
sum_over f [] = pos 0
sum_over f (x ∷ xs) = f x +ℤ sum_over f xs

-- the sum of the values at the points of the orbit of p in the cell, each taken once
pub record IsOrbitSum (members : List Operator) (given : GridValues) (p : Triple) (sum : ℤ) : Type 0 where
  pub orbit : List Triple
  pub is_orbit : IsGridOrbit members given.size p orbit
  pub is_sum : sum ≡ sum_over (value_at given) orbit

-- a sum for each grid point of the cell, and a total
pub record SummedMap : Type 0 where
  pub sums : GridValues
  pub total : ℤ

-- the summed map of the given values: at each grid point of the cell the sum over its orbit, and the sum of all values
pub record IsSummedMap (members : List Operator) (given : GridValues) (map : SummedMap) : Type 0 where
  pub size : map.sums.size ≡ given.size
  pub all : AreAllPoints map.sums
  pub sums : (p : Triple) → IsInGrid given.size p → IsOrbitSum members given p (value_at map.sums p)
  pub total : map.total ≡ sum_over (λ (v : ℤ). v) given.values

-- two points of one orbit have one value
abbrev pub IsOneOnEachOrbit : List Operator → GridValues → Type 0
IsOneOnEachOrbit members given = (p q : Triple) → IsInGrid given.size p → IsInGrid given.size q → AreInOneOrbit members given.size p q → value_at given p ≡ value_at given q

-- the values at the points of the grid list have this sum
abbrev pub IsSumOverList : List Operator → GridValues → ℤ → Type 0
IsSumOverList members given total = (list : List GridLine) → IsGridList members given.size list
    → sum_over (λ (line : GridLine). value_at given (triple_of line.at)) list ≡ total
