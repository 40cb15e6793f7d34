-- Values as data lines write them, one for each grid point of a cell, in ascending order of the points.
use Rattle.std.specs.Prelude.{◌≡◌, ◌≢◌, ℕ, ℤ, List, [], ◌∷◌, length}
use Rattle.triplet_text.specs.Integers.{IsInteger}
use Rattle.data_lines.specs.Fields.{fields_of}
use Rattle.data_lines.specs.DataLines.{AreWritten, IsBadLine, IsFirstSuch}
use Rattle.grid_tags.specs.Grids.{Grid, points}
use Rattle.data_lines.specs.declared.number.TheConstants.{NUMBER_DIGITS}
use Rattle.map_sym.specs.declared.reading.ValueFault.{ValueFault}
use Rattle.map_sym.specs.declared.reading.ValueFault.TheVariants.{Bad, Count, NoMemory}
use Rattle.map_sym.specs.SummedMaps.{GridValues, AreAllPoints}

-- the line has one field, digits with a sign before them or none, which write the value
pub record IsValueLine (line : List ℕ) (value : ℤ) : Type 0 where
  pub field : List ℕ
  pub is_field : fields_of line ≡ field ∷ []
  pub is_value : IsInteger NUMBER_DIGITS field value

-- the values that these lines write are one for each grid point of the cell, in order
pub record AreValuesOf (lines : List (List ℕ)) (grid : Grid) (given : GridValues) : Type 0 where
  pub size : given.size ≡ grid
  pub all : AreAllPoints given
  pub written : AreWritten IsValueLine lines given.values

-- counted from first on, line k is the first bad one: not skipped, and writes no value
abbrev pub IsFirstBad : ℕ → List (List ℕ) → ℕ → Type 0
IsFirstBad = IsFirstSuch IsValueLine (IsBadLine IsValueLine)

-- no line is bad, and the number of values that they write is n, which is not that of the grid points of the cell
pub record IsOtherCount (lines : List (List ℕ)) (size : Grid) (n : ℕ) : Type 0 where
  pub values : List ℤ
  pub written : AreWritten IsValueLine lines values
  pub count : n ≡ length values
  pub other : n ≢ points size

-- a fault names the first bad line, or the number of values; memory may be wanted for any lines
abbrev pub IsValueFaultOf : ℕ → List (List ℕ) → Grid → ValueFault → Type 0
IsValueFaultOf first lines size (Bad k) = IsFirstBad first lines k
IsValueFaultOf first lines size (Count n) = IsOtherCount lines size n
IsValueFaultOf first lines size NoMemory = Unit {0}
