-- A map, as C has it.
use Rattle.std.specs.Prelude.{ℕ, ℤ, List}
use Rattle.lattice_algebra.specs.Operator as lattice
use Rattle.grid_tags.specs.Grids.{Grid}
use Rattle.map_sym.specs.SummedMaps.{GridValues, IsSummedMap}

abbrev pub grid_of : ℕ → ℕ → ℕ → Grid
grid_of a b c = record { a = a; b = b; c = c }

abbrev pub values_on : Grid → List ℤ → GridValues
values_on size values = record { size = size; values = values }

-- these are the sums over the orbits, and their total
abbrev pub AreSums : List lattice.Operator → Grid → List ℤ → List ℤ → ℤ → Type 0
AreSums members size values sums total = IsSummedMap members (values_on size values) (record { sums = values_on size sums; total = total })
