-- Elements of the space group as they are kept: an operator and whole shifts.
use Rattle.std.specs.Prelude.{ℤ, pos, List}
use Rattle.lattice_algebra.specs.Matrix.{Column, column_of, ◌+ᶜ◌, times}
use Rattle.lattice_algebra.specs.Operator.{Operator, AreWithin}
use Rattle.lattice_algebra.specs.Map.{Map}
use Rattle.exact_ops.specs.declared.TheConstants.{UNIT, MAX_SHIFT}

-- the map x -> W x + t / UNIT + shift
abbrev pub map_with : Operator → List ℤ → Map
map_with f shift = record { w = f.w; s = f.t +ᶜ times (pos UNIT) (column_of shift) }

-- each whole shift is within range
abbrev pub IsShiftInRange : Column → Type 0
IsShiftInRange k = AreWithin MAX_SHIFT k.x k.y k.z
