-- What the fields of averages and keys stand for.
use Rattle.std.specs.Prelude.{ℕ, ℤ, pos, unsigned_abs}
use Rattle.lattice_algebra.specs.Matrix.{Column}
use Rattle.exact_ops.specs.declared.matrix.Rotation.{Rotation}
use Rattle.exact_ops.specs.Fields as operators
use Rattle.affine_sets.specs.declared.numbers.Offset.{Offset}
use Rattle.exact_ops.specs.declared.matrix.Vector.{Vector}
use Rattle.space_groups.specs.Averages.{Block}
use Rattle.space_groups.specs.Keys.{Key}

abbrev pub offset_in : Offset → Column
offset_in c = record { x = c.x; y = c.y; z = c.z }

abbrev pub block_in : Rotation → Offset → ℕ → Block
block_in m t n = record { m = operators.matrix_in m; t = offset_in t; n = pos n }

abbrev pub key_in : Rotation → Vector → Key
key_in m t = record { m = operators.matrix_in m; t = operators.column_in t }

-- and back
abbrev pub stored_offset : Column → Offset
stored_offset c = record { x = c.x; y = c.y; z = c.z }

abbrev pub stored_number : ℤ → ℕ
stored_number n = unsigned_abs n
