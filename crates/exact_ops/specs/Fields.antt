-- What the fields of an operator stand for.
use Rattle.exact_ops.specs.declared.matrix.Rotation.{Rotation}
use Rattle.exact_ops.specs.declared.matrix.Vector.{Vector}
use Rattle.lattice_algebra.specs.Matrix.{Matrix, Column}
use Rattle.lattice_algebra.specs.Operator.{Operator}

abbrev pub matrix_in : Rotation → Matrix
matrix_in m = record { xx = m.xx; xy = m.xy; xz = m.xz; yx = m.yx; yy = m.yy; yz = m.yz; zx = m.zx; zy = m.zy; zz = m.zz }

abbrev pub column_in : Vector → Column
column_in c = record { x = c.x; y = c.y; z = c.z }

abbrev pub operator_in : Rotation → Vector → Operator
operator_in m c = record { w = matrix_in m; t = column_in c }

-- and back
abbrev pub stored_matrix : Matrix → Rotation
stored_matrix m = record { xx = m.xx; xy = m.xy; xz = m.xz; yx = m.yx; yy = m.yy; yz = m.yz; zx = m.zx; zy = m.zy; zz = m.zz }

abbrev pub stored_column : Column → Vector
stored_column c = record { x = c.x; y = c.y; z = c.z }
