-- What the fields of matrices and columns of wide numbers stand for.
use Rattle.std.specs.Prelude.{ℕ, ◌*◌, ◌^◌}
use Rattle.lattice_algebra.specs.Matrix.{Matrix, Column}
use Rattle.phase_rules.specs.Rows.{Row}
use Rattle.exact_ops.specs.declared.TheConstants.{MAX_ENTRY}
use Rattle.basis_change.specs.declared.wide.WideMatrix.{WideMatrix}
use Rattle.basis_change.specs.declared.wide.WideVector.{WideVector}

abbrev pub wide_matrix : WideMatrix → Matrix
wide_matrix m = record { xx = m.xx; xy = m.xy; xz = m.xz; yx = m.yx; yy = m.yy; yz = m.yz; zx = m.zx; zy = m.zy; zz = m.zz }

abbrev pub wide_column : WideVector → Column
wide_column c = record { x = c.x; y = c.y; z = c.z }

-- and back
abbrev pub stored_wide : Matrix → WideMatrix
stored_wide m = record { xx = m.xx; xy = m.xy; xz = m.xz; yx = m.yx; yy = m.yy; yz = m.yz; zx = m.zx; zy = m.zy; zz = m.zz }

-- as a row
abbrev pub row_in : WideVector → Row
row_in r = record { h = r.x; k = r.y; l = r.z }

-- the greatest size of an entry of the inverse of what is read
abbrev pub WIDE : ℕ
WIDE = 2 * MAX_ENTRY ^ 2
