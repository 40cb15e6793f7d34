-- What a triplet says, before it is known to be an operator.
use Rattle.std.specs.Prelude.{ℤ, List}
use Rattle.lattice_algebra.specs.Matrix.{matrix_of, column_of, IsUnimodular}
use Rattle.lattice_algebra.specs.Operator.{Operator, AreParts, HasEntriesWithin}
use Rattle.exact_ops.specs.declared.TheConstants.{UNIT, MAX_ENTRY}

-- the matrix and the translation with these numbers, the matrix row by row
abbrev pub numbers_of : List ℤ → List ℤ → Operator
numbers_of w t = record { w = matrix_of w; t = column_of t }

-- entries within the range of what is read, and a translation in the cell
pub record IsInRange (f : Operator) : Type 0 where
  pub within : HasEntriesWithin MAX_ENTRY f.w
  pub in_cell : AreParts UNIT f.t

-- and a matrix that has a whole inverse: so f is an operator
pub record IsListed (f : Operator) : Type 0 where
  pub in_range : IsInRange f
  pub unimodular : IsUnimodular f.w
