-- A group in other coordinates, as C asks for it.
use Rattle.std.specs.Prelude.{◌≡◌, ◌≢◌, ◌≤◌, ℕ, pos, List, Option, Some}
use Rattle.lattice_algebra.specs.Matrix.{matrix_of, column_of, IsUnimodular}
use Rattle.lattice_algebra.specs.Operator as lattice
use Rattle.lattice_algebra.specs.Operator.{HasEntriesWithin}
use Rattle.exact_ops.specs.declared.TheConstants.{UNIT}
use Rattle.exact_ops.specs.Raw.{numbers_of, IsInRange}
use Rattle.space_groups.specs.Bases.{CoordinateChange, IsInvertible, IsChangedGroup}
use Rattle.basis_change.specs.declared.TheConstants.{MAX_CELL}
use Rattle.basis_change.specs.declared.cell.RecellFault.{RecellFault}
use Rattle.basis_change.specs.declared.cell.RecellFault.TheVariants.{NoMemory}
use Rattle.basis_change.specs.Changes.{IsRefusedAs}
use Rattle.sg_c.specs.declared.group.Operator.{Operator}

-- the change x -> W x / d + t
abbrev pub change_of : Operator → ℕ → CoordinateChange
change_of c d = record { w = matrix_of c.w; t = column_of c.t; d = pos d }

-- it can be a change of the basis
pub record IsBasis (c : Operator) : Type 0 where
  pub in_range : IsInRange (numbers_of c.w c.t)
  pub unimodular : IsUnimodular (matrix_of c.w)

-- it can be a change of the cell
pub record IsCellChange (c : Operator) (d : ℕ) : Type 0 where
  pub in_range : IsInRange (numbers_of c.w c.t)
  pub some : 1 ≤ d
  pub few : d ≤ MAX_CELL
  pub within : HasEntriesWithin MAX_CELL (matrix_of c.w)
  pub invertible : IsInvertible (matrix_of c.w)

-- a handle holds the changed group
pub record HoldsChanged (members : List lattice.Operator) (c : CoordinateChange) (held : Option (List lattice.Operator)) : Type 0 where
  pub changed : List lattice.Operator
  pub is : held ≡ Some changed
  pub group : IsChangedGroup UNIT members c changed

-- there is no group in the other cell
pub record IsNotRecelled (members : List lattice.Operator) (c : CoordinateChange) : Type 0 where
  pub fault : RecellFault
  pub refused : IsRefusedAs members c fault
  pub reason : fault ≢ NoMemory
