-- What a change of basis and a change of the cell keep, and what is answered to the latter.
use Rattle.std.specs.Prelude.{◌≡◌, ◌≢◌, ◌≤◌, ℕ, pos, List}
use Rattle.lattice_algebra.specs.Matrix.{Matrix, Column, IsUnimodular, inverse_matrix, det}
use Rattle.lattice_algebra.specs.Operator.{Operator, AreParts, HasEntriesWithin}
use Rattle.exact_ops.specs.declared.TheConstants.{UNIT, MAX_ENTRY}
use Rattle.group_closure.specs.declared.TheConstants.{MAX_OPERATORS}
use Rattle.group_closure.specs.GroupList.{IsGroup}
use Rattle.space_groups.specs.Bases.{CoordinateChange, IsCell, AreWhole, AreNarrow, AreInParts, IsMoreThan, IsChangedGroup}
use Rattle.basis_change.specs.declared.TheConstants.{MAX_CELL}
use Rattle.basis_change.specs.Wide.{WIDE}
use Rattle.basis_change.specs.declared.cell.RecellFault.{RecellFault}
use Rattle.basis_change.specs.declared.cell.RecellFault.TheVariants.{NotCell, NotWhole, Wide, Fine, Many, NoMemory}

-- Q is unimodular and in the range of what is read, q lies in the cell, and P is the inverse of Q
pub record IsStoredChange (q : Matrix) (origin : Column) (p : Matrix) : Type 0 where
  pub unimodular : IsUnimodular q
  pub within : HasEntriesWithin MAX_ENTRY q
  pub in_cell : AreParts UNIT origin
  pub inverse : p ≡ inverse_matrix q
  pub inverse_within : HasEntriesWithin WIDE p

-- W is invertible and in range, t lies in the cell, and the denominator is in range
pub record IsStoredCellChange (w : Matrix) (origin : Column) (d : ℕ) : Type 0 where
  pub within : HasEntriesWithin MAX_CELL w
  pub some : det w ≢ pos 0
  pub in_cell : AreParts UNIT origin
  pub first : 1 ≤ d
  pub last : d ≤ MAX_CELL

-- nothing but the number of the changed elements can refuse the change
pub record MayClose (members : List Operator) (c : CoordinateChange) : Type 0 where
  pub cell : IsCell UNIT members c
  pub whole : AreWhole UNIT members c
  pub narrow : AreNarrow UNIT members c
  pub parts : AreInParts UNIT members c

-- why the change is refused: of the first five faults the first that holds; for want of memory where none of the first four does
abbrev pub IsRefusedAs : List Operator → CoordinateChange → RecellFault → Type 0
IsRefusedAs members c NotCell = ¬ IsCell UNIT members c
IsRefusedAs members c NotWhole = IsCell UNIT members c × (¬ AreWhole UNIT members c)
IsRefusedAs members c Wide = IsCell UNIT members c × AreWhole UNIT members c × (¬ AreNarrow UNIT members c)
IsRefusedAs members c Fine = IsCell UNIT members c × AreWhole UNIT members c × AreNarrow UNIT members c × (¬ AreInParts UNIT members c)
IsRefusedAs members c Many = MayClose members c × IsMoreThan MAX_OPERATORS UNIT members c
IsRefusedAs members c NoMemory = MayClose members c

-- the group in the other cell
pub record IsRecelled (members : List Operator) (c : CoordinateChange) (changed : List Operator) : Type 0 where
  pub may : MayClose members c
  pub few : ¬ IsMoreThan MAX_OPERATORS UNIT members c
  pub group : IsGroup changed
  pub changed_group : IsChangedGroup UNIT members c changed
