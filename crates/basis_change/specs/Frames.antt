-- A change of coordinates together with its inverse, and what generates the space group that it changes.
use Rattle.std.specs.Prelude.{◌≡◌, ◌++◌, pos, ◌<ℤ◌, ◌≤ℤ◌, List, [], ◌∷◌, map}
use Rattle.std.specs.List.{All, Contains}
use Rattle.lattice_algebra.specs.Matrix.{Matrix, Column, ◌·◌, scaled, identity}
use Rattle.lattice_algebra.specs.Operator.{Operator, AreParts, HasEntriesWithin}
use Rattle.lattice_algebra.specs.Map.{Map, map_of, operator_of}
use Rattle.exact_ops.specs.declared.TheConstants.{UNIT, MAX_ENTRY}
use Rattle.exact_ops.specs.Fields.{matrix_in}
use Rattle.space_groups.specs.Regions.{shift_by}
use Rattle.space_groups.specs.Bases.{CoordinateChange, IsChanged, IsInChanged, HasChanged, x_cell, y_cell, z_cell}
use Rattle.basis_change.specs.declared.TheConstants.{MAX_CELL}
use Rattle.basis_change.specs.declared.frame.Frame.{Frame}
use Rattle.basis_change.specs.declared.generator.Generator.{Generator}
use Rattle.basis_change.specs.Wide.{wide_matrix, wide_column, WIDE}

-- the change
abbrev pub change_in : Frame → CoordinateChange
change_in f = record { w = wide_matrix f.w; t = wide_column f.t; d = f.d }

-- its numbers are in range, and V over k is the inverse of W
pub record IsFrame (f : Frame) : Type 0 where
  pub within : HasEntriesWithin MAX_ENTRY (wide_matrix f.w)
  pub inverse_within : HasEntriesWithin WIDE (wide_matrix f.v)
  pub some : pos 0 <ℤ f.k
  pub right : wide_matrix f.w · wide_matrix f.v ≡ scaled f.k identity
  pub left : wide_matrix f.v · wide_matrix f.w ≡ scaled f.k identity
  pub in_cell : AreParts UNIT (wide_column f.t)
  pub positive : pos 0 <ℤ f.d
  pub small : f.d ≤ℤ pos MAX_CELL

-- the map of a generator
abbrev pub map_in : Generator → Map
map_in g = record { w = matrix_in g.w; s = wide_column g.s }

-- one cell along each axis
abbrev pub cells : List Column
cells = x_cell ∷ y_cell ∷ z_cell ∷ []

-- the members and one cell along each axis: what generates the space group
abbrev pub generators : List Operator → List Map
generators members = map map_of members ++ map (shift_by UNIT) cells

-- ---- what a change asks of each of them

-- the changed matrix is whole
abbrev pub HasWholeMatrix : CoordinateChange → Map → Type 0
HasWholeMatrix c g = (m : Matrix) × (m · c.w ≡ c.w · g.w)

-- and has no entry beyond 2
abbrev pub HasNarrowMatrix : CoordinateChange → Map → Type 0
HasNarrowMatrix c g = (m : Matrix) → m · c.w ≡ c.w · g.w → HasEntriesWithin 2 m

-- the changed map is whole, its translation in parts of a cell
abbrev pub HasMap : CoordinateChange → Map → Type 0
HasMap c g = (h : Map) × IsChanged c g h

-- the list has the operators of the changed maps, and none that is no operator of the changed group
pub record AreChanged (members : List Operator) (c : CoordinateChange) (maps : List Map) (list : List Operator) : Type 0 where
  pub each : All (HasChanged UNIT c list) maps
  pub only : (f : Operator) → Contains list f → (h : Map) × IsInChanged UNIT members c h × (operator_of UNIT h ≡ f)
