-- A walk through the orbits of the points of a grid, by tags.
use Rattle.std.specs.Prelude.{◌≡◌, ℕ, Bool, true, false, List, slice_index_or}
use Rattle.lattice_algebra.specs.Operator.{Operator}
use Rattle.group_closure.specs.GroupList.{IsGroup}
use Rattle.tag_walks.specs.Regions.{IsTagWalk}
use Rattle.grid_tags.specs.declared.line.GridLine.{GridLine}
use Rattle.grid_tags.specs.Grids.{Grid, Triple, IsGridInRange, IsKept, place_of}
use Rattle.grid_tags.specs.GridLists.{IsGridList, grid_region, grid_lines}

-- what a walk keeps: the grid, the place that it has come to, and a tag for each place
pub record Walk : Type 0 where
  pub size : Grid
  pub place : ℕ
  pub tags : List Bool

-- the place of the grid point has a tag
abbrev pub IsTagged : Grid → List Bool → Triple → Type 0
IsTagged s tags p = slice_index_or tags (place_of s p) false ≡ true

-- these lines were taken from a walk through the orbits of a grid that the group keeps
pub record IsWalk (members : List Operator) (walk : Walk) (taken : List GridLine) : Type 0 where
  pub group : IsGroup members
  pub range : IsGridInRange walk.size
  pub kept : IsKept members walk.size
  pub tags : IsTagWalk (grid_region members walk.size) (grid_lines members walk.size) walk.place walk.tags taken

-- each line of the grid list was taken from the walk
pub record IsOver (members : List Operator) (old new : Walk) (taken : List GridLine) : Type 0 where
  pub walk : IsWalk members new taken
  pub all : IsGridList members old.size taken
