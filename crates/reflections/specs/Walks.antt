-- A walk through the classes of a box, by tags.
use Rattle.std.specs.Prelude.{◌≡◌, ℕ, Bool, true, false, List, slice_index_or}
use Rattle.lattice_algebra.specs.Operator.{Operator}
use Rattle.group_closure.specs.GroupList.{IsGroup}
use Rattle.phase_rules.specs.declared.pairs.Pairs.{Pairs}
use Rattle.phase_rules.specs.Rows.{Row}
use Rattle.tag_walks.specs.Regions.{IsTagWalk}
use Rattle.reflections.specs.declared.line.ClassLine.{ClassLine}
use Rattle.reflections.specs.Boxes.{Box, place_of}
use Rattle.reflections.specs.ClassLists.{class_region, class_lines}

-- what a walk keeps: the box, the pairs, the place that it has come to, and a tag for each place
pub record Walk : Type 0 where
  pub size : Box
  pub pairs : Pairs
  pub place : ℕ
  pub tags : List Bool

-- the place of the row has a tag
abbrev pub IsTagged : Box → List Bool → Row → Type 0
IsTagged box tags h = slice_index_or tags (place_of box h) false ≡ true

-- these lines were taken from a walk through the classes of the group
pub record IsWalk (members : List Operator) (walk : Walk) (taken : List ClassLine) : Type 0 where
  pub group : IsGroup members
  pub tags : IsTagWalk (class_region walk.pairs members walk.size) (class_lines walk.pairs members walk.size) walk.place walk.tags taken
