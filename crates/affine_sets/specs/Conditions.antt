-- Which averages are asked for their full group and their key.
use Rattle.std.specs.Prelude.{◌≡◌, ◌↔◌, ◌≤◌, ◌+◌, ◌*◌, ◌^◌, ℕ, pos, List, length}
use Rattle.lattice_algebra.specs.Operator.{Operator, AreWithin}
use Rattle.lattice_algebra.specs.Map.{Map}
use Rattle.lattice_algebra.specs.Matrix.{origin}
use Rattle.lattice_algebra.specs.Point.{Point, IsPoint, ◌≈◌}
use Rattle.exact_ops.specs.declared.TheConstants.{UNIT}
use Rattle.affine_sets.specs.declared.TheConstants.{MAX_GROWN_SHIFT}
use Rattle.space_groups.specs.Space.{IsElement, ScaledPoint, moved}
use Rattle.space_groups.specs.Averages.{Block, IsMean, IsInImage, sum_of, block_of, block_times}
use Rattle.group_closure.specs.declared.TheConstants.{MAX_OPERATORS}
use Rattle.space_groups.specs.Rows.{row_point}
use Rattle.space_groups.specs.Search.{IsSub, IsFull}
use Rattle.affine_sets.specs.Subs.{AreShiftsWithin}

-- a is the average of some finite group of elements whose whole shifts are at most MAX_GROWN_SHIFT
pub record IsAverage (members : List Operator) (a : Block) : Type 0 where
  pub group : List Map
  pub is_group : IsSub UNIT members group
  pub mean : IsMean (length members) group a
  pub shifts : AreShiftsWithin MAX_GROWN_SHIFT group

-- a is the sum of a finite group of elements
pub record IsSumOfGroup (members : List Operator) (a : Block) : Type 0 where
  pub group : List Map
  pub is_group : IsSub UNIT members group
  pub sum : sum_of group ≡ a

-- the average does not change where e follows it: so e fixes each point of its image
abbrev pub LeavesAlone : Block → Map → Type 0
LeavesAlone a e = block_times (block_of e) a ≡ a

-- how far the average of such a group is from the origin
pub record IsNearAverage (a : Block) : Type 0 where
  pub over : ℕ
  pub number : a.n ≡ pos over
  pub some : 1 ≤ over
  pub within : over ≤ MAX_OPERATORS
  pub translation : AreWithin (over * (UNIT * (MAX_GROWN_SHIFT + 1))) a.t.x a.t.y a.t.z

-- the greatest size of a numerator of a point
abbrev pub numerator_limit : ℕ
numerator_limit = 10 ^ 9 * (UNIT * 10 ^ 18)

-- a is the average over a finite group that has each element which fixes all of its image
pub record IsOfFullGroup (members : List Operator) (a : Block) : Type 0 where
  pub group : List Map
  pub is_group : IsSub UNIT members group
  pub full : IsFull UNIT members a group
  pub mean : IsMean (length members) group a

-- an element carries the image of a onto that of b
abbrev pub HaveConjugateImages : List Operator → Block → Block → Type 0
HaveConjugateImages members a b = (g : Map) × IsElement UNIT members g × ((y : ScaledPoint) → IsInImage a y ↔ IsInImage b (moved g y))

-- y is M z + t for some rational point z, where the average is x -> M x + t
pub record IsMade (members : List Operator) (a : Block) (y : Point) : Type 0 where
  pub from : Point
  pub is_point : IsPoint from
  pub equal : y ≈ row_point UNIT (length members) (record { m = a.m; t = a.t }) from origin
