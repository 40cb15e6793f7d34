use Rattle.std.proofs.Common.{◌≡◌, length}
use Rattle.tag_walks.proofs.FirstPlaces.{AreUpTo}
use Rattle.grid_tags.specs.Grids.{points}
use Rattle.grid_tags.specs.GridLists.{grid_region}
use Rattle.grid_tags.proofs.firsts.first_points.Given as goal

abbrev pub invariant-loop-place : goal.invariant-loop-place
invariant-loop-place l = record {
  len : length l.firsts.items ≡ points l.size;
  up_to : AreUpTo (grid_region l.group l.size) l.place l.firsts.items;
}
