use Rattle.std.proofs.Common.{◌-◌, ◌≤◌, length, vec_capacity}
use Rattle.affine_sets.specs.Growth.{given_maps, IsGrowing, AreProducts}
use Rattle.affine_sets.proofs.GrowingBlocks.{AreDone}
use Rattle.affine_sets.proofs.growth.put_all.Given as goal

abbrev pub invariant-loop-done : goal.invariant-loop-done
invariant-loop-done l = record {
  growing : IsGrowing l.g l.old l.held l.firsts.items;
  products : AreProducts l.g (given_maps l.g l.old l.e) l.held;
  room : length l.g ≤ vec_capacity l.firsts;
  done : AreDone l.g l.old (given_maps l.g l.old l.e) l.held l.firsts.items l.done;
}

abbrev pub decreases-loop-done : goal.decreases-loop-done
decreases-loop-done l = length l.g - l.done
