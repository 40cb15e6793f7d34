use Rattle.std.proofs.Common.{◌≤◌, map, length, vec_len, vec_capacity}
use Rattle.exact_ops.specs.Elements.{map_in}
use Rattle.affine_sets.specs.Growth.{HoldsMap}
use Rattle.affine_sets.proofs.Picked.{ArePicked}
use Rattle.affine_sets.proofs.growth.list_held.Given as goal

abbrev pub invariant-loop-i : goal.invariant-loop-i
invariant-loop-i l = record {
  listed : ArePicked l.g (HoldsMap l.g l.held) l.i (map map_in l.moves.items);
  within : vec_len l.moves ≤ l.i;
  room : length l.g ≤ vec_capacity l.moves;
}
