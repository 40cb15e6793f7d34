use Rattle.std.proofs.Common.{◌≤◌, map, length, vec_len, vec_capacity}
use Rattle.exact_ops.specs.Numbers.{point_in}
use Rattle.exact_ops.specs.Elements.{map_in}
use Rattle.site_symmetry.proofs.FixingLists.{AreFixing}
use Rattle.site_symmetry.proofs.sites.site.Given as goal

abbrev pub invariant-loop-i : goal.invariant-loop-i
invariant-loop-i l = record {
  listed : AreFixing l.group (point_in l.point) l.i (map map_in l.moves.items);
  within : vec_len l.moves ≤ l.i;
  room : length l.group ≤ vec_capacity l.moves;
}
