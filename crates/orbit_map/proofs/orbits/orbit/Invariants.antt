use Rattle.std.proofs.Common.{◌≡◌, ◌≤◌, length, vec_len, vec_capacity}
use Rattle.exact_ops.specs.Numbers.{point_in}
use Rattle.orbit_map.proofs.OrbitLists.{ArePlaced}
use Rattle.orbit_map.proofs.orbits.orbit.Given as goal

abbrev pub invariant-loop-i : goal.invariant-loop-i
invariant-loop-i l = record {
  len : vec_len l.points ≡ l.i;
  capacity : length l.group ≤ vec_capacity l.points;
  placed : ArePlaced l.group (point_in l.point) l.i l.points.items;
}
