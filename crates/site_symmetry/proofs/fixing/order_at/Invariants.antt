use Rattle.std.proofs.Common.{◌≤◌}
use Rattle.exact_ops.specs.Numbers.{point_in}
use Rattle.site_symmetry.proofs.FixingLists.{AreSoMany}
use Rattle.site_symmetry.proofs.fixing.order_at.Given as goal

abbrev pub invariant-loop-i : goal.invariant-loop-i
invariant-loop-i l = record {
  counted : AreSoMany l.group (point_in l.point) l.i l.order;
  within : l.order ≤ l.i;
}
