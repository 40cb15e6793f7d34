use Rattle.std.proofs.Common.{subst, sym, pos, ◌<ℤ◌}
use Rattle.exact_ops.specs.Numbers.{point_in}
use Rattle.exact_ops.proofs.Bounds.{kept_denominator}
use Rattle.orbit_map.proofs.Images.{placed}
use Rattle.orbit_map.proofs.orbits.image_in_cell.Goals as goal

pub remainder-requires : goal.remainder-requires
remainder-requires c = subst (λ d. pos 0 <ℤ d) (sym (kept_denominator (point_in c.args.point.now) c.args.point.now.in_range)) c.args.point.now.in_range.positive

pub returns-clause-placed : goal.returns-clause-placed
returns-clause-placed c = placed c.args.op.now (point_in c.args.point.now) c.image_of.result _ _ _ c.requires c.args.point.now.in_range c.image_of.ensures.value c.image_of.ensures.within c.remainder.ensures.value c.remainder-2.ensures.value c.remainder-3.ensures.value
