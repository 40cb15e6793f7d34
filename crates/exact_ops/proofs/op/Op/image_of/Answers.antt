use Rattle.std.proofs.Common.{◌≡◌, ◌-◌, ◌∷◌, [], rules, w32, FitsSigned}
use mir.Syntax.{w128}
use Rattle.exact_ops.specs.declared.TheConstants.{UNIT}
use Rattle.exact_ops.specs.Fields.{operator_in}
use Rattle.exact_ops.specs.Points.{point_with}
use Rattle.exact_ops.specs.Numbers.{point_in}
use Rattle.lattice_algebra.proofs.Machine.{back}
use Rattle.exact_ops.proofs.Narrow.{AreWithin-parts}
use Rattle.exact_ops.proofs.Bounds.{numerator_bound, numerators_within, passed, three_passed}
use Rattle.exact_ops.proofs.Images.{unit_part, numerators, kept_part, image_is, image_equals, image_within}
use Rattle.exact_ops.proofs.op.Op.image_of.Goals as goal

pub image_coordinate-requires-clause-point : goal.image_coordinate-requires-clause-point
image_coordinate-requires-clause-point c = three_passed w128 numerator_bound _ _ _ (numerators_within (point_in c.args.point.now) c.args.point.now.in_range) tt

pub image_coordinate-requires-2-clause-point : goal.image_coordinate-requires-2-clause-point
image_coordinate-requires-2-clause-point c = three_passed w128 numerator_bound _ _ _ (numerators_within (point_in c.args.point.now) c.args.point.now.in_range) tt

pub image_coordinate-requires-3-clause-point : goal.image_coordinate-requires-3-clause-point
image_coordinate-requires-3-clause-point c = three_passed w128 numerator_bound _ _ _ (numerators_within (point_in c.args.point.now) c.args.point.now.in_range) tt

pub image_coordinate-requires-2-clause-part : goal.image_coordinate-requires-2-clause-part
image_coordinate-requires-2-clause-part c = kept_part (point_in c.args.point.now) c.from.result c.args.point.now.in_range c.from.ensures

pub image_coordinate-requires-3-clause-part : goal.image_coordinate-requires-3-clause-part
image_coordinate-requires-3-clause-part c = kept_part (point_in c.args.point.now) c.from.result c.args.point.now.in_range c.from.ensures

pub image_coordinate-requires-2-clause-translation : goal.image_coordinate-requires-2-clause-translation
image_coordinate-requires-2-clause-translation c = passed w32 (UNIT - 1) c.self.inside.t.y (AreWithin-parts _ c.self.invariant.is_operator.in_cell).second tt

pub image_coordinate-requires-3-clause-translation : goal.image_coordinate-requires-3-clause-translation
image_coordinate-requires-3-clause-translation c = passed w32 (UNIT - 1) c.self.inside.t.z (AreWithin-parts _ c.self.invariant.is_operator.in_cell).third tt

numerators_computed : (c : goal.After-image_coordinate-3) → let p = point_in c.args.point.now in
    point_with (back w128 c.image_coordinate.result ∷ back w128 c.image_coordinate-2.result ∷ back w128 c.image_coordinate-3.result ∷ []) p.d ≡ record { n = numerators (operator_in c.self.inside.w c.self.inside.t) p.n (unit_part p.d c.from.result); d = p.d }
numerators_computed c =
    let k : (FitsSigned w128 c.image_coordinate.result) × (FitsSigned w128 c.image_coordinate-2.result) × (FitsSigned w128 c.image_coordinate-3.result) = search rules in
    image_is (operator_in c.self.inside.w c.self.inside.t) (point_in c.args.point.now) c.from.result _ _ _ c.self.invariant c.args.point.now.in_range c.from.ensures k c.image_coordinate.ensures c.image_coordinate-2.ensures c.image_coordinate-3.ensures

pub returns-clause-value : goal.returns-clause-value
returns-clause-value c =
    image_equals (operator_in c.self.inside.w c.self.inside.t) c.args.self.now (point_in c.args.point.now) c.from.result _ c.self.view_is c.args.point.now.in_range c.from.ensures (numerators_computed c)

pub returns-clause-within : goal.returns-clause-within
returns-clause-within c =
    image_within (operator_in c.self.inside.w c.self.inside.t) (point_in c.args.point.now) c.from.result _ c.self.invariant c.args.point.now.in_range c.from.ensures (numerators_computed c)
