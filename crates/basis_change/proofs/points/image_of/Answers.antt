use Rattle.std.proofs.Common.{◌-◌, rules, w32, FitsSigned}
use mir.Syntax.{w128}
use Rattle.exact_ops.specs.declared.TheConstants.{UNIT, MAX_ENTRY}
use Rattle.exact_ops.specs.Fields.{column_in, operator_in}
use Rattle.exact_ops.specs.Numbers.{point_in}
use Rattle.exact_ops.proofs.Narrow.{AreWithin-parts}
use Rattle.exact_ops.proofs.Bounds.{numerator_bound, numerators_within, passed, three_passed}
use Rattle.exact_ops.proofs.Images.{kept_part}
use Rattle.basis_change.proofs.ChangedPoints.{image_computed}
use Rattle.basis_change.proofs.points.image_of.Goals as goal

pub coordinate-requires-clause-row : goal.coordinate-requires-clause-row
coordinate-requires-clause-row c = three_passed w32 MAX_ENTRY _ _ _ c.requires.within.x tt

pub coordinate-requires-clause-translation : goal.coordinate-requires-clause-translation
coordinate-requires-clause-translation c = passed w32 (UNIT - 1) c.args.t.now.x (AreWithin-parts (column_in c.args.t.now) c.requires.in_cell).first tt

pub coordinate-requires-clause-point : goal.coordinate-requires-clause-point
coordinate-requires-clause-point c = three_passed w128 numerator_bound _ _ _ (numerators_within (point_in c.args.point.now) c.args.point.now.in_range) tt

pub coordinate-requires-clause-part : goal.coordinate-requires-clause-part
coordinate-requires-clause-part c = kept_part (point_in c.args.point.now) c.from.result c.args.point.now.in_range c.from.ensures

pub coordinate-requires-2-clause-row : goal.coordinate-requires-2-clause-row
coordinate-requires-2-clause-row c = three_passed w32 MAX_ENTRY _ _ _ c.requires.within.y tt

pub coordinate-requires-2-clause-translation : goal.coordinate-requires-2-clause-translation
coordinate-requires-2-clause-translation c = passed w32 (UNIT - 1) c.args.t.now.y (AreWithin-parts (column_in c.args.t.now) c.requires.in_cell).second tt

pub coordinate-requires-2-clause-point : goal.coordinate-requires-2-clause-point
coordinate-requires-2-clause-point c = three_passed w128 numerator_bound _ _ _ (numerators_within (point_in c.args.point.now) c.args.point.now.in_range) tt

pub coordinate-requires-2-clause-part : goal.coordinate-requires-2-clause-part
coordinate-requires-2-clause-part c = kept_part (point_in c.args.point.now) c.from.result c.args.point.now.in_range c.from.ensures

pub coordinate-requires-3-clause-row : goal.coordinate-requires-3-clause-row
coordinate-requires-3-clause-row c = three_passed w32 MAX_ENTRY _ _ _ c.requires.within.z tt

pub coordinate-requires-3-clause-translation : goal.coordinate-requires-3-clause-translation
coordinate-requires-3-clause-translation c = passed w32 (UNIT - 1) c.args.t.now.z (AreWithin-parts (column_in c.args.t.now) c.requires.in_cell).third tt

pub coordinate-requires-3-clause-point : goal.coordinate-requires-3-clause-point
coordinate-requires-3-clause-point c = three_passed w128 numerator_bound _ _ _ (numerators_within (point_in c.args.point.now) c.args.point.now.in_range) tt

pub coordinate-requires-3-clause-part : goal.coordinate-requires-3-clause-part
coordinate-requires-3-clause-part c = kept_part (point_in c.args.point.now) c.from.result c.args.point.now.in_range c.from.ensures

pub returns : goal.returns
returns c =
    let k : (FitsSigned w128 c.coordinate.result) × (FitsSigned w128 c.coordinate-2.result) × (FitsSigned w128 c.coordinate-3.result) = search rules in
    image_computed (operator_in c.args.w.now c.args.t.now) (point_in c.args.point.now) c.from.result _ _ _ c.requires.within c.requires.in_cell c.args.point.now.in_range c.from.ensures k c.coordinate.ensures.value c.coordinate-2.ensures.value c.coordinate-3.ensures.value
