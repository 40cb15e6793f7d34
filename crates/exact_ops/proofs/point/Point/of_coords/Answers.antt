use Rattle.std.proofs.Common.{rules, FitsSigned, refl, sym, subst, ◌∙◌}
use mir.Syntax.{w128}
use Rattle.exact_ops.specs.Points.{IsPointInRange, AreCoordinatesInRange, coordinate_at, HasCoordinates}
use Rattle.exact_ops.proofs.Points.{Fits64, AreFit, tested, computed_point, point_in_range, HasCoordinates-point}
use Rattle.exact_ops.proofs.point.Point.of_coords.Goals as goal

pub returns-then-not-is_in_range-3-clause-some : goal.returns-then-not-is_in_range-3-clause-some
returns-then-not-is_in_range-3-clause-some c =
    let q = coordinate_at c.args.c 2 in
    let f : Fits64 q = search rules in
    let t = tested q c.is_in_range-3.result f.0 f.1 c.is_in_range-3.ensures in
    (λ e. cc, λ r. sym c.if-not-is_in_range-3.true ∙ t.1 r.z)

pub invariant_of-result : goal.invariant_of-result
invariant_of-result c =
    let f : AreFit c.args.c = search rules in
    let k : (FitsSigned w128 c.units.result) × (FitsSigned w128 c.units-2.result) × (FitsSigned w128 c.units-3.result) × (FitsSigned w128 c.units-4.result) = search rules in
    let a : AreCoordinatesInRange c.args.c = record {
      x = (tested _ c.is_in_range.result f.0.0 f.0.1 c.is_in_range.ensures).0 c.if-not-is_in_range.false;
      y = (tested _ c.is_in_range-2.result f.1.0 f.1.1 c.is_in_range-2.ensures).0 c.if-not-is_in_range-2.false;
      z = (tested _ c.is_in_range-3.result f.2.0 f.2.1 c.is_in_range-3.ensures).0 c.if-not-is_in_range-3.false;
    } in
    record { in_range = subst IsPointInRange (sym (computed_point c.args.c _ _ _ _ f k c.units.ensures c.units-2.ensures c.units-3.ensures c.units-4.ensures)) (point_in_range c.args.c a) }

pub returns-clause-some : goal.returns-clause-some
returns-clause-some c =
    let f : AreFit c.args.c = search rules in
    let a : AreCoordinatesInRange c.args.c = record {
      x = (tested _ c.is_in_range.result f.0.0 f.0.1 c.is_in_range.ensures).0 c.if-not-is_in_range.false;
      y = (tested _ c.is_in_range-2.result f.1.0 f.1.1 c.is_in_range-2.ensures).0 c.if-not-is_in_range-2.false;
      z = (tested _ c.is_in_range-3.result f.2.0 f.2.1 c.is_in_range-3.ensures).0 c.if-not-is_in_range-3.false;
    } in
    (λ _. a, λ _. refl)

pub returns-clause-value : goal.returns-clause-value
returns-clause-value c =
    let f : AreFit c.args.c = search rules in
    let k : (FitsSigned w128 c.units.result) × (FitsSigned w128 c.units-2.result) × (FitsSigned w128 c.units-3.result) × (FitsSigned w128 c.units-4.result) = search rules in
    subst (HasCoordinates c.args.c) (sym (computed_point c.args.c _ _ _ _ f k c.units.ensures c.units-2.ensures c.units-3.ensures c.units-4.ensures)) (HasCoordinates-point c.args.c)
