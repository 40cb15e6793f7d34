use Rattle.std.proofs.Common.{sym, ◌∙◌, refl}
use Rattle.exact_ops.specs.Numbers.{point_in}
use Rattle.exact_ops.proofs.ShiftedImages.{applied, IsPointInRange-over}
use Rattle.exact_ops.proofs.moves.Move.apply.Goals as goal

pub returns-then-not-are_coordinates-clause-some : goal.returns-then-not-are_coordinates-clause-some
returns-then-not-are_coordinates-clause-some c =
    let q = applied c.args.self.now.op c.image_of-n.result c.args.self.now.shift (point_in c.args.point.now) c.args.point.now.in_range c.image_of-n.ensures in
    (λ e. cc, λ h. sym c.if-not-are_coordinates.true ∙ c.are_coordinates.ensures.1 (q.range.1 h))

pub invariant_of-result : goal.invariant_of-result
invariant_of-result c =
    let q = applied c.args.self.now.op c.image_of-n.result c.args.self.now.shift (point_in c.args.point.now) c.args.point.now.in_range c.image_of-n.ensures in
    record { in_range = IsPointInRange-over (point_in c.args.point.now) _ c.args.point.now.in_range q.denominator (c.are_coordinates.ensures.0 c.if-not-are_coordinates.false) }

pub returns-clause-some : goal.returns-clause-some
returns-clause-some c =
    let q = applied c.args.self.now.op c.image_of-n.result c.args.self.now.shift (point_in c.args.point.now) c.args.point.now.in_range c.image_of-n.ensures in
    (λ _. q.range.0 (c.are_coordinates.ensures.0 c.if-not-are_coordinates.false), λ _. refl)

pub returns-clause-value : goal.returns-clause-value
returns-clause-value c = (applied c.args.self.now.op c.image_of-n.result c.args.self.now.shift (point_in c.args.point.now) c.args.point.now.in_range c.image_of-n.ensures).equal
