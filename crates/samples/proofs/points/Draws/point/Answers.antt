use Rattle.std.proofs.Common.{ap, ◌∙◌}
use Rattle.exact_ops.specs.Numbers.{point_in}
use Rattle.samples.specs.Points.{next}
use Rattle.samples.proofs.MadePoints.{made_from}
use Rattle.samples.proofs.points.Draws.point.Goals as goal

pub returns-clause-value : goal.returns-clause-value
returns-clause-value c =
    made_from (point_in c.twelfths.result) c.args.self.now.state c.draw-x.new.self.state c.draw-y.new.self.state c.draw-z.new.self.state c.draw-x.result c.draw-y.result c.draw-z.result
    c.draw-x.ensures.state c.draw-y.ensures.state c.draw-z.ensures.state c.draw-x.ensures.value c.draw-y.ensures.value c.draw-z.ensures.value c.twelfths.ensures

pub returns-clause-state : goal.returns-clause-state
returns-clause-state c = c.draw-z.ensures.state ∙ ap next (c.draw-y.ensures.state ∙ ap next c.draw-x.ensures.state)
