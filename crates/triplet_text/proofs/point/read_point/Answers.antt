use Rattle.triplet_text.proofs.PointTexts.{in_range, not_none}
use Rattle.triplet_text.proofs.point.read_point.Goals as goal

pub returns-clause-none : goal.returns-clause-none
returns-clause-none c = not_none c.of_coords.result _ (c.of_coords.ensures.some.1 (in_range c.args.x.now c.args.y.now c.args.z.now c.in_ok-x.x c.in_ok-y.y c.in_ok-z.z
    c.in_ok-x.ensures.value c.in_ok-y.ensures.value c.in_ok-z.ensures.value))
