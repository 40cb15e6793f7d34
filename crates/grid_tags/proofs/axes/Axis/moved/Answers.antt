use Rattle.grid_tags.proofs.AxisSteps.{moved_fits, moved_on, moved_round}
use Rattle.grid_tags.proofs.axes.Axis.moved.Goals as goal

pub overflow_add-sum : goal.overflow_add-sum
overflow_add-sum c = let on = c.requires.on in moved_fits on.0 on.1 c.args.self.now on.2 c.args.part c.args.t c.ranges.t c.requires.part on.3

pub returns-then-sum-lt0 : goal.returns-then-sum-lt0
returns-then-sum-lt0 c = λ n d i on. moved_on n d c.args.self.now i c.args.part c.args.t c.ranges.t c.requires.part on c.if-sum-lt0.true

pub returns-else-sum-lt0 : goal.returns-else-sum-lt0
returns-else-sum-lt0 c = λ n d i on. moved_round n d c.args.self.now i c.args.part c.args.t c.ranges.t c.requires.part on c.if-sum-lt0.false
