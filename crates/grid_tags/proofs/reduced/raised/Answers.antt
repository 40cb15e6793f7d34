use Rattle.grid_tags.proofs.BySteps.{step_up, no_step}
use Rattle.grid_tags.proofs.reduced.raised.Goals as goal

pub returns-then-value-lt0 : goal.returns-then-value-lt0
returns-then-value-lt0 c = step_up c.args.value c.args.n c.requires.size c.requires.side.0 c.requires.side.1

pub returns-else-value-lt0 : goal.returns-else-value-lt0
returns-else-value-lt0 c = no_step c.args.value c.args.n c.requires.size
