use Rattle.grid_tags.proofs.Whole.{taken_first}
use Rattle.grid_tags.proofs.laws.lines_taken_are_first.Goals as goal

pub returns : goal.returns
returns c = taken_first
