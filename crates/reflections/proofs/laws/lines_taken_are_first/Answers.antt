use Rattle.reflections.proofs.Whole.{taken_first}
use Rattle.reflections.proofs.laws.lines_taken_are_first.Goals as goal

pub returns : goal.returns
returns c = taken_first
