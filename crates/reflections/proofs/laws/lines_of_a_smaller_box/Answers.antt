use Rattle.reflections.proofs.SmallerBoxes.{line_of_smaller}
use Rattle.reflections.proofs.laws.lines_of_a_smaller_box.Goals as goal

pub returns : goal.returns
returns c = line_of_smaller
