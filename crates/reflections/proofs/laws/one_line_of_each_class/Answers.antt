use Rattle.reflections.proofs.Whole.{one_line_each}
use Rattle.reflections.proofs.laws.one_line_of_each_class.Goals as goal

pub returns : goal.returns
returns c = λ pairs members box lines h g l i. one_line_each pairs members g box lines h l i
