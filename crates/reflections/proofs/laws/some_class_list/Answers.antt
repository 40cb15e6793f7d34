use Rattle.reflections.proofs.Whole.{some_class_list}
use Rattle.reflections.proofs.laws.some_class_list.Goals as goal

pub returns : goal.returns
returns c = λ pairs members box g. some_class_list pairs members g box
