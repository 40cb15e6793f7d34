use Rattle.reflections.proofs.ClassLists.{one_class_list}
use Rattle.reflections.proofs.laws.one_class_list.Goals as goal

pub returns : goal.returns
returns c = λ pairs members box a b g p q. one_class_list pairs members g box a b p q
