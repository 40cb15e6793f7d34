use Rattle.refl_merge.proofs.Classes.{one_key}
use Rattle.refl_merge.proofs.laws.one_class_key.Goals as goal

pub returns : goal.returns
returns c = λ pairs members h g a b group. one_key pairs members group h g a b
