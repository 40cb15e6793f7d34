use Rattle.refl_merge.proofs.Classes.{some_key}
use Rattle.refl_merge.proofs.laws.some_class_key.Goals as goal

pub returns : goal.returns
returns c = λ pairs members h group. some_key pairs members group h
