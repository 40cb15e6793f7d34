use Rattle.refl_merge.proofs.MergedLists.{one_class}
use Rattle.refl_merge.proofs.laws.one_class_of_each_line.Goals as goal

pub returns : goal.returns
returns c = λ pairs members lines merged m group is. one_class pairs members group lines merged is m
