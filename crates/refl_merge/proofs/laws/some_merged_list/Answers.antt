use Rattle.refl_merge.proofs.MergedLists.{some_list}
use Rattle.refl_merge.proofs.laws.some_merged_list.Goals as goal

pub returns : goal.returns
returns c = λ pairs members lines group. some_list pairs members group lines
