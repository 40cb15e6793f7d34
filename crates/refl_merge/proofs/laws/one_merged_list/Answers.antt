use Rattle.refl_merge.proofs.MergedLists.{one_list}
use Rattle.refl_merge.proofs.laws.one_merged_list.Goals as goal

pub returns : goal.returns
returns c = λ pairs members lines a b group. one_list pairs members group lines a b
