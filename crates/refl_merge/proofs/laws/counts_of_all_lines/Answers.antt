use Rattle.refl_merge.proofs.MergedLists.{counts_add_up}
use Rattle.refl_merge.proofs.laws.counts_of_all_lines.Goals as goal

pub returns : goal.returns
returns c = λ pairs members lines merged group is. counts_add_up pairs members group lines merged is
