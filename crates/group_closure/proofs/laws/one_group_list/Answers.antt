use Rattle.group_closure.proofs.Lists.{one_list}
use Rattle.group_closure.proofs.laws.one_group_list.Goals as goal

pub returns : goal.returns
returns c = one_list
