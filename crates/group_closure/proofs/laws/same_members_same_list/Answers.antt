use Rattle.group_closure.proofs.Lists.{same_list}
use Rattle.group_closure.proofs.laws.same_members_same_list.Goals as goal

pub returns : goal.returns
returns c = same_list
