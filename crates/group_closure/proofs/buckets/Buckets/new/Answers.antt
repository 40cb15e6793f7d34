use Rattle.group_closure.proofs.Filed.{filed_none}
use Rattle.group_closure.proofs.buckets.Buckets.new.Goals as goal

pub returns : goal.returns
returns c = filed_none
