use Rattle.group_closure.proofs.Lists.{not_closing}
use Rattle.group_closure.proofs.laws.unclosed_never_closes.Goals as goal

pub returns : goal.returns
returns c = not_closing
