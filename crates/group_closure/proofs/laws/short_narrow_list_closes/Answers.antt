use Rattle.group_closure.proofs.Lists.{closes_by}
use Rattle.group_closure.proofs.laws.short_narrow_list_closes.Goals as goal

pub returns : goal.returns
returns c = λ list members p l n. closes_by list members p.span l n
