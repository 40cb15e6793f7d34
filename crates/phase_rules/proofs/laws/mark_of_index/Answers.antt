use Rattle.phase_rules.proofs.SomeMark.{some_mark}
use Rattle.phase_rules.proofs.laws.mark_of_index.Goals as goal

pub returns : goal.returns
returns c = λ pairs members h. some_mark members h pairs
