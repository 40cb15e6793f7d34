use Rattle.phase_rules.proofs.Phases.{one_mark}
use Rattle.phase_rules.proofs.laws.one_mark.Goals as goal

pub returns : goal.returns
returns c = one_mark
