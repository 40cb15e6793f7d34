use Rattle.phase_rules.proofs.Alike.{origin_present, origin_marked}
use Rattle.phase_rules.proofs.laws.mark_of_origin.Goals as goal

pub returns-clause-present : goal.returns-clause-present
returns-clause-present c = origin_present

pub returns-clause-phase : goal.returns-clause-phase
returns-clause-phase c = origin_marked
