use Rattle.phase_rules.proofs.Alike.{apart_times, friedel_times}
use Rattle.phase_rules.proofs.laws.class_size_by_members.Goals as goal

pub returns-clause-apart : goal.returns-clause-apart
returns-clause-apart c = apart_times

pub returns-clause-friedel : goal.returns-clause-friedel
returns-clause-friedel c = friedel_times
