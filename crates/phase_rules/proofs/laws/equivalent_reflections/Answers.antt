use Rattle.phase_rules.proofs.Alike.{class_of_equivalent, same_fixers, absent_together}
use Rattle.phase_rules.proofs.laws.equivalent_reflections.Goals as goal

pub returns-clause-class : goal.returns-clause-class
returns-clause-class c = class_of_equivalent

pub returns-clause-fixers : goal.returns-clause-fixers
returns-clause-fixers c = same_fixers

pub returns-clause-absent : goal.returns-clause-absent
returns-clause-absent c = absent_together
