use Rattle.phase_rules.proofs.CarriedMarks.{mark_moved, mark_opposite}
use Rattle.phase_rules.proofs.laws.mark_of_equivalent_reflection.Goals as goal

pub returns-clause-member : goal.returns-clause-member
returns-clause-member c = λ pairs members h f mark group m a. mark_moved pairs members group h f mark m a

pub returns-clause-opposite : goal.returns-clause-opposite
returns-clause-opposite c = mark_opposite
