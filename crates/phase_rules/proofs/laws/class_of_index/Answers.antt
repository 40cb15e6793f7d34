use Rattle.phase_rules.proofs.Classes.{some_class}
use Rattle.phase_rules.proofs.laws.class_of_index.Goals as goal

pub returns : goal.returns
returns c = some_class
