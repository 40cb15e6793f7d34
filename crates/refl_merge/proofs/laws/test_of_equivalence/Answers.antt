use Rattle.refl_merge.proofs.Classes.{are_equivalent-is}
use Rattle.refl_merge.proofs.laws.test_of_equivalence.Goals as goal

pub returns : goal.returns
returns c = are_equivalent-is
