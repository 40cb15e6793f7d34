use Rattle.triplet_text.proofs.GrammarLaw.{one_operator}
use Rattle.triplet_text.proofs.laws.triplet_is_unique.Goals as goal

pub returns : goal.returns
returns c = one_operator
