use Rattle.triplet_text.proofs.LowestTerms.{one_text}
use Rattle.triplet_text.proofs.laws.equal_fractions_have_one_text.Goals as goal

pub returns : goal.returns
returns c = one_text
