use Rattle.triplet_text.proofs.AffineValues.{fraction_value}
use Rattle.triplet_text.proofs.laws.fraction_text_has_value.Goals as goal

pub returns : goal.returns
returns c = fraction_value
