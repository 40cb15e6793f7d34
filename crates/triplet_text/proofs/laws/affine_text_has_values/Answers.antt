use Rattle.triplet_text.proofs.AffineValues.{text_has_values}
use Rattle.triplet_text.proofs.laws.affine_text_has_values.Goals as goal

pub returns : goal.returns
returns c = text_has_values
