use Rattle.triplet_text.proofs.AffineValues.{one_map}
use Rattle.triplet_text.proofs.laws.affine_text_has_one_map.Goals as goal

pub returns : goal.returns
returns c = one_map
