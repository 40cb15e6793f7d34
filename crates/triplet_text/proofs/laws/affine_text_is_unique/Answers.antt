use Rattle.triplet_text.proofs.AffineUnique.{one_map_of_text}
use Rattle.triplet_text.proofs.laws.affine_text_is_unique.Goals as goal

pub returns : goal.returns
returns c = one_map_of_text
