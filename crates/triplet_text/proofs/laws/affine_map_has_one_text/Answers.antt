use Rattle.triplet_text.proofs.AffineSame.{one_text_of_map}
use Rattle.triplet_text.proofs.laws.affine_map_has_one_text.Goals as goal

pub returns : goal.returns
returns c = one_text_of_map
