use Rattle.triplet_text.proofs.CoordinateLaw.{one_coordinate}
use Rattle.triplet_text.proofs.laws.coordinate_is_unique.Goals as goal

pub returns : goal.returns
returns c = one_coordinate
