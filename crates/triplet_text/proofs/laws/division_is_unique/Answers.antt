use Rattle.triplet_text.proofs.Divisions.{one_division}
use Rattle.triplet_text.proofs.laws.division_is_unique.Goals as goal

pub returns : goal.returns
returns c = one_division
