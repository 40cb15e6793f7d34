use Rattle.triplet_text.proofs.Divisions.{some_division}
use Rattle.triplet_text.proofs.laws.lines_are_divided.Goals as goal

pub returns : goal.returns
returns c = some_division
