use Rattle.triplet_text.proofs.Decided.{read_or_bad}
use Rattle.triplet_text.proofs.laws.lines_are_read_or_bad.Goals as goal

pub returns : goal.returns
returns c = read_or_bad
