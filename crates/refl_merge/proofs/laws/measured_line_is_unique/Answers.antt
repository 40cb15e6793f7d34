use Rattle.refl_merge.proofs.LineTexts.{one_measured}
use Rattle.refl_merge.proofs.laws.measured_line_is_unique.Goals as goal

pub returns : goal.returns
returns c = one_measured
