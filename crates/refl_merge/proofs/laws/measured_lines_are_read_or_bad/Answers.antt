use Rattle.data_lines.proofs.DataLaws.{written_or_bad}
use Rattle.refl_merge.specs.MeasuredLines.{IsMeasuredLine}
use Rattle.refl_merge.proofs.LineTexts.{measured_or_not}
use Rattle.refl_merge.proofs.laws.measured_lines_are_read_or_bad.Goals as goal

pub returns : goal.returns
returns c = written_or_bad IsMeasuredLine measured_or_not
