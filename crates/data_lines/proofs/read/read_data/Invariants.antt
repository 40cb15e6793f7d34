use Rattle.std.proofs.Common.{◌≤◌, ◌+◌, length}
use Rattle.triplet_text.specs.Lines.{lines_of}
use Rattle.triplet_text.proofs.LineSteps.{lines_left, left}
use Rattle.triplet_text.proofs.SaidLines.{AreSaidBefore}
use Rattle.data_lines.specs.DataLines.{IsDataLine}
use Rattle.data_lines.proofs.read.read_data.Given as goal

abbrev pub invariant-loop-rest : goal.invariant-loop-rest
invariant-loop-rest g l = record {
  read : AreSaidBefore (IsDataLine g.D.Datum.is) l.fn.first (lines_of l.bytes) (lines_left l.rest) l.number l.values.items;
  count : l.number + left l.rest ≤ length l.bytes + l.fn.first + 1;
}

abbrev pub decreases-loop-rest : goal.decreases-loop-rest
decreases-loop-rest g l = left l.rest
