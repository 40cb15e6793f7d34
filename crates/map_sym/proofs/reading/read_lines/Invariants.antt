use Rattle.std.proofs.Common.{◌≤◌, ◌+◌, length}
use Rattle.triplet_text.specs.Lines.{lines_of}
use Rattle.triplet_text.proofs.LineSteps.{lines_left, left}
use Rattle.triplet_text.proofs.SaidLines.{AreSaidBefore}
use Rattle.data_lines.specs.DataLines.{IsDataLine}
use Rattle.map_sym.specs.ValueLines.{IsValueLine}
use Rattle.map_sym.proofs.reading.read_lines.Given as goal

abbrev pub invariant-loop-rest : goal.invariant-loop-rest
invariant-loop-rest l = record {
  read : AreSaidBefore (IsDataLine IsValueLine) l.fn.first (lines_of l.bytes) (lines_left l.rest) l.number l.values.items;
  count : l.number + left l.rest ≤ length l.bytes + l.fn.first + 1;
}

abbrev pub decreases-loop-rest : goal.decreases-loop-rest
decreases-loop-rest l = left l.rest
