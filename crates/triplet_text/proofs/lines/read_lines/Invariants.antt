use Rattle.std.proofs.Common.{◌≤◌, ◌+◌, length}
use Rattle.triplet_text.specs.Lines.{lines_of}
use Rattle.triplet_text.proofs.LineSteps.{lines_left, left, AreReadBefore}
use Rattle.triplet_text.proofs.lines.read_lines.Given as goal

abbrev pub invariant-loop-rest : goal.invariant-loop-rest
invariant-loop-rest l = record {
  read : AreReadBefore (lines_of l.bytes) (lines_left l.rest) l.number l.list;
  count : l.number + left l.rest ≤ length l.bytes + 2;
}

abbrev pub decreases-loop-rest : goal.decreases-loop-rest
decreases-loop-rest l = left l.rest
