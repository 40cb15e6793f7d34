use Rattle.std.proofs.Common.{◌≤◌, ◌+◌, length}
use Rattle.triplet_text.proofs.LineSteps.{left}
use Rattle.triplet_text.proofs.Dividers.{IsUnderWay}
use Rattle.triplet_text.proofs.divider.split.Given as goal

abbrev pub invariant-loop-rest : goal.invariant-loop-rest
invariant-loop-rest l = record {
  way : IsUnderWay l.bytes l.rest l.head l.line;
  count : l.line + left l.rest ≤ length l.bytes + 2;
}

abbrev pub decreases-loop-rest : goal.decreases-loop-rest
decreases-loop-rest l = left l.rest
