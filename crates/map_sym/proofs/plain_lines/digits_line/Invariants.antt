use Rattle.std.proofs.Common.{length}
use Rattle.map_sym.proofs.PlainSteps.{AreDigitsBefore}
use Rattle.map_sym.proofs.plain_lines.digits_line.Given as goal

abbrev pub invariant-loop-rest : goal.invariant-loop-rest
invariant-loop-rest l = record {
  digits : AreDigitsBefore l.text l.rest l.n;
}

abbrev pub decreases-loop-rest : goal.decreases-loop-rest
decreases-loop-rest l = length l.rest
