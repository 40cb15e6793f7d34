use Rattle.std.proofs.Common.{◌≡◌, length}
use Rattle.group_closure.specs.declared.TheConstants.{MAX_OPERATORS}
use Rattle.group_closure.proofs.OneMatrix.{AreOppositesBefore}
use Rattle.group_closure.proofs.runs.opposite_runs.Given as goal

abbrev pub invariant-loop-i : goal.invariant-loop-i
invariant-loop-i l = record {
  size : length l.opposites ≡ MAX_OPERATORS;
  done : AreOppositesBefore l.members l.opposites l.i;
}
