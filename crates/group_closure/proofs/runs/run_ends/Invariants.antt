use Rattle.std.proofs.Common.{◌≡◌, length}
use Rattle.group_closure.specs.declared.TheConstants.{MAX_OPERATORS}
use Rattle.group_closure.proofs.OneMatrix.{AreEndsFrom}
use Rattle.group_closure.proofs.runs.run_ends.Given as goal

abbrev pub invariant-loop-i : goal.invariant-loop-i
invariant-loop-i l = record {
  size : length l.ends ≡ MAX_OPERATORS;
  from : AreEndsFrom l.members l.ends l.i l.end;
}

abbrev pub decreases-loop-i : goal.decreases-loop-i
decreases-loop-i l = l.i
