use Rattle.exact_ops.specs.Fields.{matrix_in}
use Rattle.affine_sets.proofs.KeySteps.{IsFirstOfRun}
use Rattle.affine_sets.proofs.keys.first_of_run.Given as goal

abbrev pub invariant-loop-i : goal.invariant-loop-i
invariant-loop-i l = IsFirstOfRun l.g l.s (matrix_in l.m) l.best l.first l.start l.i
