use Rattle.exact_ops.specs.Fields.{matrix_in}
use Rattle.affine_sets.specs.Conjugates.{IsCandidate}
use Rattle.affine_sets.proofs.KeyRuns.{AreBehind}
use Rattle.affine_sets.proofs.keys.key.Given as goal

abbrev pub invariant-loop-i : goal.invariant-loop-i
invariant-loop-i l = record {
  candidate : IsCandidate l.g l.left (matrix_in l.greatest.m) l.best;
  behind : AreBehind l.g l.left l.best l.starts l.i;
}
