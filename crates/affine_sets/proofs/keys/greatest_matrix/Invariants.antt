use Rattle.std.proofs.Common.{◌<◌, ◌≤◌, ◌*◌, ◌-◌, length}
use Rattle.lattice_algebra.specs.Operator.{HasEntriesWithin}
use Rattle.exact_ops.specs.Fields.{matrix_in}
use Rattle.affine_sets.proofs.KeyRuns.{IsGreatest}
use Rattle.affine_sets.proofs.keys.greatest_matrix.Given as goal

abbrev pub invariant-loop-at : goal.invariant-loop-at
invariant-loop-at l = record {
  some : 0 < l.at;
  within : l.at ≤ length l.g;
  size : HasEntriesWithin (2 * l.s.over) (matrix_in l.best.m);
  greatest : IsGreatest l.g l.s.key.m (matrix_in l.best.m) l.starts l.best.count l.at;
}

abbrev pub decreases-loop-at : goal.decreases-loop-at
decreases-loop-at l = length l.g - l.at
