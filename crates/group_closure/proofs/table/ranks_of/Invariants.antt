use Rattle.std.proofs.Common.{◌≡◌, ℕ, ◌<◌, Some, length, get_or, slice_get}
use Rattle.lattice_algebra.specs.Operator.{Operator}
use Rattle.group_closure.specs.declared.TheConstants.{MAX_OPERATORS}
use Rattle.group_closure.proofs.table.ranks_of.Given as goal

abbrev pub invariant-loop-c : goal.invariant-loop-c
invariant-loop-c l = record {
  size : length l.ranks ≡ MAX_OPERATORS;
  ranks : (k : ℕ) (f : Operator) → k < l.c → slice_get l.made k ≡ Some f → slice_get l.members (get_or l.ranks k 0) ≡ Some f;
}
