use Rattle.std.proofs.Common.{◌≡◌, ◌≤◌, ◌+◌, ◌-◌, length}
use Rattle.triplet_text.specs.Components.{IsSumOf}
use Rattle.triplet_text.specs.Sums.{behind_signs, total, sum_of, StartsWithSign}
use Rattle.triplet_text.proofs.sum.read_sum.Given as goal

-- at most one term for each byte that was read, and one
abbrev pub invariant-loop-rest : goal.invariant-loop-rest
invariant-loop-rest l = record {
  value : total l.total (behind_signs l.rest) ≡ sum_of l.text;
  sign : StartsWithSign l.rest;
  few : length l.rest ≤ length l.text;
  small : IsSumOf (length l.text - length l.rest + 1) l.total;
}

abbrev pub decreases-loop-rest : goal.decreases-loop-rest
decreases-loop-rest l = length l.rest
