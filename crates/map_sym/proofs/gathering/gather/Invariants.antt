use Rattle.std.proofs.Common.{◌≡◌, ◌≤◌, ℕ, pos, unsigned_abs, get_or}
use Rattle.map_sym.specs.Steps.{sum_below, AreGathered}
use Rattle.map_sym.proofs.Sums.{most}
use Rattle.map_sym.proofs.gathering.gather.Given as goal

abbrev pub invariant-loop-place : goal.invariant-loop-place
invariant-loop-place l = record {
  gathered : AreGathered l.firsts l.values l.sums l.place;
  small : (k : ℕ) → unsigned_abs (get_or l.sums k (pos 0)) ≤ most l.place;
  summed : l.total ≡ sum_below (λ k. get_or l.values k (pos 0)) l.place;
  total_small : unsigned_abs l.total ≤ most l.place;
}
