use Rattle.std.proofs.Common.{◌≡◌, ◌≤◌, ℕ, pos, get_or}
use Rattle.map_sym.specs.Steps.{AreSpread}
use Rattle.map_sym.proofs.gathering.spread.Given as goal

abbrev pub invariant-loop-place : goal.invariant-loop-place
invariant-loop-place l = record {
  spread : AreSpread l.firsts l.fn.sums l.sums l.place;
  kept : (k : ℕ) → l.place ≤ k → get_or l.sums k (pos 0) ≡ get_or l.fn.sums k (pos 0);
}
