use Rattle.std.proofs.Common.{◌≡◌, ℕ, ◌<◌, pos, length, get_or}
use Rattle.grid_tags.specs.Grids.{points}
use Rattle.sg_c.proofs.maps.write_sums.Given as goal

abbrev pub invariant-loop-place : goal.invariant-loop-place
invariant-loop-place l = record {
  counted : length l.sums ≡ points l.size;
  each : (k : ℕ) → k < l.place → get_or l.sums k (pos 0) ≡ get_or l.map.sums.values k (pos 0);
}
