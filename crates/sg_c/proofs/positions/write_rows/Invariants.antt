use Rattle.std.proofs.Common.{◌≡◌, ℕ, ◌<◌, length, get_or}
use Rattle.sg_c.specs.Positions.{IsRowAs}
use Rattle.sg_c.proofs.positions.write_rows.Given as goal

abbrev pub invariant-loop-i : goal.invariant-loop-i
invariant-loop-i l = record {
  counted : length l.positions ≡ length l.rows;
  each : (k : ℕ) (r : _) (p : _) → k < l.i → IsRowAs (get_or l.rows k r) (get_or l.positions k p);
}
