use Rattle.std.proofs.Common.{◌≡◌, ℕ, ◌<◌, length, get_or}
use Rattle.sg_c.proofs.members.write_each.Given as goal

abbrev pub invariant-loop-i : goal.invariant-loop-i
invariant-loop-i g l = record {
  counted : length l.told ≡ length l.group;
  each : (k : ℕ) (f : _) (t : _) → k < l.i → g.T.Told.is (get_or l.group k f) (get_or l.told k t);
}
