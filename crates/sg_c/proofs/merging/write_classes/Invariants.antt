use Rattle.std.proofs.Common.{◌≡◌, ℕ, ◌<◌, length, get_or}
use Rattle.sg_c.specs.Merging.{IsClassAs}
use Rattle.sg_c.proofs.merging.write_classes.Given as goal

abbrev pub invariant-loop-i : goal.invariant-loop-i
invariant-loop-i l = record {
  counted : length l.classes ≡ length l.merged;
  each : (k : ℕ) (m : _) (c : _) → k < l.i → IsClassAs (get_or l.merged k m) (get_or l.classes k c);
}
