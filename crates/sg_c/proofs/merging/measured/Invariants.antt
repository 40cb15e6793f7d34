use Rattle.std.proofs.Common.{◌≡◌, ℕ, ◌<◌, length, get_or}
use Rattle.sg_c.specs.Merging.{HasIndex, HasValue}
use Rattle.sg_c.proofs.merging.measured.Given as goal

abbrev pub invariant-loop-i : goal.invariant-loop-i
invariant-loop-i l = record {
  counted : length l.list ≡ l.i;
  by_index : (k : ℕ) (q : _) (m : _) → k < l.i → HasIndex (get_or l.indices k q) (get_or l.list k m);
  by_value : (k : ℕ) (v : _) (m : _) → k < l.i → HasValue (get_or l.values k v) (get_or l.list k m);
}
