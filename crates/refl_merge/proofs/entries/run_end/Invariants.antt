use Rattle.std.proofs.Common.{◌≡◌, ◌<◌, ◌≤◌, ◌-◌, ℕ, Some, length, slice_get}
use Rattle.refl_merge.specs.declared.entries.Keyed.{Keyed}
use Rattle.refl_merge.proofs.entries.run_end.Given as goal

abbrev pub invariant-loop-end : goal.invariant-loop-end
invariant-loop-end l = record {
  within : l.end ≤ length l.entries;
  beyond : l.start < l.end;
  same : (k : ℕ) (e f : Keyed) → l.start ≤ k → k < l.end → slice_get l.entries l.start ≡ Some e → slice_get l.entries k ≡ Some f → f.key ≡ e.key;
}

abbrev pub decreases-loop-end : goal.decreases-loop-end
decreases-loop-end l = length l.entries - l.end
