use Rattle.std.proofs.Common.{◌≡◌, ◌≤◌, ◌*◌, ◌^◌, take, unsigned_abs}
use Rattle.refl_merge.specs.Merged.{sum_of_values}
use Rattle.refl_merge.specs.Steps.{measured_lines}
use Rattle.refl_merge.proofs.merging.sum_of.Given as goal

abbrev pub invariant-loop-entry : goal.invariant-loop-entry
invariant-loop-entry l = record {
  sum : l.sum ≡ sum_of_values (measured_lines (take l.entry-index l.run));
  size : unsigned_abs l.sum ≤ 2 ^ 31 * l.entry-index;
}
