use Rattle.std.proofs.Common.{◌≤◌, ◌-◌, length, take, vec_len, vec_capacity}
use Rattle.refl_merge.specs.Steps.{AreGathered, AreBehind}
use Rattle.refl_merge.proofs.merging.gather.Given as goal

abbrev pub invariant-loop-start : goal.invariant-loop-start
invariant-loop-start l = record {
  within : l.start ≤ length l.entries;
  len : vec_len l.lines ≤ l.start;
  capacity : length l.entries ≤ vec_capacity l.lines;
  behind : AreBehind l.entries l.start;
  gathered : AreGathered l.group (take l.start l.entries) l.lines.items;
}

abbrev pub decreases-loop-start : goal.decreases-loop-start
decreases-loop-start l = length l.entries - l.start
