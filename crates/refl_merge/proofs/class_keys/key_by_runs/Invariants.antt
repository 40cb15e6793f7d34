use Rattle.std.proofs.Common.{take, length, ◌≡◌, ◌≤◌, ◌-◌}
use Rattle.phase_rules.specs.Rows.{row_of}
use Rattle.refl_merge.specs.Keys.{IsClassKey}
use Rattle.refl_merge.proofs.class_keys.key_by_runs.Given as goal

abbrev pub invariant-loop-i : goal.invariant-loop-i
invariant-loop-i l = record {
  within : l.i ≤ length l.group;
  three : length l.key ≡ 3;
  key : IsClassKey l.pairs (take l.i l.group) l.index (row_of l.key);
}

abbrev pub decreases-loop-i : goal.decreases-loop-i
decreases-loop-i l = length l.group - l.i
