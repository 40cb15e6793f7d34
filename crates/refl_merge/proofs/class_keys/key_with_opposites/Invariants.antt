use Rattle.std.proofs.Common.{take, length, ◌≡◌, ◌≤◌, ◌-◌}
use Rattle.phase_rules.specs.declared.pairs.Pairs.TheVariants.{Friedel}
use Rattle.phase_rules.specs.Rows.{row_of}
use Rattle.refl_merge.specs.Keys.{IsClassKey}
use Rattle.refl_merge.proofs.class_keys.key_with_opposites.Given as goal

abbrev pub invariant-runs : goal.invariant-runs
invariant-runs l = record {
  within : l.i ≤ length l.group;
  three : length l.key ≡ 3;
  key : IsClassKey Friedel (take l.i l.group) l.index (row_of l.key);
}

abbrev pub decreases-runs : goal.decreases-runs
decreases-runs l = length l.group - l.i
