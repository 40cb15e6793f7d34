use Rattle.std.proofs.Common.{◌≡◌, ◌≤◌, length, take, vec_len, vec_capacity}
use Rattle.std.specs.List.{All}
use Rattle.refl_merge.specs.Steps.{IsKeyed, measured_lines}
use Rattle.refl_merge.proofs.entries.keyed_lines.Given as goal

abbrev pub invariant-loop-k : goal.invariant-loop-k
invariant-loop-k l = record {
  len : vec_len l.entries ≡ l.k;
  capacity : length l.list ≤ vec_capacity l.entries;
  each : All (IsKeyed l.pairs l.group) l.entries.items;
  lines : measured_lines l.entries.items ≡ take l.k l.list;
}
