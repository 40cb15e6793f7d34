use Rattle.std.proofs.Common.{◌≡◌, ◌≤◌, length, map, take, vec_capacity}
use Rattle.wyckoff_rows.specs.Steps.{row_shown}
use Rattle.wyckoff_rows.proofs.table.shown.Given as goal

abbrev pub invariant-loop-entry : goal.invariant-loop-entry
invariant-loop-entry l = record {
  rows : l.rows.items ≡ map row_shown (take l.entry-index l.kept);
  room : length l.kept ≤ vec_capacity l.rows;
}
