use Rattle.std.proofs.Common.{◌≤◌, vec_capacity}
use Rattle.group_closure.specs.declared.TheConstants.{MAX_OPERATORS}
use Rattle.group_closure.specs.Table.{IsProductTable}
use Rattle.group_closure.proofs.table.fill.Given as goal

abbrev pub invariant-loop-member : goal.invariant-loop-member
invariant-loop-member l = record {
  room : MAX_OPERATORS ≤ vec_capacity l.table;
  room_inverses : MAX_OPERATORS ≤ vec_capacity l.inverses;
  table : IsProductTable l.members l.table.items l.inverses.items l.member-index;
}
