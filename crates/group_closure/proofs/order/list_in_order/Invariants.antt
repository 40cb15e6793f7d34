use Rattle.std.proofs.Common.{◌≡◌, ◌≤◌, length, take, vec_capacity}
use Rattle.group_closure.proofs.order.list_in_order.Given as goal

abbrev pub invariant-loop-op : goal.invariant-loop-op
invariant-loop-op l = record {
  room : length l.made ≤ vec_capacity l.members;
  items : l.members.items ≡ take l.op-index l.made;
}
