use Rattle.std.proofs.Common.{◌+◌, ◌≤◌, length}
use Rattle.page_print.specs.declared.page.TheConstants.{PAGE_ROOM}
use Rattle.page_print.proofs.Gathering.{IsUnderWay}
use Rattle.page_print.proofs.listed.put_listed.Given as goal

abbrev pub invariant-loop-at : goal.invariant-loop-at
invariant-loop-at g l = record {
  way : IsUnderWay g.K.Sink.seen (g.L.Listed.texts l.fn.listed 0) l.fn.sink l.fn.page (g.L.Listed.texts l.fn.listed l.at) l.sink l.page;
  room : length l.page + g.L.Listed.longest ≤ PAGE_ROOM;
}
