use Rattle.std.proofs.Common.{◌-◌, ◌+◌, ◌≤◌, length}
use Rattle.page_print.specs.declared.page.TheConstants.{PAGE_ROOM}
use Rattle.reflections.specs.Boxes.{places}
use Rattle.table_print.specs.declared.classes.TheConstants.{CLASS_LINE}
use Rattle.page_print.proofs.WalkPages.{IsPrinting}
use Rattle.table_print.proofs.ClassPages.{class_listing}
use Rattle.table_print.proofs.classes.put_classes.Given as goal

abbrev pub invariant-loop-line : goal.invariant-loop-line
invariant-loop-line g l = record {
  printing : IsPrinting (class_listing l.group l.fn.list) g.K.Sink.seen l.fn.sink l.fn.page l.list l.sink l.page;
  room : length l.page + CLASS_LINE ≤ PAGE_ROOM;
}

abbrev pub decreases-loop-line : goal.decreases-loop-line
decreases-loop-line g l = places l.list.size - l.list.place
