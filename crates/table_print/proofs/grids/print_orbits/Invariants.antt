use Rattle.std.proofs.Common.{◌-◌, ◌+◌, ◌≤◌, length}
use Rattle.page_print.specs.declared.page.TheConstants.{PAGE_ROOM}
use Rattle.grid_tags.specs.Grids.{points}
use Rattle.table_print.specs.declared.grids.TheConstants.{ORBIT_LINE}
use Rattle.page_print.proofs.WalkPages.{IsPrinting}
use Rattle.table_print.proofs.GridPages.{grid_listing}
use Rattle.table_print.proofs.grids.print_orbits.Given as goal

abbrev pub invariant-loop-line : goal.invariant-loop-line
invariant-loop-line g l = record {
  printing : IsPrinting (grid_listing l.group l.fn.orbits) g.K.Sink.seen l.fn.sink l.initial.page l.orbits l.sink l.page;
  room : length l.page + ORBIT_LINE ≤ PAGE_ROOM;
}

abbrev pub decreases-loop-line : goal.decreases-loop-line
decreases-loop-line g l = points l.orbits.size - l.orbits.place
