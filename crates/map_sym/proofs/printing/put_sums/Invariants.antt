use Rattle.std.proofs.Common.{◌-◌, ◌+◌, ◌≤◌, length}
use Rattle.page_print.specs.declared.page.TheConstants.{PAGE_ROOM}
use Rattle.page_print.proofs.WalkPages.{IsPrinting}
use Rattle.grid_tags.specs.Grids.{points}
use Rattle.map_sym.specs.declared.printing.TheConstants.{MAP_LINE}
use Rattle.map_sym.proofs.MapPages.{sum_listing}
use Rattle.map_sym.proofs.printing.put_sums.Given as goal

abbrev pub invariant-loop-line : goal.invariant-loop-line
invariant-loop-line g l = record {
  printing : IsPrinting (sum_listing l.group l.map.sums) g.K.Sink.seen l.fn.sink l.fn.page l.orbits l.sink l.page;
  room : length l.page + MAP_LINE ≤ PAGE_ROOM;
}

abbrev pub decreases-loop-line : goal.decreases-loop-line
decreases-loop-line g l = points l.orbits.size - l.orbits.place
