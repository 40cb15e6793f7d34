use Rattle.std.proofs.Common.{take}
use Rattle.grid_tags.specs.Grids.{IsKept}
use Rattle.grid_tags.proofs.keeping.accepts.Given as goal

abbrev pub invariant-loop-i : goal.invariant-loop-i
invariant-loop-i l = IsKept (take l.i l.group) l.size
