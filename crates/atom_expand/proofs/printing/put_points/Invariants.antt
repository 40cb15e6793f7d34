use Rattle.std.proofs.Common.{drop}
use Rattle.page_print.specs.Lines.{AreLines}
use Rattle.page_print.proofs.Gathering.{IsUnderWay}
use Rattle.atom_expand.specs.Printing.{IsPointLine}
use Rattle.atom_expand.proofs.printing.put_points.Given as goal

abbrev pub invariant-loop-at : goal.invariant-loop-at
invariant-loop-at g l = IsUnderWay g.K.Sink.seen (AreLines (IsPointLine l.number) l.orbit) l.fn.sink l.fn.page (AreLines (IsPointLine l.number) (drop l.at l.orbit)) l.sink l.page
