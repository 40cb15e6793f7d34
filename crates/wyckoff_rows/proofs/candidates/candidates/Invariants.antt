use Rattle.std.proofs.Common.{map}
use Rattle.std.specs.List.{All}
use Rattle.exact_ops.specs.Elements.{map_in}
use Rattle.wyckoff_rows.specs.Steps.{IsCandidate, AreTried}
use Rattle.wyckoff_rows.proofs.candidates.candidates.Given as goal

abbrev pub invariant-loop-i : goal.invariant-loop-i
invariant-loop-i l = record {
  covered : AreTried l.g l.entry.set (map map_in l.list.items) l.tried l.i;
  candidates : All (IsCandidate l.g) (map map_in l.list.items);
}
