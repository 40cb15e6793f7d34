use Rattle.std.specs.List.{All}
use Rattle.wyckoff_rows.specs.Steps.{IsPlaceIn}
use Rattle.wyckoff_rows.proofs.candidates.places_of.Given as goal

abbrev pub invariant-loop-k : goal.invariant-loop-k
invariant-loop-k l = record { each : All (IsPlaceIn l.g l.set) l.places.items }
