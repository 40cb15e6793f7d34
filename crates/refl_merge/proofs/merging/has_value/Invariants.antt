use Rattle.std.proofs.Common.{◌≡◌, take, pos}
use Rattle.std.specs.List.{All}
use Rattle.refl_merge.specs.declared.entries.Keyed.{Keyed}
use Rattle.refl_merge.proofs.merging.has_value.Given as goal

abbrev pub invariant-loop-entry : goal.invariant-loop-entry
invariant-loop-entry l = All (λ (e : Keyed). e.line.value ≡ pos 0) (take l.entry-index l.run)
