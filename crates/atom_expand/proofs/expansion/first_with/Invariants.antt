use Rattle.std.proofs.Common.{◌≡◌, ◌<◌, ℕ, Some, slice_get}
use Rattle.exact_ops.specs.Numbers.{point_in}
use Rattle.atom_expand.specs.declared.expansion.Expanded.{Expanded}
use Rattle.atom_expand.specs.Steps.{BeginsWith, IsFirstAnd}
use Rattle.atom_expand.proofs.expansion.first_with.Given as goal

abbrev pub invariant-loop-j : goal.invariant-loop-j
invariant-loop-j l = (i : ℕ) (entry : Expanded) → i < l.j → slice_get l.entries i ≡ Some entry → ¬ IsFirstAnd (BeginsWith (point_in l.least)) entry
