use Rattle.std.proofs.Common.{All, take}
use Rattle.basis_change.specs.Frames.{change_in, generators, HasWholeMatrix}
use Rattle.basis_change.proofs.elements.are_whole.Given as goal

abbrev pub invariant-loop-i : goal.invariant-loop-i
invariant-loop-i l = All (HasWholeMatrix (change_in l.frame)) (take l.i (generators l.group))
