use Rattle.std.proofs.Common.{take}
use Rattle.basis_change.specs.Frames.{change_in, generators, AreChanged}
use Rattle.basis_change.proofs.elements.changed_list.Given as goal

abbrev pub invariant-loop-i : goal.invariant-loop-i
invariant-loop-i l = AreChanged l.group (change_in l.frame) (take l.i (generators l.group)) l.list
