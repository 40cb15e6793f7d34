use Rattle.std.proofs.Common.{◌+◌, drop}
use Rattle.page_print.specs.Lines.{AreLines}
use Rattle.page_print.proofs.Gathering.{IsUnderWay}
use Rattle.atom_expand.specs.Printing.{IsAtomText, numbered, IsAtomsText}
use Rattle.atom_expand.proofs.printing.print_atoms.Given as goal

abbrev pub invariant-loop-k : goal.invariant-loop-k
invariant-loop-k g l = IsUnderWay g.K.Sink.seen (IsAtomsText l.atoms l.expansion) l.fn.sink l.initial.page (AreLines IsAtomText (numbered (l.k + 1) (drop l.k l.atoms) (drop l.k l.expansion))) l.sink l.page
