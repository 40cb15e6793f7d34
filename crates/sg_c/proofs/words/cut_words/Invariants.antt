use Rattle.std.proofs.Common.{◌≡◌, ◌++◌}
use Rattle.sg_cli.specs.Words.{texts}
use Rattle.triplet_text.specs.Lines.{lines_of}
use Rattle.triplet_text.proofs.LineSteps.{lines_left, left}
use Rattle.sg_c.proofs.words.cut_words.Given as goal

abbrev pub invariant-loop-rest : goal.invariant-loop-rest
invariant-loop-rest l = record { words : texts l.words.items ++ lines_left l.rest ≡ lines_of l.text }

abbrev pub decreases-loop-rest : goal.decreases-loop-rest
decreases-loop-rest l = left l.rest
