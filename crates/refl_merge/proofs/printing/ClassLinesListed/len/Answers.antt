use Rattle.std.proofs.Common.{arith}
use Rattle.page_print.proofs.Places.{no_text_left}
use Rattle.refl_merge.specs.Texts.{class_text}
use Rattle.refl_merge.proofs.printing.ClassLinesListed.len.Goals as goal

pub returns-clause-none : goal.returns-clause-none
returns-clause-none c = λ at l. no_text_left class_text c.args.self.now.merged.now at (omega (arith, l, c.len.ensures))
