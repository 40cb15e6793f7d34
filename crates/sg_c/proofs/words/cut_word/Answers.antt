use Rattle.std.proofs.Common.{sym}
use Rattle.sg_c.proofs.Cuts.{cut_none, cut_some}
use Rattle.sg_c.proofs.words.cut_word.Goals as goal

pub returns-in-None-clause-words : goal.returns-in-None-clause-words
returns-in-None-clause-words c = cut_none _ c.args.text.now (sym c.in-None.ensures)

pub returns-in-Some-clause-words : goal.returns-in-Some-clause-words
returns-in-Some-clause-words c = cut_some _ c.args.text.now c.in-Some.at (sym c.in-Some.ensures)
