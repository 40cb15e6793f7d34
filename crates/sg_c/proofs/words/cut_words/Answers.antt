use Rattle.std.specs.Str.{IsUtf8}
use Rattle.triplet_text.proofs.LineSteps.{lines_cut}
use Rattle.sg_c.proofs.WordSteps.{one_breaks}
use Rattle.sg_c.proofs.words.cut_words.Goals as goal

pub returns-in-Err-clause-not_text : goal.returns-in-Err-clause-not_text
returns-in-Err-clause-not_text c is =
    let e = lines_cut c.cut_word.result.1 c.in-Some.text.now c.cut_word.result.0.now c.cut_word.ensures.words in
    one_breaks IsUtf8 _ _ _ _ (rw (c.in-Some.is, e) at c.loop-rest.invariant.words) (c.own_word.ensures.not_text (let found = c.in-Err.is in cc))
