use Rattle.sg_cli.specs.Words.{AreBoxTexts}
use Rattle.sg_cli.proofs.ThreeWords.{three_and_further}
use Rattle.sg_cli.proofs.words.numbers.read_box.Goals as goal

pub returns-clause-some : goal.returns-clause-some
returns-clause-some c =
    let said = rw (c.as_bytes.ensures.value, c.as_bytes-2.ensures.value, c.as_bytes-3.ensures.value) at c.in_ok-size.ensures.some in
    three_and_further AreBoxTexts _ _ _ _ _ _ c.in_ok-x.ensures.some said
