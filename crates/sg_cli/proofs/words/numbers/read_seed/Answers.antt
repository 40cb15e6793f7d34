use Rattle.sg_cli.specs.Words.{IsSeedText}
use Rattle.sg_cli.proofs.PointWords.{if_none}
use Rattle.sg_cli.proofs.FewWords.{not_one}
use Rattle.sg_cli.proofs.WordsLists.{one_text}
use Rattle.sg_cli.proofs.words.numbers.read_seed.Goals as goal

pub returns-clause-none : goal.returns-clause-none
returns-clause-none c =
    let words = one_text c.args.arguments.now c.seed-item.result c.in-len1.len_at_least c.in-len1.len_below c.seed-item.is in
    if_none c.seed_of.result (not_one IsSeedText _ _ _ words c.as_bytes.ensures.value) c.seed_of.ensures.none
