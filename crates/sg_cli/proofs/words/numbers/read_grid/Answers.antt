use Rattle.sg_cli.specs.Words.{AreGridTexts}
use Rattle.sg_cli.proofs.PointWords.{if_none}
use Rattle.sg_cli.proofs.ThreeWords.{not_three}
use Rattle.sg_cli.proofs.WordsLists.{three_texts}
use Rattle.sg_cli.proofs.words.numbers.read_grid.Goals as goal

pub returns-clause-none : goal.returns-clause-none
returns-clause-none c =
    let three = three_texts c.args.arguments.now c.x-item.result c.y-item.result c.z-item.result c.in-len3.len_at_least c.in-len3.len_below c.x-item.is c.y-item.is c.z-item.is in
    if_none c.grid_of.result (not_three AreGridTexts _ _ _ _ _ _ _ three c.as_bytes.ensures.value c.as_bytes-2.ensures.value c.as_bytes-3.ensures.value) c.grid_of.ensures.none
