use Rattle.sg_cli.specs.Words.{AreCellTexts}
use Rattle.sg_cli.proofs.PointWords.{if_none}
use Rattle.sg_cli.proofs.FewWords.{not_two}
use Rattle.sg_cli.proofs.WordsLists.{two_texts}
use Rattle.sg_cli.proofs.words.changes.read_cell.Goals as goal

pub returns-clause-none : goal.returns-clause-none
returns-clause-none c =
    let words = two_texts c.args.arguments.now c.over-item.result c.triplet-item.result c.in-len2.len_at_least c.in-len2.len_below c.over-item.is c.triplet-item.is in
    if_none c.cell_of.result (not_two AreCellTexts _ _ _ _ _ words c.as_bytes.ensures.value c.as_bytes-2.ensures.value) c.cell_of.ensures.none
