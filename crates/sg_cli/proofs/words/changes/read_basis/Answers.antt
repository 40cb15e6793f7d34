use Rattle.sg_cli.specs.Words.{IsBasisText}
use Rattle.sg_cli.proofs.PointWords.{if_none}
use Rattle.sg_cli.proofs.FewWords.{not_one}
use Rattle.sg_cli.proofs.WordsLists.{one_text}
use Rattle.sg_cli.proofs.words.changes.read_basis.Goals as goal

pub returns-clause-none : goal.returns-clause-none
returns-clause-none c =
    let words = one_text c.args.arguments.now c.triplet-item.result c.in-len1.len_at_least c.in-len1.len_below c.triplet-item.is in
    if_none c.basis_of.result (not_one IsBasisText _ _ _ words c.as_bytes.ensures.value) c.basis_of.ensures.none
