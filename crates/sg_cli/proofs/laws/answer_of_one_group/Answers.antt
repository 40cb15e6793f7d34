use Rattle.sg_cli.proofs.SameGroup.{answer_of_one_group}
use Rattle.sg_cli.proofs.laws.answer_of_one_group.Goals as goal

pub returns : goal.returns
returns c = λ words bytes others a b few few_too same. answer_of_one_group words bytes others few few_too same a b
