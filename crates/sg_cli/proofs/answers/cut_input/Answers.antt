use Rattle.sg_cli.proofs.Outcomes.{all_of_it, at_divider}
use Rattle.std.proofs.lemmas.List.{take_rest}
use Rattle.sg_cli.proofs.answers.cut_input.Goals as goal

pub returns-in-OperatorsAndData-clause-parts : goal.returns-in-OperatorsAndData-clause-parts
returns-in-OperatorsAndData-clause-parts c = rw (c.in-OperatorsAndData.is, take_rest c.args.bytes.now c.split-at.result.tail) (at_divider c.args.bytes.now c.split-at.result c.split-at.ensures.split)

pub returns-in_default-clause-parts : goal.returns-in_default-clause-parts
returns-in_default-clause-parts c = all_of_it c.args.input c.args.bytes.now c.in_default.not-OperatorsAndData
