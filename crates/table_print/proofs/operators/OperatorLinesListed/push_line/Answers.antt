use Rattle.page_print.proofs.Places.{adds_line}
use Rattle.table_print.specs.Operators.{IsOperatorLine}
use Rattle.table_print.proofs.TypeLines.{some_operator_line}
use Rattle.table_print.proofs.operators.OperatorLinesListed.push_line.Goals as goal

pub returns : goal.returns
returns c =
    adds_line IsOperatorLine c.args.self.now.group.now c.args.at c.op.result c.args.page.now c.push_operator.new.page c.op.ensures.value c.push_operator.ensures (some_operator_line c.args.self.now.group.now)
