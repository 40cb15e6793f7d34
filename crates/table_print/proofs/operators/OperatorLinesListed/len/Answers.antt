use Rattle.std.proofs.Common.{arith}
use Rattle.page_print.proofs.Places.{none_left}
use Rattle.table_print.specs.Operators.{IsOperatorLine}
use Rattle.table_print.proofs.operators.OperatorLinesListed.len.Goals as goal

pub returns-clause-none : goal.returns-clause-none
returns-clause-none c = λ at l. none_left IsOperatorLine c.args.self.now.group.now at (omega (arith, l, c.len.ensures.value))
