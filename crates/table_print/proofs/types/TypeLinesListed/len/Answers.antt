use Rattle.std.proofs.Common.{arith}
use Rattle.page_print.proofs.Places.{none_left}
use Rattle.table_print.specs.Types.{IsTypeLine}
use Rattle.table_print.proofs.types.TypeLinesListed.len.Goals as goal

pub returns-clause-none : goal.returns-clause-none
returns-clause-none c = λ at l. none_left IsTypeLine c.args.self.now.group.now at (omega (arith, l, c.len.ensures.value))
