use Rattle.std.proofs.Common.{arith}
use Rattle.page_print.proofs.Places.{none_left}
use Rattle.table_print.specs.Sites.{IsElementLine}
use Rattle.table_print.proofs.sites.ElementLinesListed.len.Goals as goal

pub returns-clause-none : goal.returns-clause-none
returns-clause-none c = λ at l. none_left IsElementLine c.args.self.now.site.now at (omega (arith, l, c.len.ensures.value))
