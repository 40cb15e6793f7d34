use Rattle.std.proofs.Common.{arith}
use Rattle.page_print.proofs.Places.{none_left}
use Rattle.table_print.specs.Sites.{IsPointLine}
use Rattle.table_print.proofs.sites.PointLinesListed.len.Goals as goal

pub returns-clause-none : goal.returns-clause-none
returns-clause-none c = λ at l. none_left IsPointLine c.args.self.now.orbit.now at (omega (arith, l, c.len.ensures.value))
