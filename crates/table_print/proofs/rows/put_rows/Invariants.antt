use Rattle.std.proofs.Common.{length}
use Rattle.table_print.specs.Rows.{row_line}
use Rattle.table_print.proofs.RowPages.{AreGathered}
use Rattle.table_print.proofs.rows.put_rows.Given as goal

abbrev pub invariant-loop-k : goal.invariant-loop-k
invariant-loop-k g l = AreGathered (row_line (length l.group)) l.rows g.K.Sink.seen l.fn.sink l.fn.page l.k l.sink l.page
