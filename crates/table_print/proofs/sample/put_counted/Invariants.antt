use Rattle.std.proofs.Common.{length}
use Rattle.table_print.specs.Sample.{counted_line}
use Rattle.table_print.proofs.RowPages.{AreGathered}
use Rattle.table_print.proofs.sample.put_counted.Given as goal

abbrev pub invariant-loop-k : goal.invariant-loop-k
invariant-loop-k g l = AreGathered (counted_line (length l.group) l.counts) l.rows g.K.Sink.seen l.fn.sink l.fn.page l.k l.sink l.page
