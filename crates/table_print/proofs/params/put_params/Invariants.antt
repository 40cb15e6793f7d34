use Rattle.std.proofs.Common.{length}
use Rattle.exact_ops.specs.declared.TheConstants.{UNIT}
use Rattle.parameter_forms.proofs.SomeForm.{found_form}
use Rattle.table_print.specs.Params.{param_line}
use Rattle.table_print.proofs.RowPages.{AreGathered}
use Rattle.table_print.proofs.params.put_params.Given as goal

abbrev pub invariant-loop-k : goal.invariant-loop-k
invariant-loop-k g l = AreGathered (param_line (found_form UNIT (length l.group))) l.rows g.K.Sink.seen l.fn.sink l.fn.page l.k l.sink l.page
