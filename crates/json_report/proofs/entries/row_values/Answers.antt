use Rattle.std.proofs.Common.{length, get_or}
use Rattle.std.proofs.lemmas.Option.{slice_get-get_or}
use Rattle.table_print.proofs.RowPages.{no_row}
use Rattle.json_report.specs.Report.{row_entry}
use Rattle.json_report.proofs.Written.{one_pushed}
use Rattle.json_report.proofs.entries.row_values.Goals as goal

pub loop-k-preserved : goal.loop-k-preserved
loop-k-preserved c = λ form gives.
    let rows = c.args.rows.now in
    let k = c.loop-k.k in
    let row = get_or rows k no_row in
    let is = slice_get-get_or rows k no_row (rw c.len-k-end.ensures at c.loop-k-test.true) in
    one_pushed (row_entry (length c.args.group.now) form) rows k row c.loop-k.values.items c.push.new.list.items c.in_ok-value.value is (c.loop-k.invariant form gives) (c.in_ok-value.ensures form row gives is) c.in_ok-push.ensures.ok
