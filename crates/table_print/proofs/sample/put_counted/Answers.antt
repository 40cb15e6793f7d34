use Rattle.std.proofs.Common.{Err, ap, ◌∙◌, length, get_or, arith}
use Rattle.std.proofs.lemmas.Option.{slice_get-get_or}
use Rattle.std.proofs.lemmas.Result.{err_from_is_err_and}
use Rattle.table_print.specs.Sample.{counted_line}
use Rattle.table_print.proofs.RowPages.{no_row, none_gathered, line_gathered, lines_stopped, all_gathered}
use Rattle.table_print.proofs.sample.put_counted.Goals as goal

pub loop-k-init : goal.loop-k-init
loop-k-init g c = none_gathered (counted_line (length c.args.group.now) c.args.counts.now) c.args.rows.now g.K.Sink.seen c.args.sink.now c.args.page.now

pub loop-k-preserved : goal.loop-k-preserved
loop-k-preserved g c =
    let rows = c.args.rows.now in
    let k = c.loop-k.k in
    let row = get_or rows k no_row in
    let is = slice_get-get_or rows k no_row (rw c.len-k-end.ensures at c.loop-k-test.true) in
    line_gathered (counted_line (length c.args.group.now) c.args.counts.now) rows g.K.Sink.seen c.args.sink.now c.args.page.now k c.loop-k.sink c.loop-k.page c.loop-k.invariant c.make_room.new.sink c.make_room.new.page c.push_counted.new.page row c.in_ok-make_room.ensures.gathers is (c.push_counted.ensures row is)

pub returns-in_err-make_room : goal.returns-in_err-make_room
returns-in_err-make_room g c =
    let p = err_from_is_err_and c.from_residual.result c.from_residual.ensures.1 in
    rw (p.1 ∙ ap Err p.2) (lines_stopped (counted_line (length c.args.group.now) c.args.counts.now) c.args.rows.now g.K.Sink.seen c.args.sink.now c.args.page.now c.loop-k.k c.loop-k.sink c.loop-k.page c.loop-k.invariant c.make_room.new.sink c.make_room.new.page _ c.in_err-make_room.ensures.gathers)

pub returns : goal.returns
returns g c = all_gathered (counted_line (length c.args.group.now) c.args.counts.now) c.args.rows.now g.K.Sink.seen c.args.sink.now c.args.page.now c.loop-k.k c.loop-k.sink c.loop-k.page c.loop-k.invariant (omega (arith, c.loop-k-test.false, c.len-k-end.ensures))
