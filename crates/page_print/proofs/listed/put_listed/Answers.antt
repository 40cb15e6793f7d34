use Rattle.std.proofs.Common.{Err, ap, ◌∙◌, ◌+◌}
use Rattle.std.proofs.lemmas.Result.{err_from_is_err_and}
use Rattle.page_print.specs.Lines.{IsNothing}
use Rattle.page_print.proofs.Gathering.{nothing_before, one_line, one_part, stopped}
use Rattle.page_print.proofs.listed.put_listed.Goals as goal

pub loop-at-preserved : goal.loop-at-preserved
loop-at-preserved g c =
    let First = g.L.Listed.texts c.args.listed.now 0 in
    let After = g.L.Listed.texts c.args.listed.now (c.loop-at.at + 1) in
    let way = one_line g.K.Sink.seen First c.args.sink.now c.args.page.now (g.L.Listed.texts c.args.listed.now c.loop-at.at) c.loop-at.sink c.loop-at.page c.loop-at.invariant.way After c.push_line.new.page c.push_line.ensures in
    record {
      way = one_part g.K.Sink.seen First c.args.sink.now c.args.page.now After c.loop-at.sink c.push_line.new.page way After IsNothing c.make_room.new.sink c.make_room.new.page (nothing_before After) c.in_ok-make_room.ensures.gathers;
      room = rw c.longest_line.ensures at c.in_ok-make_room.ensures.room;
    }

pub returns-in_err-make_room : goal.returns-in_err-make_room
returns-in_err-make_room g c =
    let p = err_from_is_err_and c.from_residual.result c.from_residual.ensures.1 in
    let First = g.L.Listed.texts c.args.listed.now 0 in
    let After = g.L.Listed.texts c.args.listed.now (c.loop-at.at + 1) in
    let added = c.push_line.ensures in
    let way = one_line g.K.Sink.seen First c.args.sink.now c.args.page.now (g.L.Listed.texts c.args.listed.now c.loop-at.at) c.loop-at.sink c.loop-at.page c.loop-at.invariant.way After c.push_line.new.page added in
    rw (p.1 ∙ ap Err p.2) (stopped g.K.Sink.seen First c.args.sink.now c.args.page.now After c.loop-at.sink c.push_line.new.page way After IsNothing c.make_room.new.sink c.make_room.new.page (nothing_before After) _ added.some c.in_err-make_room.ensures.gathers)
