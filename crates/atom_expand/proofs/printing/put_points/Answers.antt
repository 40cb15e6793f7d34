use Rattle.std.proofs.Common.{Err, ap, ◌∙◌, ◌+◌, arith, drop, refl}
use Rattle.std.proofs.lemmas.Result.{err_from_is_err_and}
use Rattle.page_print.specs.Lines.{AreLines, IsNothing}
use Rattle.page_print.proofs.Gathering.{nothing_before, one_line, one_part, stopped, gathered_all}
use Rattle.page_print.proofs.Places.{none_left, adds_line}
use Rattle.atom_expand.specs.Printing.{IsPointLine}
use Rattle.atom_expand.proofs.SiteTexts.{some_points}
use Rattle.atom_expand.proofs.printing.put_points.Goals as goal

pub loop-at-preserved : goal.loop-at-preserved
loop-at-preserved g c =
    let IsLine = IsPointLine c.args.number in
    let points = c.args.orbit.now in
    let at = c.loop-at.at in
    let First = AreLines IsLine points in
    let Rest = AreLines IsLine (drop at points) in
    let way = one_part g.K.Sink.seen First c.args.sink.now c.args.page.now Rest c.loop-at.sink c.loop-at.page c.loop-at.invariant Rest IsNothing c.make_room.new.sink c.make_room.new.page (nothing_before Rest) c.in_ok-make_room.ensures.gathers in
    one_line g.K.Sink.seen First c.args.sink.now c.args.page.now Rest c.make_room.new.sink c.make_room.new.page way (AreLines IsLine (drop (at + 1) points)) c.push_point.new.page
    (adds_line IsLine points at _ c.make_room.new.page c.push_point.new.page c.get.ensures c.push_point.ensures (λ x m. (_, refl)))

pub returns-in_err-make_room : goal.returns-in_err-make_room
returns-in_err-make_room g c =
    let p = err_from_is_err_and c.from_residual.result c.from_residual.ensures.1 in
    let points = c.args.orbit.now in
    let First = AreLines (IsPointLine c.args.number) points in
    let Rest = AreLines (IsPointLine c.args.number) (drop c.loop-at.at points) in
    rw (p.1 ∙ ap Err p.2)
    (stopped g.K.Sink.seen First c.args.sink.now c.args.page.now Rest c.loop-at.sink c.loop-at.page c.loop-at.invariant Rest IsNothing c.make_room.new.sink c.make_room.new.page (nothing_before Rest) _ (some_points c.args.number (drop c.loop-at.at points)) c.in_err-make_room.ensures.gathers)

pub returns : goal.returns
returns g c =
    let IsLine = IsPointLine c.args.number in
    let points = c.args.orbit.now in
    let at = c.loop-at.at in
    gathered_all g.K.Sink.seen (AreLines IsLine points) c.args.sink.now c.args.page.now (AreLines IsLine (drop at points)) c.loop-at.sink c.loop-at.page c.loop-at.invariant
    (none_left IsLine points at (omega (arith, c.loop-at-test.false, c.len-at-end.ensures.value)))
