use Rattle.std.proofs.Common.{Err, ap, ◌∙◌, ◌++◌, ◌∷◌, []}
use Rattle.std.proofs.lemmas.Result.{err_from_is_err_and}
use Rattle.page_print.proofs.Gathering.{printed, prints_stopped}
use Rattle.table_print.specs.Grids.{IsGridText}
use Rattle.page_print.proofs.WalkPages.{IsPrinting, line_put, room_made, printing_stopped, all_put}
use Rattle.table_print.proofs.GridPages.{grid_listing, same_list}
use Rattle.table_print.proofs.grids.print_orbits.Given.{Over}
use Rattle.table_print.proofs.grids.print_orbits.Goals.{After-push_orbit}
use Rattle.table_print.proofs.grids.print_orbits.Goals as goal

-- the line was put on the page
put : (g : Over) (c : After-push_orbit g) → IsPrinting (grid_listing c.args.group.now c.args.orbits.now) g.K.Sink.seen c.args.sink.now c.new-page.result c.next.new.self c.loop-line.sink c.push_orbit.new.page
put g c =
    let was = c.loop-line.invariant.printing in
    let e = c.in-Some.ensures in
    line_put (grid_listing c.args.group.now c.args.orbits.now) g.K.Sink.seen c.args.sink.now c.new-page.result c.loop-line.orbits c.next.new.self c.loop-line.sink c.loop-line.page c.push_orbit.new.page c.in-Some.line was
    (record { walk = e.some was.taken was.is_taken.walk; size = e.size ∙ was.is_taken.size }) c.push_orbit.ensures

pub loop-line-preserved : goal.loop-line-preserved
loop-line-preserved g c = record {
  printing = room_made (grid_listing c.args.group.now c.args.orbits.now) g.K.Sink.seen c.args.sink.now c.new-page.result c.next.new.self c.loop-line.sink c.make_room.new.sink c.push_orbit.new.page c.make_room.new.page (put g (goal.at.loop-line-preserved g c).After-push_orbit) c.in_ok-make_room.ensures.gathers;
  room = c.in_ok-make_room.ensures.room;
}

pub returns-in_err-make_room-clause-text : goal.returns-in_err-make_room-clause-text
returns-in_err-make_room-clause-text g c =
    let p = err_from_is_err_and c.from_residual.result c.from_residual.ensures.1 in
    rw (p.1 ∙ ap Err p.2)
    (prints_stopped g.K.Sink.seen (IsGridText c.args.group.now c.args.orbits.now.size) c.args.sink.now c.new-page.result c.new-page.ensures c.make_room.new.sink c.make_room.new.page _
    (printing_stopped (grid_listing c.args.group.now c.args.orbits.now) g.K.Sink.seen c.args.sink.now c.new-page.result c.next.new.self c.loop-line.sink c.make_room.new.sink c.push_orbit.new.page c.make_room.new.page _ (put g (goal.at.returns-in_err-make_room-clause-text g c).After-push_orbit) c.in_err-make_room.ensures.gathers))

pub returns-in_err-make_room-clause-walk : goal.returns-in_err-make_room-clause-walk
returns-in_err-make_room-clause-walk g c =
    let was = c.loop-line.invariant.printing in
    (was.taken ++ c.in-Some.line ∷ [], c.in-Some.ensures.some was.taken was.is_taken.walk)

pub returns-clause-text : goal.returns-clause-text
returns-clause-text g c =
    let was = c.loop-line.invariant.printing in
    printed g.K.Sink.seen (IsGridText c.args.group.now c.args.orbits.now.size) c.args.sink.now c.new-page.result c.new-page.ensures c.loop-line.sink c.put_page.new.sink c.loop-line.page c.put_page.result
    (all_put (grid_listing c.args.group.now c.args.orbits.now) g.K.Sink.seen c.args.sink.now c.new-page.result c.loop-line.orbits c.loop-line.sink c.loop-line.page was
    (same_list c.args.group.now c.args.orbits.now c.loop-line.orbits was.taken was.is_taken.size (c.in_default.ensures.none was.taken was.is_taken.walk))) c.put_page.ensures
