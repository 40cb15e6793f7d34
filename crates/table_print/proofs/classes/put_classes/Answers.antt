use Rattle.std.proofs.Common.{Err, refl, ap, ◌∙◌, ◌++◌, ◌∷◌, []}
use Rattle.std.proofs.lemmas.Result.{err_from_is_err_and}
use Rattle.page_print.proofs.WalkPages.{IsPrinting, printing_begun, line_put, room_made, printing_stopped, all_put}
use Rattle.table_print.proofs.ClassPages.{class_listing, same_list}
use Rattle.table_print.proofs.classes.put_classes.Given.{Over}
use Rattle.table_print.proofs.classes.put_classes.Goals.{After-push_class}
use Rattle.table_print.proofs.classes.put_classes.Goals as goal

-- the line was put on the page
put : (g : Over) (c : After-push_class g) → IsPrinting (class_listing c.args.group.now c.args.list.now) g.K.Sink.seen c.args.sink.now c.args.page.now c.next.new.self c.loop-line.sink c.push_class.new.page
put g c =
    let was = c.loop-line.invariant.printing in
    let e = c.in-Some.ensures in
    line_put (class_listing c.args.group.now c.args.list.now) g.K.Sink.seen c.args.sink.now c.args.page.now c.loop-line.list c.next.new.self c.loop-line.sink c.loop-line.page c.push_class.new.page c.in-Some.line was
    (record { walk = e.some was.taken was.is_taken.walk; size = e.size ∙ was.is_taken.size; pairs = e.same_pairs ∙ was.is_taken.pairs }) c.push_class.ensures

pub loop-line-init : goal.loop-line-init
loop-line-init g c = record {
  printing = printing_begun (class_listing c.args.group.now c.args.list.now) g.K.Sink.seen c.args.sink.now c.args.page.now c.args.list.now (record { walk = c.requires.unused; size = refl; pairs = refl });
  room = c.requires.room;
}

pub loop-line-preserved : goal.loop-line-preserved
loop-line-preserved g c = record {
  printing = room_made (class_listing c.args.group.now c.args.list.now) g.K.Sink.seen c.args.sink.now c.args.page.now c.next.new.self c.loop-line.sink c.make_room.new.sink c.push_class.new.page c.make_room.new.page (put g (goal.at.loop-line-preserved g c).After-push_class) c.in_ok-make_room.ensures.gathers;
  room = c.in_ok-make_room.ensures.room;
}

pub returns-in_err-make_room-clause-gathers : goal.returns-in_err-make_room-clause-gathers
returns-in_err-make_room-clause-gathers g c =
    let p = err_from_is_err_and c.from_residual.result c.from_residual.ensures.1 in
    rw (p.1 ∙ ap Err p.2)
    (printing_stopped (class_listing c.args.group.now c.args.list.now) g.K.Sink.seen c.args.sink.now c.args.page.now c.next.new.self c.loop-line.sink c.make_room.new.sink c.push_class.new.page c.make_room.new.page _ (put g (goal.at.returns-in_err-make_room-clause-gathers g c).After-push_class) c.in_err-make_room.ensures.gathers)

pub returns-in_err-make_room-clause-walk : goal.returns-in_err-make_room-clause-walk
returns-in_err-make_room-clause-walk g c =
    let was = c.loop-line.invariant.printing in
    (was.taken ++ c.in-Some.line ∷ [], c.in-Some.ensures.some was.taken was.is_taken.walk)

pub returns-clause-gathers : goal.returns-clause-gathers
returns-clause-gathers g c =
    let was = c.loop-line.invariant.printing in
    all_put (class_listing c.args.group.now c.args.list.now) g.K.Sink.seen c.args.sink.now c.args.page.now c.loop-line.list c.loop-line.sink c.loop-line.page was
    (same_list c.args.group.now c.args.list.now c.loop-line.list was.taken was.is_taken.size was.is_taken.pairs (c.in_default.ensures.none was.taken was.is_taken.walk))
