use Rattle.std.proofs.Common.{Err, w64, FitsSigned, ap, sym, subst, rules, ◌∙◌, ◌++◌, ◌∷◌, []}
use Rattle.std.proofs.lemmas.Int.{to_z-of_z}
use Rattle.std.proofs.lemmas.Result.{err_from_is_err_and}
use Rattle.page_print.specs.Lines.{AddsSuch}
use Rattle.page_print.specs.Parts.{Is}
use Rattle.page_print.proofs.WalkPages.{IsPrinting, printing_begun, line_put, room_made, printing_stopped, all_put}
use Rattle.grid_tags.specs.Grids.{IsInGrid, triple_of}
use Rattle.map_sym.specs.MapTexts.{sum_text}
use Rattle.map_sym.proofs.MapPages.{sum_listing, same_list, taken_in_grid}
use Rattle.map_sym.proofs.printing.put_sums.Given.{Over}
use Rattle.map_sym.proofs.printing.put_sums.Goals.{After-push_sum}
use Rattle.map_sym.proofs.printing.put_sums.Goals as goal

pub loop-line-init : goal.loop-line-init
loop-line-init g c = record {
  printing = printing_begun (sum_listing c.args.group.now c.args.map.now.sums) g.K.Sink.seen c.args.sink.now c.args.page.now c.args.orbits.now (record { walk = c.requires.unused; size = sym c.requires.size });
  room = c.requires.room;
}

pub value-sum-requires : goal.value-sum-requires
value-sum-requires g c =
    let was = c.loop-line.invariant.printing in
    let e = c.in-Some.ensures in
    subst (λ size. IsInGrid size (triple_of c.in-Some.line.at)) (e.size ∙ was.is_taken.size) (taken_in_grid c.args.group.now c.next.new.self was.taken c.in-Some.line (e.some was.taken was.is_taken.walk))

-- the line was put on the page
put : (g : Over) (c : After-push_sum g) → IsPrinting (sum_listing c.args.group.now c.args.map.now.sums) g.K.Sink.seen c.args.sink.now c.args.page.now c.next.new.self c.loop-line.sink c.push_sum.new.page
put g c =
    let was = c.loop-line.invariant.printing in
    let e = c.in-Some.ensures in
    let fits : FitsSigned w64 c.value-sum.result = search rules in
    let sum = to_z-of_z w64 c.value-sum.result fits ∙ c.value-sum.ensures in
    line_put (sum_listing c.args.group.now c.args.map.now.sums) g.K.Sink.seen c.args.sink.now c.args.page.now c.loop-line.orbits c.next.new.self c.loop-line.sink c.loop-line.page c.push_sum.new.page c.in-Some.line was
    (record { walk = e.some was.taken was.is_taken.walk; size = e.size ∙ was.is_taken.size })
    (subst (λ z. AddsSuch (Is (sum_text c.in-Some.line z)) c.loop-line.page c.push_sum.new.page) sum c.push_sum.ensures)

pub loop-line-preserved : goal.loop-line-preserved
loop-line-preserved g c = record {
  printing = room_made (sum_listing c.args.group.now c.args.map.now.sums) g.K.Sink.seen c.args.sink.now c.args.page.now c.next.new.self c.loop-line.sink c.make_room.new.sink c.push_sum.new.page c.make_room.new.page (put g (goal.at.loop-line-preserved g c).After-push_sum) c.in_ok-make_room.ensures.gathers;
  room = c.in_ok-make_room.ensures.room;
}

pub returns-in_err-make_room-clause-gathers : goal.returns-in_err-make_room-clause-gathers
returns-in_err-make_room-clause-gathers g c =
    let p = err_from_is_err_and c.from_residual.result c.from_residual.ensures.1 in
    rw (p.1 ∙ ap Err p.2)
    (printing_stopped (sum_listing c.args.group.now c.args.map.now.sums) g.K.Sink.seen c.args.sink.now c.args.page.now c.next.new.self c.loop-line.sink c.make_room.new.sink c.push_sum.new.page c.make_room.new.page _ (put g (goal.at.returns-in_err-make_room-clause-gathers g c).After-push_sum) c.in_err-make_room.ensures.gathers)

pub returns-in_err-make_room-clause-walk : goal.returns-in_err-make_room-clause-walk
returns-in_err-make_room-clause-walk g c =
    let was = c.loop-line.invariant.printing in
    (was.taken ++ c.in-Some.line ∷ [], c.in-Some.ensures.some was.taken was.is_taken.walk)

pub returns-clause-gathers : goal.returns-clause-gathers
returns-clause-gathers g c =
    let was = c.loop-line.invariant.printing in
    all_put (sum_listing c.args.group.now c.args.map.now.sums) g.K.Sink.seen c.args.sink.now c.args.page.now c.loop-line.orbits c.loop-line.sink c.loop-line.page was
    (same_list c.args.group.now c.args.map.now.sums c.loop-line.orbits.size was.taken was.is_taken.size (c.in_default.ensures.none was.taken was.is_taken.walk))
