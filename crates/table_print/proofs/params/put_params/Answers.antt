use Rattle.std.proofs.Common.{Err, Ok, ap, ◌∙◌, length, get_or, arith, List, ℕ}
use Rattle.std.proofs.lemmas.Option.{slice_get-get_or, slice_get_within}
use Rattle.std.proofs.lemmas.Result.{err_from_is_err_and}
use Rattle.lattice_algebra.specs.Operator.{Operator, identity_operator}
use Rattle.group_closure.specs.GroupList.{IsGroup}
use Rattle.exact_ops.specs.declared.TheConstants.{UNIT}
use Rattle.space_groups.specs.Rows.{Row}
use Rattle.parameter_forms.proofs.SomeForm.{found_form}
use Rattle.table_print.specs.Params.{param_line, GivesForms, IsParamsText}
use Rattle.table_print.proofs.RowPages.{AreLinesFrom, no_row, none_gathered, line_gathered, lines_stopped, all_gathered}
use Rattle.table_print.proofs.FormTexts.{found_gives, gathers_more}
use Rattle.table_print.proofs.params.put_params.Goals as goal

gives : (members : List Operator) → IsGroup members → GivesForms (length members) (found_form UNIT (length members))
gives members g = found_gives (length members) (slice_get_within members 0 identity_operator g.first)

is_text : (members : List Operator) (rows : List Row) → IsGroup members → (text : List ℕ) → AreLinesFrom (param_line (found_form UNIT (length members))) rows 0 text → IsParamsText members rows text
is_text members rows g text e = record { form = found_form UNIT (length members); gives = gives members g; whole = e }

pub loop-k-init : goal.loop-k-init
loop-k-init g c = none_gathered (param_line (found_form UNIT (length c.args.group.now))) c.args.rows.now g.K.Sink.seen c.args.sink.now c.args.page.now

pub loop-k-preserved : goal.loop-k-preserved
loop-k-preserved g c =
    let members = c.args.group.now in
    let rows = c.args.rows.now in
    let form = found_form UNIT (length members) in
    let k = c.loop-k.k in
    let row = get_or rows k no_row in
    let is = slice_get-get_or rows k no_row (rw c.len-k-end.ensures at c.loop-k-test.true) in
    line_gathered (param_line form) rows g.K.Sink.seen c.args.sink.now c.args.page.now k c.loop-k.sink c.loop-k.page c.loop-k.invariant c.make_room.new.sink c.make_room.new.page c.push_line.new.page row c.in_ok-make_room.ensures.gathers is
    (c.push_line.ensures form row (gives members c.len.ensures.group) is)

pub returns-in_err-make_room : goal.returns-in_err-make_room
returns-in_err-make_room g c =
    let p = err_from_is_err_and c.from_residual.result c.from_residual.ensures.1 in
    let members = c.args.group.now in
    let rows = c.args.rows.now in
    rw (p.1 ∙ ap Err p.2) (gathers_more g.K.Sink.seen (AreLinesFrom (param_line (found_form UNIT (length members))) rows 0) (IsParamsText members rows) (is_text members rows c.len.ensures.group) c.args.sink.now c.make_room.new.sink c.args.page.now c.make_room.new.page (Err _)
    (lines_stopped (param_line (found_form UNIT (length members))) rows g.K.Sink.seen c.args.sink.now c.args.page.now c.loop-k.k c.loop-k.sink c.loop-k.page c.loop-k.invariant c.make_room.new.sink c.make_room.new.page _ c.in_err-make_room.ensures.gathers))

pub returns : goal.returns
returns g c =
    let members = c.args.group.now in
    let rows = c.args.rows.now in
    gathers_more g.K.Sink.seen (AreLinesFrom (param_line (found_form UNIT (length members))) rows 0) (IsParamsText members rows) (is_text members rows c.len.ensures.group) c.args.sink.now c.loop-k.sink c.args.page.now c.loop-k.page (Ok tt)
    (all_gathered (param_line (found_form UNIT (length members))) rows g.K.Sink.seen c.args.sink.now c.args.page.now c.loop-k.k c.loop-k.sink c.loop-k.page c.loop-k.invariant (omega (arith, c.loop-k-test.false, c.len-k-end.ensures)))
