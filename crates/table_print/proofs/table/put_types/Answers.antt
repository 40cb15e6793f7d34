use Rattle.std.proofs.Common.{Err, ap, ◌∙◌, codes}
use Rattle.std.proofs.lemmas.Result.{err_from_is_err_and}
use Rattle.table_print.specs.Types.{AreTypeLines}
use Rattle.page_print.specs.Parts.{Is}
use Rattle.page_print.proofs.PartTexts.{two_gathered, first_stopped}
use Rattle.table_print.proofs.TablePages.{some_type_lines}
use Rattle.table_print.proofs.table.put_types.Goals as goal

pub returns-in_err-put_heading : goal.returns-in_err-put_heading
returns-in_err-put_heading g c =
    let p = err_from_is_err_and c.from_residual.result c.from_residual.ensures.1 in
    let members = c.args.group.now in
    rw (p.1 ∙ ap Err p.2) (first_stopped g.K.Sink.seen (Is (codes "types\n")) (AreTypeLines members) c.args.sink.now c.put_heading.new.sink c.args.page.now c.put_heading.new.page
    (some_type_lines members c.requires) _ c.in_err-put_heading.ensures.gathers)

pub returns : goal.returns
returns g c =
    let members = c.args.group.now in
    two_gathered g.K.Sink.seen (Is (codes "types\n")) (AreTypeLines members) c.args.sink.now c.put_heading.new.sink c.args.page.now c.put_heading.new.page c.put_listed.new.sink c.put_listed.new.page c.put_listed.result
    c.in_ok-put_heading.ensures.gathers c.put_listed.ensures
