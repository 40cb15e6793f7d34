use Rattle.std.proofs.Common.{Err, ap, ◌∙◌, codes}
use Rattle.std.proofs.lemmas.Result.{err_from_is_err_and}
use Rattle.table_print.specs.Classes.{IsBoxText}
use Rattle.page_print.specs.Parts.{Is}
use Rattle.table_print.proofs.ClassTexts.{some_box_text}
use Rattle.page_print.proofs.PartTexts.{two_gathered, first_stopped}
use Rattle.table_print.proofs.table.put_class_part.Goals as goal

pub returns-in_err-put_heading-clause-gathers : goal.returns-in_err-put_heading-clause-gathers
returns-in_err-put_heading-clause-gathers g c =
    let p = err_from_is_err_and c.from_residual.result c.from_residual.ensures.1 in
    let members = c.args.group.now in
    let list = c.args.list.now in
    rw (p.1 ∙ ap Err p.2) (first_stopped g.K.Sink.seen (Is (codes "classes\n")) (IsBoxText list.pairs members list.size) c.args.sink.now c.put_heading.new.sink c.args.page.now c.put_heading.new.page
    (some_box_text list.pairs members c.requires.group list.size) _ c.in_err-put_heading.ensures.gathers)

pub returns-clause-gathers : goal.returns-clause-gathers
returns-clause-gathers g c =
    let members = c.args.group.now in
    let list = c.args.list.now in
    two_gathered g.K.Sink.seen (Is (codes "classes\n")) (IsBoxText list.pairs members list.size) c.args.sink.now c.put_heading.new.sink c.args.page.now c.put_heading.new.page c.put_classes.new.sink c.put_classes.new.page c.put_classes.result
    c.in_ok-put_heading.ensures.gathers c.put_classes.ensures.gathers
