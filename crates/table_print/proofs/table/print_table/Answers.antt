use Rattle.std.proofs.Common.{Err, ap, ◌∙◌}
use Rattle.std.proofs.lemmas.Result.{err_from_is_err_and}
use Rattle.table_print.proofs.TablePages.{stopped_in_operators, stopped_in_types, stopped_in_rows, stopped_in_classes, table_printed}
use Rattle.table_print.proofs.table.print_table.Goals as goal

pub returns-in_err-put_operators-clause-text : goal.returns-in_err-put_operators-clause-text
returns-in_err-put_operators-clause-text g c =
    let p = err_from_is_err_and c.from_residual.result c.from_residual.ensures.1 in
    let list = c.args.list.now in
    rw (p.1 ∙ ap Err p.2) (stopped_in_operators list.pairs c.args.group.now c.requires.unused.group c.args.rows.now list.size g.K.Sink.seen c.args.sink.now c.new-page.result c.new-page.ensures c.put_operators.new.sink c.put_operators.new.page _ c.in_err-put_operators.ensures)

pub returns-in_err-put_types-clause-text : goal.returns-in_err-put_types-clause-text
returns-in_err-put_types-clause-text g c =
    let p = err_from_is_err_and c.from_residual-in_err-put_types.result c.from_residual-in_err-put_types.ensures.1 in
    let list = c.args.list.now in
    rw (p.1 ∙ ap Err p.2) (stopped_in_types list.pairs c.args.group.now c.requires.unused.group c.args.rows.now list.size g.K.Sink.seen c.args.sink.now c.new-page.result c.new-page.ensures c.put_operators.new.sink c.put_operators.new.page c.in_ok-put_operators.ensures
    c.put_types.new.sink c.put_types.new.page _ c.in_err-put_types.ensures)

pub returns-in_err-put_row_part-clause-text : goal.returns-in_err-put_row_part-clause-text
returns-in_err-put_row_part-clause-text g c =
    let p = err_from_is_err_and c.from_residual-in_err-put_row_part.result c.from_residual-in_err-put_row_part.ensures.1 in
    let list = c.args.list.now in
    rw (p.1 ∙ ap Err p.2) (stopped_in_rows list.pairs c.args.group.now c.requires.unused.group c.args.rows.now list.size g.K.Sink.seen c.args.sink.now c.new-page.result c.new-page.ensures c.put_operators.new.sink c.put_operators.new.page c.in_ok-put_operators.ensures
    c.put_types.new.sink c.put_types.new.page c.in_ok-put_types.ensures c.put_row_part.new.sink c.put_row_part.new.page _ c.in_err-put_row_part.ensures)

pub returns-in_err-put_class_part-clause-text : goal.returns-in_err-put_class_part-clause-text
returns-in_err-put_class_part-clause-text g c =
    let p = err_from_is_err_and c.from_residual-in_err-put_class_part.result c.from_residual-in_err-put_class_part.ensures.1 in
    let list = c.args.list.now in
    rw (p.1 ∙ ap Err p.2) (stopped_in_classes list.pairs c.args.group.now c.requires.unused.group c.args.rows.now list.size g.K.Sink.seen c.args.sink.now c.new-page.result c.new-page.ensures c.put_operators.new.sink c.put_operators.new.page c.in_ok-put_operators.ensures
    c.put_types.new.sink c.put_types.new.page c.in_ok-put_types.ensures c.put_row_part.new.sink c.put_row_part.new.page c.in_ok-put_row_part.ensures c.put_class_part.new.sink c.put_class_part.new.page _ c.in_err-put_class_part.ensures.gathers)

pub returns-clause-text : goal.returns-clause-text
returns-clause-text g c =
    let list = c.args.list.now in
    table_printed list.pairs c.args.group.now c.requires.unused.group c.args.rows.now list.size g.K.Sink.seen c.args.sink.now c.new-page.result c.new-page.ensures c.put_operators.new.sink c.put_operators.new.page c.in_ok-put_operators.ensures
    c.put_types.new.sink c.put_types.new.page c.in_ok-put_types.ensures c.put_row_part.new.sink c.put_row_part.new.page c.in_ok-put_row_part.ensures c.put_class_part.new.sink c.put_page.new.sink c.put_class_part.new.page c.put_page.result c.in_ok-put_class_part.ensures.gathers c.put_page.ensures
