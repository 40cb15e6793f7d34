use Rattle.std.proofs.Common.{Err, ap, ◌∙◌}
use Rattle.std.proofs.lemmas.Result.{err_from_is_err_and}
use Rattle.sg_cli.proofs.Outcomes.{stop_counted, text_stopped}
use Rattle.sg_cli.proofs.WyckoffTexts.{same_table_text}
use Rattle.sg_cli.proofs.answers.rows.answer_table.Goals as goal

pub returns-in_err-print_table-clause-answers : goal.returns-in_err-print_table-clause-answers
returns-in_err-print_table-clause-answers g c =
    let p = err_from_is_err_and c.from_residual-in_err-print_table.result c.from_residual-in_err-print_table.ensures.1 in
    let list = c.in_ok-list.ensures in
    rw (p.1 ∙ ap Err p.2) (text_stopped g.K.Sink.seen (λ text t. record { rows = c.in_ok-rows.rows; list = c.in_ok-rows.ensures.list; is_text = same_table_text c.args.group.now c.in_ok-rows.rows list.same_pairs list.size text t })
    c.args.out.now c.print_table.new.sink c.in_err-print_table.field-0.0 c.in_err-print_table.ensures.text)

pub returns-in_err-print_table-clause-counted : goal.returns-in_err-print_table-clause-counted
returns-in_err-print_table-clause-counted g c =
    let p = err_from_is_err_and c.from_residual-in_err-print_table.result c.from_residual-in_err-print_table.ensures.1 in
    rw (p.1 ∙ ap Err p.2) (stop_counted g.K.Sink.seen c.args.out.now c.print_table.new.sink c.in_err-print_table.field-0.0 c.in_err-print_table.ensures.text.counts)

pub returns-clause-answers : goal.returns-clause-answers
returns-clause-answers g c =
    let p = c.in_ok-print_table.ensures.text.ok in
    let list = c.in_ok-list.ensures in
    (p.0, record { rows = c.in_ok-rows.rows; list = c.in_ok-rows.ensures.list; is_text = same_table_text c.args.group.now c.in_ok-rows.rows list.same_pairs list.size p.0 p.1 }, p.2)
