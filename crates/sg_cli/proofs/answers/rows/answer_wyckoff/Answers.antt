use Rattle.std.proofs.Common.{Err, ap, ◌∙◌}
use Rattle.std.proofs.lemmas.Result.{err_from_is_err_and}
use Rattle.sg_cli.proofs.Outcomes.{text_stopped}
use Rattle.sg_cli.proofs.answers.rows.answer_wyckoff.Goals as goal

pub returns-in_err-print_rows-clause-answers : goal.returns-in_err-print_rows-clause-answers
returns-in_err-print_rows-clause-answers g c =
    let p = err_from_is_err_and c.from_residual-in_err-print_rows.result c.from_residual-in_err-print_rows.ensures.1 in
    rw (p.1 ∙ ap Err p.2) (text_stopped g.K.Sink.seen (λ text t. record { rows = c.in_ok-rows.rows; list = c.in_ok-rows.ensures.list; is_text = t })
    c.args.out.now c.print_rows.new.sink c.in_err-print_rows.field-0.0 c.in_err-print_rows.ensures)

pub returns-clause-answers : goal.returns-clause-answers
returns-clause-answers g c =
    let p = c.in_ok-print_rows.ensures.ok in
    (p.0, record { rows = c.in_ok-rows.rows; list = c.in_ok-rows.ensures.list; is_text = p.1 }, p.2)
