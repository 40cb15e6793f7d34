use Rattle.std.proofs.Common.{Err, ap, ◌∙◌}
use Rattle.std.proofs.lemmas.Result.{err_from_is_err_and}
use Rattle.exact_ops.specs.Numbers.{point_in}
use Rattle.sg_cli.proofs.Outcomes.{text_stopped}
use Rattle.sg_cli.proofs.WyckoffTexts.{fitting_line}
use Rattle.sg_cli.proofs.answers.rows.answer_fit.Goals as goal

pub returns-in_err-print_row-clause-answers : goal.returns-in_err-print_row-clause-answers
returns-in_err-print_row-clause-answers g c =
    let p = err_from_is_err_and c.from_residual-in_err-print_row.result c.from_residual-in_err-print_row.ensures.1 in
    rw (p.1 ∙ ap Err p.2) (text_stopped g.K.Sink.seen (λ text t. record { rows = c.in_ok-rows.rows; list = c.in_ok-rows.ensures.list; is_text = fitting_line c.args.group.now (point_in c.args.point.now) c.in_ok-rows.rows c.fit-place.result c.fit-place.ensures.fits text t })
    c.args.out.now c.print_row.new.sink c.in_err-print_row.field-0.0 c.in_err-print_row.ensures)

pub returns-clause-answers : goal.returns-clause-answers
returns-clause-answers g c =
    let p = c.in_ok-print_row.ensures.ok in
    (p.0, record { rows = c.in_ok-rows.rows; list = c.in_ok-rows.ensures.list; is_text = fitting_line c.args.group.now (point_in c.args.point.now) c.in_ok-rows.rows c.fit-place.result c.fit-place.ensures.fits p.0 p.1 }, p.2)
