use Rattle.std.proofs.Common.{Err, ap, subst, sym, ◌∙◌}
use Rattle.std.proofs.lemmas.Result.{err_from_is_err_and}
use Rattle.json_report.specs.Report.{IsReportText}
use Rattle.sg_cli.proofs.Outcomes.{text_stopped}
use Rattle.sg_cli.proofs.answers.rows.answer_report.Goals as goal

pub returns-in_err-put_text-clause-answers : goal.returns-in_err-put_text-clause-answers
returns-in_err-put_text-clause-answers g c =
    let p = err_from_is_err_and c.from_residual-in_err-put_text.result c.from_residual-in_err-put_text.ensures.1 in
    rw (p.1 ∙ ap Err p.2) (text_stopped g.K.Sink.seen (λ text t. record { rows = c.in_ok-rows.rows; list = c.in_ok-rows.ensures.list; is_text = subst (IsReportText c.args.group.now c.in_ok-rows.rows) (sym (t ∙ c.deref.ensures.value)) c.in_ok-text.ensures })
    c.args.out.now c.put_text.new.out c.in_err-put_text.field-0.0 c.in_err-put_text.ensures)

pub returns-clause-answers : goal.returns-clause-answers
returns-clause-answers g c =
    let p = c.in_ok-put_text.ensures.ok in
    (p.0, record { rows = c.in_ok-rows.rows; list = c.in_ok-rows.ensures.list; is_text = subst (IsReportText c.args.group.now c.in_ok-rows.rows) (sym (p.1 ∙ c.deref.ensures.value)) c.in_ok-text.ensures }, p.2)
