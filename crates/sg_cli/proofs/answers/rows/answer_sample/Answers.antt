use Rattle.std.proofs.Common.{Err, ap, ◌∙◌}
use Rattle.std.proofs.lemmas.Result.{err_from_is_err_and}
use Rattle.sg_cli.proofs.Outcomes.{text_stopped}
use Rattle.sg_cli.proofs.SampleTexts.{counted_text}
use Rattle.sg_cli.proofs.answers.rows.answer_sample.Goals as goal

pub returns-in_err-print_sample-clause-answers : goal.returns-in_err-print_sample-clause-answers
returns-in_err-print_sample-clause-answers g c =
    let p = err_from_is_err_and c.from_residual-in_err-print_sample.result c.from_residual-in_err-print_sample.ensures.1 in
    rw (p.1 ∙ ap Err p.2) (text_stopped g.K.Sink.seen (λ text t. record { rows = c.in_ok-rows.rows; list = c.in_ok-rows.ensures.list; is_text = counted_text c.args.group.now c.args.seed c.in_ok-rows.rows c.number_of.result c.in_ok-counts.counts.items c.deref.result.now c.in_ok-counts.ensures c.number_of.ensures.value c.deref.ensures.value text t })
    c.args.out.now c.print_sample.new.sink c.in_err-print_sample.field-0.0 c.in_err-print_sample.ensures)

pub returns-clause-answers : goal.returns-clause-answers
returns-clause-answers g c =
    let p = c.in_ok-print_sample.ensures.ok in
    (p.0, record { rows = c.in_ok-rows.rows; list = c.in_ok-rows.ensures.list; is_text = counted_text c.args.group.now c.args.seed c.in_ok-rows.rows c.number_of.result c.in_ok-counts.counts.items c.deref.result.now c.in_ok-counts.ensures c.number_of.ensures.value c.deref.ensures.value p.0 p.1 }, p.2)
