use Rattle.std.proofs.Common.{Err, ap, ◌∙◌}
use Rattle.std.proofs.lemmas.Result.{err_from_is_err_and}
use Rattle.sg_cli.proofs.Outcomes.{text_stopped}
use Rattle.sg_cli.proofs.answers.sites.answer_site.Goals as goal

pub returns-in_err-print_site-clause-answers : goal.returns-in_err-print_site-clause-answers
returns-in_err-print_site-clause-answers g c =
    let p = err_from_is_err_and c.from_residual-in_err-print_site.result c.from_residual-in_err-print_site.ensures.1 in
    rw (p.1 ∙ ap Err p.2) (text_stopped g.K.Sink.seen (λ text t. record { site = c.in_ok-site.site; is_site = c.in_ok-site.ensures; orbit = c.in_ok-orbit.orbit; is_orbit = c.in_ok-orbit.ensures; is_text = t })
    c.args.out.now c.print_site.new.sink c.in_err-print_site.field-0.0 c.in_err-print_site.ensures)

pub returns-clause-answers : goal.returns-clause-answers
returns-clause-answers g c =
    let p = c.in_ok-print_site.ensures.ok in
    (p.0, record { site = c.in_ok-site.site; is_site = c.in_ok-site.ensures; orbit = c.in_ok-orbit.orbit; is_orbit = c.in_ok-orbit.ensures; is_text = p.1 }, p.2)
