use Rattle.std.proofs.Common.{Ok, Err, ap, subst, ◌∙◌}
use Rattle.std.proofs.lemmas.Result.{err_from_is_err_and}
use Rattle.grid_tags.specs.Grids.{IsKept}
use Rattle.table_print.specs.Grids.{IsGridText}
use Rattle.sg_cli.specs.Fault.{fault_of_write}
use Rattle.sg_cli.proofs.Outcomes.{not_begun, over_grid, stop_counted, text_stopped}
use Rattle.sg_cli.proofs.answers.grids.answer_grid.Goals as goal

pub returns-in_err-orbits-clause-answers : goal.returns-in_err-orbits-clause-answers
returns-in_err-orbits-clause-answers g c =
    let p = err_from_is_err_and c.from_residual.result c.from_residual.ensures.1 in
    rw (p.1 ∙ ap Err p.2) (not_begun g.K.Sink.seen c.args.group.now c.args.size.now c.args.out.now c.in_err-orbits.field-0.0 (λ e. c.in_err-orbits.ensures.not_kept.0 (ap Err e)))

pub returns-in_err-print_orbits-clause-answers : goal.returns-in_err-print_orbits-clause-answers
returns-in_err-print_orbits-clause-answers g c =
    let p = err_from_is_err_and c.from_residual-in_err-print_orbits.result c.from_residual-in_err-print_orbits.ensures.1 in
    let members = c.args.group.now in
    let size = c.in_ok-orbits.ensures.size in
    rw (p.1 ∙ ap Err p.2) (over_grid g.K.Sink.seen members c.args.size.now c.args.out.now (subst (IsKept members) size c.in_ok-orbits.ensures.walk.kept) (λ text t. subst (λ s. IsGridText members s text) size t) c.print_orbits.new.sink (Err (fault_of_write c.in_err-print_orbits.field-0.0))
    (text_stopped g.K.Sink.seen (λ text t. t) c.args.out.now c.print_orbits.new.sink c.in_err-print_orbits.field-0.0 c.in_err-print_orbits.ensures.text))

pub returns-in_err-print_orbits-clause-counted : goal.returns-in_err-print_orbits-clause-counted
returns-in_err-print_orbits-clause-counted g c =
    let p = err_from_is_err_and c.from_residual-in_err-print_orbits.result c.from_residual-in_err-print_orbits.ensures.1 in
    rw (p.1 ∙ ap Err p.2) (stop_counted g.K.Sink.seen c.args.out.now c.print_orbits.new.sink c.in_err-print_orbits.field-0.0 c.in_err-print_orbits.ensures.text.counts)

pub returns-clause-answers : goal.returns-clause-answers
returns-clause-answers g c =
    let members = c.args.group.now in
    let size = c.in_ok-orbits.ensures.size in
    over_grid g.K.Sink.seen members c.args.size.now c.args.out.now (subst (IsKept members) size c.in_ok-orbits.ensures.walk.kept) (λ text t. subst (λ s. IsGridText members s text) size t) c.print_orbits.new.sink (Ok tt) c.in_ok-print_orbits.ensures.text.ok
