use Rattle.std.proofs.Common.{Ok, Err, ap, subst, ◌∙◌}
use Rattle.std.proofs.lemmas.Result.{err_from_is_err_and}
use Rattle.grid_tags.specs.Grids.{IsKept}
use Rattle.sg_cli.specs.Fault.{fault_of_write}
use Rattle.sg_cli.proofs.Outcomes.{not_valued, not_begun_over, over_values, stop_counted, text_stopped}
use Rattle.sg_cli.proofs.answers.grids.answer_map.Goals as goal

pub returns-in_err-values-clause-answers : goal.returns-in_err-values-clause-answers
returns-in_err-values-clause-answers g c = λ rest is.
    let p = err_from_is_err_and c.from_residual.result c.from_residual.ensures.1 in
    rw (p.1 ∙ ap Err p.2) (not_valued g.K.Sink.seen c.args.group.now rest c.args.tail.now c.args.line is c.args.out.now c.args.size.now c.in_err-values.field-0.0 c.in_err-values.ensures.fault)

pub returns-in_err-orbits-clause-answers : goal.returns-in_err-orbits-clause-answers
returns-in_err-orbits-clause-answers g c = λ rest is.
    let p = err_from_is_err_and c.from_residual-in_err-orbits.result c.from_residual-in_err-orbits.ensures.1 in
    rw (p.1 ∙ ap Err p.2) (not_begun_over g.K.Sink.seen c.args.group.now rest c.args.tail.now c.args.line is c.args.out.now c.args.size.now c.in_ok-values.values c.in_ok-values.ensures.ok c.in_err-orbits.field-0.0 (λ e. c.in_err-orbits.ensures.not_kept.0 (ap Err e)))

pub returns-in_err-print_map-clause-answers : goal.returns-in_err-print_map-clause-answers
returns-in_err-print_map-clause-answers g c = λ rest is.
    let p = err_from_is_err_and c.from_residual-in_err-print_map.result c.from_residual-in_err-print_map.ensures.1 in
    let members = c.args.group.now in
    let size = c.in_ok-orbits.ensures.size in
    rw (p.1 ∙ ap Err p.2) (over_values g.K.Sink.seen members rest c.args.tail.now c.args.line is c.args.out.now c.args.size.now c.in_ok-values.values c.in_ok-values.ensures.ok (subst (IsKept members) size c.in_ok-orbits.ensures.walk.kept) c.in_ok-sums.sums c.in_ok-sums.ensures.sums c.print_map.new.sink (Err (fault_of_write c.in_err-print_map.field-0.0))
    (text_stopped g.K.Sink.seen (λ text t. t) c.args.out.now c.print_map.new.sink c.in_err-print_map.field-0.0 c.in_err-print_map.ensures.text))

pub returns-in_err-print_map-clause-counted : goal.returns-in_err-print_map-clause-counted
returns-in_err-print_map-clause-counted g c =
    let p = err_from_is_err_and c.from_residual-in_err-print_map.result c.from_residual-in_err-print_map.ensures.1 in
    rw (p.1 ∙ ap Err p.2) (stop_counted g.K.Sink.seen c.args.out.now c.print_map.new.sink c.in_err-print_map.field-0.0 c.in_err-print_map.ensures.text.counts)

pub returns-clause-answers : goal.returns-clause-answers
returns-clause-answers g c = λ rest is.
    let members = c.args.group.now in
    let size = c.in_ok-orbits.ensures.size in
    over_values g.K.Sink.seen members rest c.args.tail.now c.args.line is c.args.out.now c.args.size.now c.in_ok-values.values c.in_ok-values.ensures.ok (subst (IsKept members) size c.in_ok-orbits.ensures.walk.kept) c.in_ok-sums.sums c.in_ok-sums.ensures.sums c.print_map.new.sink (Ok tt) c.in_ok-print_map.ensures.text.ok

pub symmetrize-requires-clause-kept : goal.symmetrize-requires-clause-kept
symmetrize-requires-clause-kept g c = subst (IsKept c.args.group.now) c.in_ok-orbits.ensures.size c.in_ok-orbits.ensures.walk.kept

pub returns-clause-counted : goal.returns-clause-counted
returns-clause-counted g c = let counts = c.in_ok-print_map.ensures.text.counts in record { unfailed = λ _. counts.unfailed (λ e. absurd cc); unwanted = λ _. counts.unwanted (λ e. absurd cc) }
