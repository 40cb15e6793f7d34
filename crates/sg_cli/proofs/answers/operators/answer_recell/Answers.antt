use Rattle.std.proofs.Common.{Ok, Err, ap, ◌∙◌}
use Rattle.std.proofs.lemmas.Result.{err_from_is_err_and}
use Rattle.sg_cli.specs.Fault.{fault_of_write}
use Rattle.sg_cli.proofs.Outcomes.{not_recelled, over_cell, stop_counted, text_stopped}
use Rattle.sg_cli.proofs.answers.operators.answer_recell.Goals as goal

pub returns-in_err-changed-clause-answers : goal.returns-in_err-changed-clause-answers
returns-in_err-changed-clause-answers g c =
    let p = err_from_is_err_and c.from_residual.result c.from_residual.ensures.1 in
    rw (p.1 ∙ ap Err p.2) (not_recelled g.K.Sink.seen c.args.group.now c.args.c.now c.args.out.now c.in_err-changed.field-0.0 c.in_err-changed.ensures.refused)

pub returns-in_err-print_ops-clause-answers : goal.returns-in_err-print_ops-clause-answers
returns-in_err-print_ops-clause-answers g c =
    let p = err_from_is_err_and c.from_residual-in_err-print_ops.result c.from_residual-in_err-print_ops.ensures.1 in
    let changed = c.in_ok-changed.ensures in
    rw (p.1 ∙ ap Err p.2) (over_cell g.K.Sink.seen c.args.group.now c.args.c.now c.args.out.now c.in_ok-changed.ensures.ok c.in_ok-changed.ensures.few (λ text t. record { changed = c.in_ok-changed.changed; group = changed.members; is_changed = changed.group; is_text = t }) c.print_ops.new.sink (Err (fault_of_write c.in_err-print_ops.field-0.0))
    (text_stopped g.K.Sink.seen (λ text t. t) c.args.out.now c.print_ops.new.sink c.in_err-print_ops.field-0.0 c.in_err-print_ops.ensures))

pub returns-in_err-print_ops-clause-counted : goal.returns-in_err-print_ops-clause-counted
returns-in_err-print_ops-clause-counted g c =
    let p = err_from_is_err_and c.from_residual-in_err-print_ops.result c.from_residual-in_err-print_ops.ensures.1 in
    rw (p.1 ∙ ap Err p.2) (stop_counted g.K.Sink.seen c.args.out.now c.print_ops.new.sink c.in_err-print_ops.field-0.0 c.in_err-print_ops.ensures.counts)

pub returns-clause-answers : goal.returns-clause-answers
returns-clause-answers g c =
    let changed = c.in_ok-changed.ensures in
    over_cell g.K.Sink.seen c.args.group.now c.args.c.now c.args.out.now c.in_ok-changed.ensures.ok c.in_ok-changed.ensures.few (λ text t. record { changed = c.in_ok-changed.changed; group = changed.members; is_changed = changed.group; is_text = t }) c.print_ops.new.sink (Ok tt) c.in_ok-print_ops.ensures.ok
