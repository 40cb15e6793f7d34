use Rattle.std.proofs.Common.{Ok, Err, ap, ◌∙◌}
use Rattle.std.proofs.lemmas.Result.{err_from_is_err_and}
use Rattle.sg_cli.specs.Fault.{fault_of_write}
use Rattle.sg_cli.proofs.Outcomes.{not_measured, over_measured, text_stopped}
use Rattle.sg_cli.proofs.answers.indices.answer_merge.Goals as goal

pub returns-in_err-list-clause-answers : goal.returns-in_err-list-clause-answers
returns-in_err-list-clause-answers g c = λ rest is.
    let p = err_from_is_err_and c.from_residual.result c.from_residual.ensures.1 in
    rw (p.1 ∙ ap Err p.2) (not_measured g.K.Sink.seen c.args.group.now rest c.args.tail.now c.args.line is c.args.out.now c.args.pairs c.in_err-list.field-0.0 c.in_err-list.ensures.fault)

pub returns-in_err-print_merged-clause-answers : goal.returns-in_err-print_merged-clause-answers
returns-in_err-print_merged-clause-answers g c = λ rest is.
    let p = err_from_is_err_and c.from_residual-in_err-print_merged.result c.from_residual-in_err-print_merged.ensures.1 in
    rw (p.1 ∙ ap Err p.2) (over_measured g.K.Sink.seen c.args.group.now rest c.args.tail.now c.args.line is c.args.out.now c.args.pairs c.in_ok-list.list c.in_ok-list.ensures.ok (λ text t. record { merged = c.in_ok-merged.merged; is_list = c.in_ok-merged.ensures; whole = t })
    c.print_merged.new.sink (Err (fault_of_write c.in_err-print_merged.field-0.0)) (text_stopped g.K.Sink.seen (λ text t. t) c.args.out.now c.print_merged.new.sink c.in_err-print_merged.field-0.0 c.in_err-print_merged.ensures))

pub returns-clause-answers : goal.returns-clause-answers
returns-clause-answers g c = λ rest is.
    over_measured g.K.Sink.seen c.args.group.now rest c.args.tail.now c.args.line is c.args.out.now c.args.pairs c.in_ok-list.list c.in_ok-list.ensures.ok (λ text t. record { merged = c.in_ok-merged.merged; is_list = c.in_ok-merged.ensures; whole = t }) c.print_merged.new.sink (Ok tt) c.in_ok-print_merged.ensures.ok
