use Rattle.std.proofs.Common.{Ok, Err, ap, ◌∙◌}
use Rattle.std.proofs.lemmas.Result.{err_from_is_err_and}
use Rattle.sg_cli.specs.Fault.{fault_of_write}
use Rattle.sg_cli.proofs.Outcomes.{not_sites, over_sites, text_stopped}
use Rattle.sg_cli.proofs.answers.sites.answer_atoms.Goals as goal

pub returns-in_err-atoms-clause-answers : goal.returns-in_err-atoms-clause-answers
returns-in_err-atoms-clause-answers g c = λ rest is.
    let p = err_from_is_err_and c.from_residual.result c.from_residual.ensures.1 in
    rw (p.1 ∙ ap Err p.2) (not_sites g.K.Sink.seen c.args.group.now rest c.args.tail.now c.args.line is c.args.out.now c.in_err-atoms.field-0.0 c.in_err-atoms.ensures.fault)

pub returns-in_err-print_atoms-clause-answers : goal.returns-in_err-print_atoms-clause-answers
returns-in_err-print_atoms-clause-answers g c = λ rest is.
    let p = err_from_is_err_and c.from_residual-in_err-print_atoms.result c.from_residual-in_err-print_atoms.ensures.1 in
    let atoms = c.in_ok-atoms.ensures in
    rw (p.1 ∙ ap Err p.2) (over_sites g.K.Sink.seen c.args.group.now rest c.args.tail.now c.args.line is c.args.out.now c.in_ok-atoms.atoms atoms.ok atoms.within (λ text t. record { entries = c.in_ok-expansion.expansion; expansion = c.in_ok-expansion.ensures; is_text = t })
    c.print_atoms.new.sink (Err (fault_of_write c.in_err-print_atoms.field-0.0)) (text_stopped g.K.Sink.seen (λ text t. t) c.args.out.now c.print_atoms.new.sink c.in_err-print_atoms.field-0.0 c.in_err-print_atoms.ensures))

pub returns-clause-answers : goal.returns-clause-answers
returns-clause-answers g c = λ rest is.
    let atoms = c.in_ok-atoms.ensures in
    over_sites g.K.Sink.seen c.args.group.now rest c.args.tail.now c.args.line is c.args.out.now c.in_ok-atoms.atoms atoms.ok atoms.within (λ text t. record { entries = c.in_ok-expansion.expansion; expansion = c.in_ok-expansion.ensures; is_text = t }) c.print_atoms.new.sink (Ok tt) c.in_ok-print_atoms.ensures.ok
