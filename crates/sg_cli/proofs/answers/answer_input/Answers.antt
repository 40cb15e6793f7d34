use Rattle.std.proofs.Common.{Err, ap, ◌∙◌}
use Rattle.std.proofs.lemmas.Result.{err_from_is_err_and}
use Rattle.sg_cli.specs.Words.{seen}
use Rattle.sg_cli.specs.Inputs.{input_for}
use Rattle.sg_cli.specs.Answer.{AnswerOver}
use Rattle.sg_cli.specs.Steps.{AreCut}
use Rattle.sg_cli.proofs.Outcomes.{not_listed, not_closed, answered}
use Rattle.sg_cli.proofs.answers.answer_input.Goals as goal

pub returns-in_err-list-clause-answers : goal.returns-in_err-list-clause-answers
returns-in_err-list-clause-answers g c =
    let cut : AreCut (input_for (seen c.args.command)) c.args.bytes.now c.cut_input-line.result.0.now c.cut_input-line.result.1.now c.cut_input-line.result.2 = rw c.input.ensures at c.cut_input-line.ensures.parts in
    let p = err_from_is_err_and c.from_residual.result c.from_residual.ensures.1 in
    rw (p.1 ∙ ap Err p.2) (not_listed g.K.Sink.seen _ c.args.bytes.now _ _ _ cut (AnswerOver (seen c.args.command)) c.args.out.now c.in_err-list.field-0.0 c.in_err-list.ensures.fault)

pub returns-in_err-group-clause-answers : goal.returns-in_err-group-clause-answers
returns-in_err-group-clause-answers g c =
    let cut : AreCut (input_for (seen c.args.command)) c.args.bytes.now c.cut_input-line.result.0.now c.cut_input-line.result.1.now c.cut_input-line.result.2 = rw c.input.ensures at c.cut_input-line.ensures.parts in
    let p = err_from_is_err_and c.from_residual-in_err-group.result c.from_residual-in_err-group.ensures.1 in
    rw (p.1 ∙ ap Err p.2) (not_closed g.K.Sink.seen _ c.args.bytes.now _ _ _ cut (AnswerOver (seen c.args.command)) c.args.out.now c.in_ok-list.list c.in_ok-list.ensures.ok c.in_err-group.field-0.0 (λ e. c.in_err-group.ensures.unclosed (ap Err e)))

pub returns-clause-answers : goal.returns-clause-answers
returns-clause-answers g c =
    let cut : AreCut (input_for (seen c.args.command)) c.args.bytes.now c.cut_input-line.result.0.now c.cut_input-line.result.1.now c.cut_input-line.result.2 = rw c.input.ensures at c.cut_input-line.ensures.parts in
    answered g.K.Sink.seen _ c.args.bytes.now _ _ _ cut (AnswerOver (seen c.args.command)) c.args.out.now c.in_ok-list.list c.in_ok-list.ensures.ok c.in_ok-group.group c.in_ok-group.ensures.closes c.in_ok-group.ensures.ok c.answer_over.new.out c.answer_over.result c.answer_over.ensures.answers
