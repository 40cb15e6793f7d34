use Rattle.std.proofs.Common.{Err, ap, sym, ◌∙◌, refl, inl}
use Rattle.std.proofs.lemmas.Result.{err_from_is_err_and}
use Rattle.sg_cli.specs.Words.{texts, seen}
use Rattle.sg_cli.specs.Inputs.{input_for, no_data}
use Rattle.sg_cli.proofs.Outcomes.{no_text}
use Rattle.sg_cli.proofs.Serving.{not_made, reads_something, not_read, served, words_of_input, served_made, words_of_made, unread_made}
use Rattle.sg_cli.proofs.call.serve.Goals as goal

pub returns-in_err-bytes-clause-served : goal.returns-in_err-bytes-clause-served
returns-in_err-bytes-clause-served g c =
    let p = err_from_is_err_and c.from_residual-in_err-bytes.result c.from_residual-in_err-bytes.ensures.1 in
    let taken = c.in_err-bytes.ensures.too_long in
    rw (p.1 ∙ ap Err p.2) (not_read g.K.Sink.seen g.S.Source.seen (texts c.args.words.now) _ _ _ _ (seen c.in-Some.command) c.in-Some.ensures.some (not_made (input_for (seen c.in-Some.command)) (λ seed e. c.in_default-input.not-Made seed (c.input-input.ensures ∙ e))) c.in_err-bytes.field-0.0 (λ e. c.in_err-bytes.ensures.failed (ap Err e)) (taken.0, taken.1, λ e. taken.2.1.0 (ap Err e)) refl)

pub returns-clause-words : goal.returns-clause-words
returns-clause-words g c = words_of_input g.K.Sink.seen g.S.Source.seen (texts c.args.words.now) c.args.source.now c.read_all.new.src c.args.out.now c.answer_input.new.out (seen c.in-Some.command) c.in-Some.ensures.some (not_made (input_for (seen c.in-Some.command)) (λ seed e. c.in_default-input.not-Made seed (c.input-input.ensures ∙ e))) c.in_ok-bytes.bytes.items c.answer_input.result (rw c.deref.ensures.value at c.answer_input.ensures.answers)

pub returns-clause-served : goal.returns-clause-served
returns-clause-served g c =
    served g.K.Sink.seen g.S.Source.seen (texts c.args.words.now) c.args.source.now c.read_all.new.src c.args.out.now c.answer_input.new.out (seen c.in-Some.command) c.in-Some.ensures.some (not_made (input_for (seen c.in-Some.command)) (λ seed e. c.in_default-input.not-Made seed (c.input-input.ensures ∙ e))) c.in_ok-bytes.bytes.items c.answer_input.result (rw c.deref.ensures.value at c.answer_input.ensures.answers)
    c.in_ok-bytes.ensures.bytes c.in_ok-bytes.ensures.end c.in_ok-bytes.ensures.within

pub returns-clause-unread : goal.returns-clause-unread
returns-clause-unread g c = λ r. absurd (reads_something (texts c.args.words.now) (seen c.in-Some.command) c.in-Some.ensures.some (not_made (input_for (seen c.in-Some.command)) (λ seed e. c.in_default-input.not-Made seed (c.input-input.ensures ∙ e))) r)

pub returns-in_err-bytes-clause-unread : goal.returns-in_err-bytes-clause-unread
returns-in_err-bytes-clause-unread g c = λ r. absurd (reads_something (texts c.args.words.now) (seen c.in-Some.command) c.in-Some.ensures.some (not_made (input_for (seen c.in-Some.command)) (λ seed e. c.in_default-input.not-Made seed (c.input-input.ensures ∙ e))) r)

pub returns-in-Made-clause-served : goal.returns-in-Made-clause-served
returns-in-Made-clause-served g c =
    served_made g.K.Sink.seen g.S.Source.seen (texts c.args.words.now) c.args.source.now c.args.source.now c.args.out.now c.answer_over.new.out (seen c.in-Some.command) c.in-Some.ensures.some c.in-Made.seed (sym c.input-input.ensures ∙ c.in-Made.is) c.in_ok-group.group (rw c.number_of.ensures.value at c.in_ok-group.ensures) c.answer_over.result (c.answer_over.ensures.answers no_data no_text)

pub returns-in-Made-clause-words : goal.returns-in-Made-clause-words
returns-in-Made-clause-words g c =
    words_of_made g.K.Sink.seen g.S.Source.seen (texts c.args.words.now) c.args.source.now c.args.source.now c.args.out.now c.answer_over.new.out (seen c.in-Some.command) c.in-Some.ensures.some c.in-Made.seed (sym c.input-input.ensures ∙ c.in-Made.is) c.in_ok-group.group (rw c.number_of.ensures.value at c.in_ok-group.ensures) c.answer_over.result (c.answer_over.ensures.answers no_data no_text)

pub returns-in-Made-clause-unread : goal.returns-in-Made-clause-unread
returns-in-Made-clause-unread g c = λ r.
    (unread_made g.K.Sink.seen g.S.Source.seen (texts c.args.words.now) c.args.source.now c.args.source.now c.args.out.now c.answer_over.new.out (seen c.in-Some.command) c.in-Some.ensures.some c.in-Made.seed (sym c.input-input.ensures ∙ c.in-Made.is) c.in_ok-group.group (rw c.number_of.ensures.value at c.in_ok-group.ensures) c.answer_over.result (c.answer_over.ensures.answers no_data no_text), refl)

pub returns-in_err-group-clause-served : goal.returns-in_err-group-clause-served
returns-in_err-group-clause-served g c =
    let p = err_from_is_err_and c.from_residual.result c.from_residual.ensures.1 in
    rw (p.1 ∙ ap Err p.2) (inl refl)
