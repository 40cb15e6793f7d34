use Rattle.std.proofs.Common.{sym, ◌∙◌}
use Rattle.std.proofs.lemmas.Bool.{eqb-true}
use Rattle.data_lines.proofs.Cuts.{no_field, last_field, next_field, some_left}
use Rattle.data_lines.proofs.fields.cut_field.Goals as goal

pub returns-then-is_empty : goal.returns-then-is_empty
returns-then-is_empty c = no_field c.args.text.now c.without_blanks_before-text.result.now c.without_blanks_before-text.ensures.text (eqb-true _ _ (sym c.is_empty.ensures ∙ c.if-is_empty.true))

pub returns-in-None : goal.returns-in-None
returns-in-None c = last_field c.args.text.now c.without_blanks_before-text.result.now c.without_blanks_before-text.ensures.text (some_left _ (sym c.is_empty.ensures ∙ c.if-is_empty.false)) (sym c.in-None.ensures)

pub returns-in-Some : goal.returns-in-Some
returns-in-Some c = next_field c.args.text.now c.without_blanks_before-text.result.now c.without_blanks_before-text.ensures.text (some_left _ (sym c.is_empty.ensures ∙ c.if-is_empty.false)) c.in-Some.at (sym c.in-Some.ensures)
