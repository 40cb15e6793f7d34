use Rattle.std.proofs.Common.{◌≡◌, pos, refl, rules, w32, FitsSigned, to_z, of_z, ap, sym, ◌∙◌}
use Rattle.std.proofs.lemmas.Bool.{false≢true}
use Rattle.std.proofs.lemmas.Int.{to_z-of_z}
use Rattle.refl_merge.proofs.Runs.{value_there, zeros_more, no_value}
use Rattle.refl_merge.proofs.merging.has_value.Goals as goal

pub returns-then-entry-ne0 : goal.returns-then-entry-ne0
returns-then-entry-ne0 c = ((λ _. value_there c.args.run.now c.loop-entry.entry-index c.entry-item.result c.loop-entry-test.true c.entry-item.is (λ e. c.if-entry-ne0.true (ap (of_z w32) e))), (λ _. refl))

pub loop-entry-preserved : goal.loop-entry-preserved
loop-entry-preserved c =
    let v = c.entry-item.result.line.value in
    let fits : FitsSigned w32 v = search rules in
    let zero : v ≡ pos 0 = sym (to_z-of_z w32 v fits) ∙ ap (to_z w32) c.if-entry-ne0.false in
    zeros_more c.args.run.now c.loop-entry.entry-index c.entry-item.result c.loop-entry-test.true c.entry-item.is c.loop-entry.invariant zero

pub returns : goal.returns
returns c = ((λ t. absurd (false≢true t)), (λ v. absurd (no_value c.args.run.now c.loop-entry.entry-index c.loop-entry-test.false c.loop-entry.invariant v)))
