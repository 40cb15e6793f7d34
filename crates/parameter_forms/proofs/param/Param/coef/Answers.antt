use Rattle.std.proofs.Common.{◌≡◌, ◌≤◌, ◌≤ℤ◌, ℕ, ℤ, arith, pos, ◌*ℤ◌, ap, ap₂, subst, ◌∙◌, get_or, w32}
use Rattle.std.proofs.lemmas.Int.{ints}
use Rattle.lattice_algebra.proofs.Machine.{back, kept}
use Rattle.exact_ops.specs.Fields.{matrix_in}
use Rattle.parameter_forms.specs.declared.TheConstants.{MAX_MINOR, MAX_OVER}
use Rattle.parameter_forms.specs.Forms.{entry}
use Rattle.parameter_forms.proofs.Reading.{entry_within}
use Rattle.parameter_forms.proofs.Scaling.{scaled_entry}
use Rattle.parameter_forms.proofs.param.Param.coef.Goals as goal

at_most : (q : ℤ) (e n : ℕ) → e ≤ n → q ≤ℤ pos e → q ≤ℤ pos n
at_most q e n l h = omega (arith, ints, l, h)

pub returns-clause-value : goal.returns-clause-value
returns-clause-value c =
    let i = c.args.i in
    let j = c.args.j in
    let b = matrix_in c.self.inside.b in
    let found : get_or c.rows-rows.result c.from.result (pos 0) ≡ entry b i j = ap₂ (λ l k. get_or l k (pos 0)) c.rows-rows.ensures c.from.ensures in
    subst (λ f. c.lowest_terms.result.0 *ℤ pos f.over ≡ entry f.b i j *ℤ c.lowest_terms.result.1) c.self.view_is
    (c.lowest_terms.ensures.value ∙ ap (λ v. back w32 v *ℤ c.lowest_terms.result.1) found
    ∙ ap (λ v. v *ℤ c.lowest_terms.result.1) (kept w32 MAX_OVER (entry b i j) (entry_within MAX_OVER b i j c.requires.row c.requires.column c.self.invariant.entries) tt))

pub returns-clause-small : goal.returns-clause-small
returns-clause-small c =
    let i = c.args.i in
    let j = c.args.j in
    let b = matrix_in c.self.inside.b in
    let h = c.self.invariant.multiple in
    let found : get_or c.rows-rows.result c.from.result (pos 0) ≡ entry b i j = ap₂ (λ l k. get_or l k (pos 0)) c.rows-rows.ensures c.from.ensures in
    let passed = ap (back w32) found ∙ kept w32 MAX_OVER (entry b i j) (entry_within MAX_OVER b i j c.requires.row c.requires.column c.self.invariant.entries) tt in
    let entries = passed ∙ ap (λ m. entry m i j) h.entries ∙ scaled_entry (pos h.number) h.matrix i j c.requires.row c.requires.column in
    at_most c.lowest_terms.result.1 h.over MAX_MINOR h.small (c.lowest_terms.ensures.small h.number h.over (entry h.matrix i j) h.some entries h.product)
