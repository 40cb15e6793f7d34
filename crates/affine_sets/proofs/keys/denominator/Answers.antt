use Rattle.std.proofs.Common.{◌≡◌, ◌/◌, ◌≤◌, ◌<◌, ◌*ℤ◌, ℤ, pos, sym, ◌∙◌, subst, le_trans}
use Rattle.std.proofs.Math.Nat.{div-le_self}
use Rattle.std.specs.Int.{IsGcd}
use Rattle.group_closure.specs.declared.TheConstants.{MAX_OPERATORS}
use Rattle.affine_sets.proofs.ColumnSizes.{IsCommon, common, whole_entry, some_size}
use Rattle.affine_sets.proofs.KeySizes.{passed_size, fits_small}
use Rattle.affine_sets.proofs.keys.denominator.Goals as goal
use Rattle.affine_sets.proofs.keys.denominator.Goals.{After-greatest_common_divisor-d-3}

made : (c : After-greatest_common_divisor-d-3) → IsCommon c.args.a c.args.b c.args.c c.args.over c.greatest_common_divisor-d-3.result
made c =
    let a = c.from.ensures ∙ c.unsigned_abs.ensures.value ∙ passed_size c.args.a c.ranges.a in
    let b = c.from-2.ensures ∙ c.unsigned_abs-2.ensures.value ∙ passed_size c.args.b c.ranges.b in
    let d = c.from-3.ensures ∙ c.unsigned_abs-3.ensures.value ∙ passed_size c.args.c c.ranges.c in
    let x = subst (λ v. IsGcd v c.args.over c.greatest_common_divisor-d.result) a (subst (λ v. IsGcd c.from.result v c.greatest_common_divisor-d.result) c.from-over.ensures c.greatest_common_divisor-d.ensures) in
    let y = subst (λ v. IsGcd v c.greatest_common_divisor-d.result c.greatest_common_divisor-d-2.result) b c.greatest_common_divisor-d-2.ensures in
    let z = subst (λ v. IsGcd v c.greatest_common_divisor-d-2.result c.greatest_common_divisor-d-3.result) d c.greatest_common_divisor-d-3.ensures in
    common c.args.a c.args.b c.args.c c.args.over c.greatest_common_divisor-d.result c.greatest_common_divisor-d-2.result c.greatest_common_divisor-d-3.result c.requires.some x y z

pub nonzero_div-result : goal.nonzero_div-result
nonzero_div-result c = (made c).some

pub overflow_cast-result : goal.overflow_cast-result
overflow_cast-result c = fits_small _ (le_trans (div-le_self c.from-over.result c.greatest_common_divisor-d-3.result) (subst (λ v. v ≤ MAX_OPERATORS) (sym c.from-over.ensures) c.requires.within))

pub returns-clause-some : goal.returns-clause-some
returns-clause-some c = subst (λ v. 0 < v / c.greatest_common_divisor-d-3.result) (sym c.from-over.ensures) (some_size c.args.over c.greatest_common_divisor-d-3.result c.requires.some (made c).whole)

pub returns-clause-within : goal.returns-clause-within
returns-clause-within c = le_trans (div-le_self c.from-over.result c.greatest_common_divisor-d-3.result) (subst (λ v. v ≤ MAX_OPERATORS) (sym c.from-over.ensures) c.requires.within)

pub returns-clause-first : goal.returns-clause-first
returns-clause-first c = subst (λ v. (k : ℤ) × (c.args.a *ℤ pos (v / c.greatest_common_divisor-d-3.result) ≡ pos c.args.over *ℤ k)) (sym c.from-over.ensures) (whole_entry c.args.a c.args.over c.greatest_common_divisor-d-3.result (made c).whole (made c).first)

pub returns-clause-second : goal.returns-clause-second
returns-clause-second c = subst (λ v. (k : ℤ) × (c.args.b *ℤ pos (v / c.greatest_common_divisor-d-3.result) ≡ pos c.args.over *ℤ k)) (sym c.from-over.ensures) (whole_entry c.args.b c.args.over c.greatest_common_divisor-d-3.result (made c).whole (made c).second)

pub returns-clause-third : goal.returns-clause-third
returns-clause-third c = subst (λ v. (k : ℤ) × (c.args.c *ℤ pos (v / c.greatest_common_divisor-d-3.result) ≡ pos c.args.over *ℤ k)) (sym c.from-over.ensures) (whole_entry c.args.c c.args.over c.greatest_common_divisor-d-3.result (made c).whole (made c).third)
