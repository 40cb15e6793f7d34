use Rattle.std.proofs.Common.{◌<◌, ◌^◌, pos, ◌<ℤ◌, unsigned_abs, subst, sym, ap, ◌∙◌, arith, w64, to_z-of_z}
use Rattle.std.specs.Int.{IsGcd}
use Rattle.std.proofs.lemmas.Int.{to_z_pos, fits_signed_from_abs}
use Rattle.lattice_algebra.proofs.Numbers.{above}
use Rattle.parameter_forms.proofs.LowestTerms.{small_divisor}
use Rattle.parameter_forms.proofs.param.common_divisor.Goals as goal

divides : (c : goal.After-greatest_common_divisor) → IsGcd (unsigned_abs c.args.n) c.args.d c.greatest_common_divisor.result
divides c =
    let n = c.from.ensures ∙ c.unsigned_abs.ensures.value ∙ ap unsigned_abs (to_z-of_z c.ranges.n) in
    subst (λ v. IsGcd v c.args.d c.greatest_common_divisor.result) n (subst (λ v. IsGcd c.from.result v c.greatest_common_divisor.result) c.from-2.ensures c.greatest_common_divisor.ensures)

small : (c : goal.After-greatest_common_divisor) → (0 < c.greatest_common_divisor.result) × (c.greatest_common_divisor.result < 2 ^ 63)
small c = small_divisor (unsigned_abs c.args.n) c.args.d c.greatest_common_divisor.result c.requires (let f = c.ranges.d in omega (arith, f)) (divides c)

pub overflow_cast-result : goal.overflow_cast-result
overflow_cast-result c = fits_signed_from_abs w64 (pos c.greatest_common_divisor.result) (small c).1

pub returns-clause-positive : goal.returns-clause-positive
returns-clause-positive c = subst (λ g. pos 0 <ℤ g) (sym (to_z_pos w64 c.greatest_common_divisor.result (small c).1)) (above c.greatest_common_divisor.result (small c).0)

pub returns-clause-divisor : goal.returns-clause-divisor
returns-clause-divisor c = subst (λ g. IsGcd (unsigned_abs c.args.n) c.args.d (unsigned_abs g)) (sym (to_z_pos w64 c.greatest_common_divisor.result (small c).1)) (divides c)
