use Rattle.std.proofs.Common.{◌≡◌, ◌<◌, ℤ, pos, ◌*ℤ◌, ◌<ℤ◌, ◌≤ℤ◌, unsigned_abs, int_div, subst, sym, ap, ap₂, ◌∙◌, arith, w64, FitsSigned, of_z, to_z-of_z}
use Rattle.std.specs.Int.{IsGcd}
use Rattle.std.proofs.lemmas.Int.{ints, quot_is, quot_fits}
use Rattle.lattice_algebra.proofs.Machine.{back}
use Rattle.lattice_algebra.proofs.Numbers.{above}
use Rattle.parameter_forms.proofs.LowestTerms as lowest
use Rattle.parameter_forms.proofs.param.lowest_terms.Goals as goal

divided : (x g : ℤ) → FitsSigned w64 x → FitsSigned w64 g → pos 0 <ℤ g → (0 < of_z w64 g) × FitsSigned w64 (int_div (back w64 x) (back w64 g))
divided x g f h some = (omega (arith, ints, some), subst (FitsSigned w64) (sym (ap₂ int_div (to_z-of_z f) (to_z-of_z h))) (quot_fits w64 x g f some))

module _ (c : goal.After-from-2) where
  abbrev g : ℤ
  g = c.common_divisor-common.result

  g_fits : FitsSigned w64 g
  g_fits = let t = c.common_divisor-common.type_inv in omega (arith, ints, t)

  quotient : (x : ℤ) → FitsSigned w64 x → back w64 (int_div (back w64 x) (back w64 g)) ≡ int_div x g
  quotient x f = quot_is w64 x g f g_fits (quot_fits w64 x g f c.common_divisor-common.ensures.positive)

  first : back w64 (int_div (back w64 c.from.result) (back w64 g)) ≡ int_div c.args.n g
  first = quotient c.from.result (let t = c.from.type_inv in omega (arith, ints, t)) ∙ ap (λ x. int_div x g) (c.from.ensures ∙ to_z-of_z c.ranges.n)

  second : back w64 (int_div (back w64 c.from-2.result) (back w64 g)) ≡ int_div (pos c.args.d) g
  second = quotient c.from-2.result (let t = c.from-2.type_inv in omega (arith, ints, t)) ∙ ap (λ x. int_div x g) c.from-2.ensures

  divisor : IsGcd (unsigned_abs c.args.n) c.args.d (unsigned_abs g)
  divisor = subst (λ n. IsGcd (unsigned_abs n) c.args.d (unsigned_abs g)) (to_z-of_z c.ranges.n) c.common_divisor-common.ensures.divisor

  some : pos 0 <ℤ pos c.args.d
  some = above c.args.d c.requires

pub nonzero_div-result : goal.nonzero_div-result
nonzero_div-result c = divided c.from.result c.common_divisor-common.result (let t = c.from.type_inv in omega (arith, ints, t)) (let t = c.common_divisor-common.type_inv in omega (arith, ints, t)) c.common_divisor-common.ensures.positive

pub nonzero_div-result-2 : goal.nonzero_div-result-2
nonzero_div-result-2 c = divided c.from-2.result c.common_divisor-common.result (let t = c.from-2.type_inv in omega (arith, ints, t)) (let t = c.common_divisor-common.type_inv in omega (arith, ints, t)) c.common_divisor-common.ensures.positive

pub returns-clause-value : goal.returns-clause-value
returns-clause-value c = ap (λ p. p *ℤ pos c.args.d) (first c) ∙ lowest.same_value c.args.n (pos c.args.d) (g c) (some c) c.common_divisor-common.ensures.positive (divisor c) ∙ ap (λ q. c.args.n *ℤ q) (sym (second c))

pub returns-clause-positive : goal.returns-clause-positive
returns-clause-positive c = subst (λ q. pos 0 <ℤ q) (sym (second c)) (lowest.is_positive c.args.n (pos c.args.d) (g c) (some c) c.common_divisor-common.ensures.positive (divisor c))

pub returns-clause-reduced : goal.returns-clause-reduced
returns-clause-reduced c =
    subst (λ p. IsGcd (unsigned_abs p) (unsigned_abs (back w64 (int_div (back w64 c.from-2.result) (back w64 (g c))))) 1) (sym (first c)) (subst (λ q. IsGcd (unsigned_abs (int_div c.args.n (g c))) (unsigned_abs q) 1) (sym (second c))
    (lowest.in_lowest_terms c.args.n (pos c.args.d) (g c) (some c) c.common_divisor-common.ensures.positive (divisor c)))

pub returns-clause-small : goal.returns-clause-small
returns-clause-small c = λ k e m k_some en ed.
    subst (λ q. q ≤ℤ pos e) (sym (second c)) (lowest.is_small c.args.n (pos c.args.d) (g c) (some c) c.common_divisor-common.ensures.positive (divisor c) k e m k_some en (ap pos ed))
