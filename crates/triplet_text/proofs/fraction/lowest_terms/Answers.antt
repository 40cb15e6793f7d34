use Rattle.std.proofs.Common.{sym, ap, subst, List, length, ◌≤◌, ◌/◌, ◌∙◌, ℕ, ◌+◌, arith}
use Rattle.triplet_text.specs.Fractions.{quotient_text}
use Rattle.triplet_text.proofs.LowestTerms.{positive, gcd_is, fraction_short}
use Rattle.triplet_text.proofs.fraction.lowest_terms.Goals as goal

pub nonzero_div-n : goal.nonzero_div-n
nonzero_div-n c = positive c.args.n c.args.d c.greatest_common_divisor-g.result c.requires c.greatest_common_divisor-g.ensures

pub nonzero_div-d : goal.nonzero_div-d
nonzero_div-d c = positive c.args.n c.args.d c.greatest_common_divisor-g.result c.requires c.greatest_common_divisor-g.ensures

pub returns-clause-text : goal.returns-clause-text
returns-clause-text c =
    c.quotient.ensures.text ∙ ap (λ (g : ℕ). quotient_text (c.args.n / g) (c.args.d / g)) (sym (gcd_is c.args.n c.args.d c.greatest_common_divisor-g.result c.requires c.greatest_common_divisor-g.ensures))

pub returns-clause-small : goal.returns-clause-small
returns-clause-small c = λ k l pk pl n d. subst (λ (t : List ℕ). length t ≤ k + 1 + l) (sym (returns-clause-text c)) (fraction_short k l c.args.n c.args.d pk pl (n, omega arith) (d, omega arith))
