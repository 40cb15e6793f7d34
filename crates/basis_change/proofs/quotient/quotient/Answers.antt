use Rattle.std.proofs.Common.{◌≡◌, ◌≤◌, ℤ, pos, ◌*ℤ◌, unsigned_abs, int_div, int_rem, ap, ap₂, sym, subst, refl, ◌∙◌, w64, FitsSigned, to_z, of_z, to_z-of_z, rules, le_trans}
use Rattle.std.proofs.lemmas.Bool.{false≢true}
use Rattle.std.proofs.lemmas.Int.{quot_fits, quot_is, rem_is}
use Rattle.std.proofs.Math.Nat.{le-mul_of_pos_right}
use lib.IntN.{*ℤ_comm}
use Rattle.lattice_algebra.proofs.Machine.{back}
use Rattle.lattice_algebra.proofs.Numbers.{positive_size}
use Rattle.lattice_algebra.proofs.Quotients.{rem_of_multiple, multiple_of_quotient, quotient_within}
use Rattle.basis_change.proofs.Frames.{BOUND}
use Rattle.basis_change.proofs.quotient.quotient.Goals as goal

-- the machine's remainder, as bits
bits_of_none : (n d : ℤ) → FitsSigned w64 n → FitsSigned w64 d → int_rem n d ≡ pos 0 → of_z w64 (int_rem (back w64 n) (back w64 d)) ≡ 0
bits_of_none n d f g z = ap (of_z w64) (ap₂ int_rem (to_z-of_z f) (to_z-of_z g) ∙ z)

none_of_bits : (n d : ℤ) → FitsSigned w64 n → FitsSigned w64 d → of_z w64 (int_rem (back w64 n) (back w64 d)) ≡ 0 → int_rem n d ≡ pos 0
none_of_bits n d f g z = sym (rem_is w64 n d f g) ∙ ap (to_z w64) z

abbrev whole : goal.Else-n-k-ne0 → Type 0
whole c = c.args.n ≡ int_div c.args.n c.args.k *ℤ c.args.k

is_whole : (c : goal.Else-n-k-ne0) → whole c
is_whole c = multiple_of_quotient c.args.n c.args.k (none_of_bits c.args.n c.args.k c.ranges.n c.ranges.k c.if-n-k-ne0.false)

small : (c : goal.Else-n-k-ne0) → unsigned_abs (int_div c.args.n c.args.k) ≤ BOUND
small c =
    quotient_within c.args.n c.args.k (int_div c.args.n c.args.k) BOUND (positive_size c.args.k c.requires.positive) (is_whole c)
    (le_trans c.requires.small (le-mul_of_pos_right BOUND (positive_size c.args.k c.requires.positive)))

computed_quotient : (c : goal.Else-n-k-ne0) → back w64 (int_div (back w64 c.args.n) (back w64 c.args.k)) ≡ int_div c.args.n c.args.k
computed_quotient c = quot_is w64 c.args.n c.args.k c.ranges.n c.ranges.k (quot_fits w64 c.args.n c.args.k c.ranges.n c.requires.positive)

pub nonzero_rem-n : goal.nonzero_rem-n
nonzero_rem-n c = search rules

pub nonzero_div-result : goal.nonzero_div-result
nonzero_div-result c = search rules

pub returns-then-n-k-ne0-clause-some : goal.returns-then-n-k-ne0-clause-some
returns-then-n-k-ne0-clause-some c = (
  (λ t. absurd (false≢true t)),
  (λ q. absurd (c.if-n-k-ne0.true (bits_of_none c.args.n c.args.k c.ranges.n c.ranges.k (rem_of_multiple c.args.n c.args.k q.0 (positive_size c.args.k c.requires.positive) (sym q.1 ∙ *ℤ_comm c.args.k q.0))))),
)

pub returns-clause-some : goal.returns-clause-some
returns-clause-some c = ((λ t. (int_div c.args.n c.args.k, *ℤ_comm c.args.k (int_div c.args.n c.args.k) ∙ sym (is_whole c))), (λ q. refl))

pub returns-clause-value : goal.returns-clause-value
returns-clause-value c = ap (λ q. c.args.k *ℤ q) (computed_quotient c) ∙ *ℤ_comm c.args.k (int_div c.args.n c.args.k) ∙ sym (is_whole c)

pub returns-clause-size : goal.returns-clause-size
returns-clause-size c = subst (λ q. unsigned_abs q ≤ BOUND) (sym (computed_quotient c)) (small c)
