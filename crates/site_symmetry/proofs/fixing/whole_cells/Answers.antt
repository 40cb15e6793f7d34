use Rattle.std.proofs.Common.{◌≡◌, ◌+◌, ◌*◌, ◌≤◌, ℤ, pos, ◌*ℤ◌, unsigned_abs, int_div, int_rem, ap, ap₂, sym, subst, refl, ◌∙◌, w64, FitsSigned, to_z, of_z, to_z-of_z, arith}
use Rattle.std.proofs.lemmas.Bool.{false≢true}
use Rattle.std.proofs.lemmas.Int.{ints, quot_fits, quot_is, rem_is}
use mir.Syntax.{w128}
use Rattle.lattice_algebra.proofs.Machine.{back, kept}
use Rattle.exact_ops.specs.declared.TheConstants.{MAX_COORDINATE}
use Rattle.lattice_algebra.proofs.Numbers.{positive_size}
use Rattle.lattice_algebra.proofs.Quotients.{rem_of_multiple, multiple_of_quotient, quotient_within}
use Rattle.site_symmetry.proofs.fixing.whole_cells.Goals as goal

-- the machine's remainder, as bits
bits_of_none : (n d : ℤ) → FitsSigned w128 n → FitsSigned w128 d → int_rem n d ≡ pos 0 → of_z w128 (int_rem (back w128 n) (back w128 d)) ≡ 0
bits_of_none n d f g z = ap (of_z w128) (ap₂ int_rem (to_z-of_z f) (to_z-of_z g) ∙ z)

none_of_bits : (n d : ℤ) → FitsSigned w128 n → FitsSigned w128 d → of_z w128 (int_rem (back w128 n) (back w128 d)) ≡ 0 → int_rem n d ≡ pos 0
none_of_bits n d f g z = sym (rem_is w128 n d f g) ∙ ap (to_z w128) z

abbrev whole : goal.Else-n-d-ne0 → Type 0
whole c = c.args.n ≡ int_div c.args.n c.args.d *ℤ c.args.d

is_whole : (c : goal.Else-n-d-ne0) → whole c
is_whole c = multiple_of_quotient c.args.n c.args.d (none_of_bits c.args.n c.args.d c.ranges.n c.ranges.d c.if-n-d-ne0.false)

small : (c : goal.Else-n-d-ne0) → unsigned_abs (int_div c.args.n c.args.d) ≤ 7 * MAX_COORDINATE + 1
small c = quotient_within c.args.n c.args.d (int_div c.args.n c.args.d) (7 * MAX_COORDINATE + 1) (positive_size c.args.d c.requires.positive) (is_whole c) c.requires.near

computed_quotient : (c : goal.Else-n-d-ne0) → back w128 (int_div (back w128 c.args.n) (back w128 c.args.d)) ≡ int_div c.args.n c.args.d
computed_quotient c = quot_is w128 c.args.n c.args.d c.ranges.n c.ranges.d (quot_fits w128 c.args.n c.args.d c.ranges.n c.requires.positive)

pub returns-then-n-d-ne0-clause-some : goal.returns-then-n-d-ne0-clause-some
returns-then-n-d-ne0-clause-some c = (
  (λ t. absurd (false≢true t)),
  (λ k. absurd (c.if-n-d-ne0.true (bits_of_none c.args.n c.args.d c.ranges.n c.ranges.d (rem_of_multiple c.args.n c.args.d k.0 (positive_size c.args.d c.requires.positive) k.1)))),
)

pub overflow_cast-result : goal.overflow_cast-result
overflow_cast-result c = subst (FitsSigned w64) (sym (computed_quotient c)) (small_fits (int_div c.args.n c.args.d) (small c))
  where
    small_fits : (k : ℤ) → unsigned_abs k ≤ 7 * MAX_COORDINATE + 1 → FitsSigned w64 k
    small_fits k h = omega (arith, ints)

pub returns-clause-some : goal.returns-clause-some
returns-clause-some c = ((λ t. (int_div c.args.n c.args.d, is_whole c)), (λ k. refl))

pub returns-clause-value : goal.returns-clause-value
returns-clause-value c =
    let e = ap (back w64) (computed_quotient c) ∙ kept w64 (7 * MAX_COORDINATE + 1) (int_div c.args.n c.args.d) (small c) tt in
    (is_whole c ∙ ap (λ k. k *ℤ c.args.d) (sym e), subst (λ k. unsigned_abs k ≤ 7 * MAX_COORDINATE + 1) (sym e) (small c))
