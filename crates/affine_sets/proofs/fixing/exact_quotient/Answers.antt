use Rattle.std.proofs.Common.{◌≡◌, ℤ, pos, ◌*ℤ◌, int_div, int_rem, ap, ap₂, sym, refl, ◌∙◌, w64, FitsSigned, to_z, of_z, to_z-of_z}
use Rattle.std.proofs.lemmas.Bool.{false≢true}
use Rattle.std.proofs.lemmas.Int.{quot_fits, quot_is, rem_is}
use Rattle.lattice_algebra.proofs.Machine.{back}
use Rattle.lattice_algebra.proofs.Numbers.{positive_size}
use Rattle.lattice_algebra.proofs.Quotients.{rem_of_multiple, multiple_of_quotient}
use Rattle.affine_sets.proofs.fixing.exact_quotient.Goals as goal

-- the machine's remainder, as bits
bits_of_none : (n d : ℤ) → FitsSigned w64 n → FitsSigned w64 d → int_rem n d ≡ pos 0 → of_z w64 (int_rem (back w64 n) (back w64 d)) ≡ 0
bits_of_none n d f g z = ap (of_z w64) (ap₂ int_rem (to_z-of_z f) (to_z-of_z g) ∙ z)

none_of_bits : (n d : ℤ) → FitsSigned w64 n → FitsSigned w64 d → of_z w64 (int_rem (back w64 n) (back w64 d)) ≡ 0 → int_rem n d ≡ pos 0
none_of_bits n d f g z = sym (rem_is w64 n d f g) ∙ ap (to_z w64) z

pub returns-then-n-d-ne0-clause-some : goal.returns-then-n-d-ne0-clause-some
returns-then-n-d-ne0-clause-some c = (
  (λ t. absurd (false≢true t)),
  (λ k. absurd (c.if-n-d-ne0.true (bits_of_none c.args.n c.args.d c.ranges.n c.ranges.d (rem_of_multiple c.args.n c.args.d k.0 (positive_size c.args.d c.requires) k.1)))),
)

is_whole : (c : goal.Else-n-d-ne0) → c.args.n ≡ int_div c.args.n c.args.d *ℤ c.args.d
is_whole c = multiple_of_quotient c.args.n c.args.d (none_of_bits c.args.n c.args.d c.ranges.n c.ranges.d c.if-n-d-ne0.false)

pub returns-clause-some : goal.returns-clause-some
returns-clause-some c = ((λ t. (int_div c.args.n c.args.d, is_whole c)), (λ k. refl))

pub returns-clause-value : goal.returns-clause-value
returns-clause-value c =
    let e = quot_is w64 c.args.n c.args.d c.ranges.n c.ranges.d (quot_fits w64 c.args.n c.args.d c.ranges.n c.requires) in
    is_whole c ∙ ap (λ k. k *ℤ c.args.d) (sym e)
