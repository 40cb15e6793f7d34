-- The shift of a form as the machine finds it.
use Rattle.std.proofs.Common.{◌≡◌, ◌≤◌, ◌*◌, ℕ, ℤ, pos, ◌+ℤ◌, ◌*ℤ◌, neg_ℤ, ◌<ℤ◌, unsigned_abs, FitsSigned, ap, ap₂, sym, subst, ◌∙◌, to_z-of_z, w32, w64, arith}
use Rattle.std.specs.Int.{int_rem_euclid}
use Rattle.std.proofs.lemmas.Int.{ints}
use Rattle.lattice_algebra.specs.Matrix.{Column, sum_of_products}
use Rattle.lattice_algebra.specs.Operator.{AreWithin, AreParts, IsPart}
use Rattle.lattice_algebra.proofs.Machine.{back, kept}
use Rattle.lattice_algebra.proofs.Numbers.{positive_is, positive_size}
use Rattle.lattice_algebra.proofs.Remainders.{rem_is}
use Rattle.exact_ops.specs.declared.TheConstants.{UNIT}
use Rattle.parameter_forms.specs.declared.TheConstants.{MAX_NUMBER, MAX_MINOR}

-- ---- remainders

pub remainder_is : (n cell r : ℤ) → FitsSigned w64 n → FitsSigned w64 cell → r ≡ int_rem_euclid (back w64 n) (back w64 cell) → r ≡ int_rem_euclid n cell
remainder_is n cell r f g e = e ∙ ap₂ int_rem_euclid (to_z-of_z f) (to_z-of_z g)

part_small : (r : ℤ) (n k : ℕ) → n ≤ k → IsPart n r → unsigned_abs r ≤ k
part_small r n k l p = omega (arith, ints, p.0, p.1)

pub remainder_small : (n cell r : ℤ) (k : ℕ) → pos 0 <ℤ cell → unsigned_abs cell ≤ k → r ≡ int_rem_euclid n cell → unsigned_abs r ≤ k
remainder_small n cell r k some l e =
    let part = (rem_is (unsigned_abs cell) (positive_size cell some) n).2 in
    part_small r (unsigned_abs cell) k l (subst (IsPart (unsigned_abs cell)) (ap (int_rem_euclid n) (sym (positive_is cell some)) ∙ sym e) part)

-- ---- one coordinate

pub parts_within : (n : ℕ) (t : Column) → n ≤ MAX_NUMBER → AreParts (UNIT * n) t → AreWithin (UNIT * MAX_NUMBER) t.x t.y t.z
parts_within n t few p = record {
  first = omega (arith, ints, p.x.0, p.x.1, few);
  second = omega (arith, ints, p.y.0, p.y.1, few);
  third = omega (arith, ints, p.z.0, p.z.1, few);
}

module _ (d own a b e : ℤ) (t : Column) (d_small : unsigned_abs d ≤ MAX_MINOR) (own_small : unsigned_abs own ≤ UNIT * MAX_NUMBER) (row : AreWithin MAX_MINOR a b e) where
  difference_passed : back w32 d *ℤ back w32 own +ℤ neg_ℤ (sum_of_products (back w32 a) (back w32 b) (back w32 e) t.x t.y t.z) ≡ d *ℤ own +ℤ neg_ℤ (sum_of_products a b e t.x t.y t.z)
  difference_passed =
      λ i. kept w32 MAX_MINOR d d_small tt i *ℤ kept w32 (UNIT * MAX_NUMBER) own own_small tt i
      +ℤ neg_ℤ (sum_of_products (kept w32 MAX_MINOR a row.first tt i) (kept w32 MAX_MINOR b row.second tt i) (kept w32 MAX_MINOR e row.third tt i) t.x t.y t.z)

  pub coordinate_found : (difference cell rest : ℤ) (n : ℕ) → FitsSigned w64 difference → FitsSigned w64 cell → FitsSigned w32 rest
      → difference ≡ back w32 d *ℤ back w32 own +ℤ neg_ℤ (sum_of_products (back w32 a) (back w32 b) (back w32 e) t.x t.y t.z) → cell ≡ pos n
      → rest ≡ int_rem_euclid (back w64 difference) (back w64 cell) → back w32 rest ≡ int_rem_euclid (d *ℤ own +ℤ neg_ℤ (sum_of_products a b e t.x t.y t.z)) (pos n)
  coordinate_found difference cell rest n f g h is cells r = to_z-of_z h ∙ remainder_is difference cell rest f g r ∙ ap₂ int_rem_euclid (is ∙ difference_passed) cells
