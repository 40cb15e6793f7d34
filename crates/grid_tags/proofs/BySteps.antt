-- Remainders by one step of n.
use Rattle.std.proofs.Common.{◌≡◌, ℕ, ◌*◌, ◌<◌, ◌≤◌, ℤ, pos, ◌+ℤ◌, ◌*ℤ◌, ◌<ℤ◌, ◌≤ℤ◌, unsigned_abs, w32, FitsSigned, false, ap, ap₂, sym, ◌∙◌, subst, arith, ◌∷◌, []}
use lib.Signed.{lt_z, le_z}
use Rattle.std.proofs.lemmas.Int.{ints, to_z-of_z}
use Rattle.std.specs.Int.{int_rem_euclid}
use Rattle.lattice_algebra.specs.Operator.{IsPart}
use Rattle.lattice_algebra.proofs.Remainders.{rem_same, rem_part}
use Rattle.lattice_algebra.proofs.Machine.{back, kept}
use Rattle.lattice_algebra.proofs.Ring.{var, con, ◌⊕◌, ◌⊗◌, ring}
use Rattle.grid_tags.specs.declared.TheConstants.{MAX_SIDE}
use Rattle.grid_tags.specs.Grids.{IsSide}

abbrev pub most : ℕ
most = 12 * MAX_SIDE * MAX_SIDE

side_is : (n : ℕ) (m : ℤ) → IsSide n → m ≡ pos n → back w32 m ≡ pos n
side_is n m side e = kept w32 MAX_SIDE m (subst (λ z. unsigned_abs z ≤ MAX_SIDE) (sym e) side.1) tt ∙ e

-- one step up, or none
pub step_up : (value n : ℤ) → unsigned_abs value ≤ most → pos 1 ≤ℤ n → n ≤ℤ pos MAX_SIDE → (k : ℤ) × (back w32 (back w32 value +ℤ back w32 n) ≡ value +ℤ n *ℤ k)
step_up value n s a b = (pos 1, sum value n s a b ∙ ring (value ∷ n ∷ []) (var 0 ⊕ var 1) (var 0 ⊕ var 1 ⊗ con (pos 1)) tt)
  where
    sum : (value n : ℤ) → unsigned_abs value ≤ most → pos 1 ≤ℤ n → n ≤ℤ pos MAX_SIDE → back w32 (back w32 value +ℤ back w32 n) ≡ value +ℤ n
    sum value n s a b = omega (arith, ints)

pub no_step : (value n : ℤ) → unsigned_abs value ≤ most → (k : ℤ) × (back w32 value ≡ value +ℤ n *ℤ k)
no_step value n s = (pos 0, kept w32 most value s tt ∙ ring (value ∷ n ∷ []) (var 0) (var 0 ⊕ var 1 ⊗ con (pos 0)) tt)

-- where the step leads to a number from 0 to n - 1, that is the remainder
module _ (value m : ℤ) (n : ℕ) (size : unsigned_abs value ≤ most) (side : IsSide n) (e : m ≡ pos n) where
  some : 0 < n
  some = omega (arith, side.0)

  pub near_is : (near : ℤ) → FitsSigned w32 near → (k : ℤ) × (near ≡ back w32 value +ℤ back w32 m *ℤ k) → lt_z (back w32 near) (pos 0) ≡ false → le_z (back w32 m) (back w32 near) ≡ false → unsigned_abs (back w32 near) ≡ unsigned_abs (int_rem_euclid value (pos n))
  near_is near fits step above below =
      let same : back w32 near ≡ near = to_z-of_z w32 near fits in
      let f : near ≡ value +ℤ pos n *ℤ step.0 = step.1 ∙ ap₂ (λ x y. x +ℤ y *ℤ step.0) (kept w32 most value size tt) (side_is n m side e) in
      let part : IsPart n near = (subst (λ z. pos 0 ≤ℤ z) same (not_less _ above), subst (λ z. near <ℤ z) (side_is n m side e) (subst (λ z. z <ℤ back w32 m) same (less _ _ below))) in
      ap unsigned_abs (same ∙ sym (rem_part n some near part) ∙ rem_same n some near value step.0 f)
    where
      not_less : (z : ℤ) → lt_z z (pos 0) ≡ false → pos 0 ≤ℤ z
      not_less z h = grind (arith, ints)

      less : (z y : ℤ) → le_z y z ≡ false → z <ℤ y
      less z y h = grind (arith, ints)
