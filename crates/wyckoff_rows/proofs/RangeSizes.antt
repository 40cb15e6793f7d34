-- The sizes of what the ranges of whole shifts are computed from.
use Rattle.std.proofs.Common.{◌≡◌, ◌<◌, ◌≤◌, ◌+◌, ◌*◌, ℕ, zero, suc, ℤ, pos, negsuc, ◌+ℤ◌, ◌*ℤ◌, unsigned_abs, w32, w64, ap, ap₂, sym, ◌∙◌, subst, arith, mul-le-mul, le_refl, refl}
use Rattle.std.specs.Int.{int_div_euclid, int_rem_euclid, int_min, int_max}
use Rattle.std.proofs.lemmas.Int.{ints, unsigned_abs-mul, int_min_is, int_max_is}
use Rattle.lattice_algebra.specs.Matrix.{Matrix, Column, ◌·◌, ◌·ᶜ◌, ◌+ᵐ◌, ◌+ᶜ◌, neg_column, times, scaled}
use Rattle.lattice_algebra.specs.Operator.{Operator, AreWithin, HasEntriesWithin, IsPart}
use Rattle.lattice_algebra.proofs.Machine.{back, kept}
use Rattle.lattice_algebra.proofs.Numbers.{abs_add, abs_mul, abs_neg}
use Rattle.lattice_algebra.proofs.Powers.{within-opposite, within-+ᵐ}
use Rattle.lattice_algebra.proofs.Remainders.{quotient_is, rem_is}
use Rattle.group_closure.specs.declared.TheConstants.{MAX_OPERATORS}
use Rattle.space_groups.specs.Averages.{Block}
use Rattle.space_groups.specs.Intervals.{differences, base_shift}
use Rattle.affine_sets.proofs.KeyNumbers.{half_within}
use Rattle.affine_sets.proofs.ImageFixers.{image_within}

pub differences_made : (w v r product opposite sum : Matrix) → v ≡ w → product ≡ v · r → opposite ≡ scaled (negsuc 0) product → sum ≡ r +ᵐ opposite → sum ≡ differences w r
unfolding differences
differences_made w v r product opposite sum e f g h = h ∙ ap (λ m. r +ᵐ m) (g ∙ ap (scaled (negsuc 0)) (f ∙ ap (λ m. m · r) e))

pub differences_size : (w r : Matrix) → HasEntriesWithin 2 w → HasEntriesWithin 384 r → HasEntriesWithin 2688 (differences w r)
unfolding differences
differences_size w r n h = within-+ᵐ 384 2304 2688 r (scaled (negsuc 0) (w · r)) h (within-opposite 2304 (w · r) (half_within w r n h)) refl

pub base_made : (a : Block) (f : Operator) (w : Matrix) (t turned parts both base : Column) (n : ℤ) → t ≡ a.t → w ≡ f.w → n ≡ a.n → turned ≡ w ·ᶜ t → parts ≡ times n f.t → both ≡ turned +ᶜ parts → base ≡ t +ᶜ neg_column both → base ≡ base_shift a f
unfolding base_shift
base_made a f w t turned parts both base n et ew en e1 e2 e3 e4 =
    e4 ∙ ap₂ (λ x y. x +ᶜ neg_column y) et (e3 ∙ ap₂ (λ x y. x +ᶜ y) (e1 ∙ ap₂ (λ x y. x ·ᶜ y) ew et) (e2 ∙ ap (λ k. times k f.t) en))

quotient_small : (n k a : ℕ) → 0 < n → n * k ≤ a + n → k ≤ a + 1
quotient_small n zero a some h = omega arith
quotient_small n (suc p) a some h =
    let e : n * suc p ≡ n * p + n = omega arith in
    let m : 1 * p ≤ n * p = mul-le-mul some (le_refl p) in
    omega (arith, e, m, h)

rounded : (n : ℕ) (z r x : ℤ) → z ≡ r +ℤ x → IsPart n r → unsigned_abs x ≤ unsigned_abs z + n
rounded n z r x e p = omega (arith, ints, e)

-- the size of a quotient, rounded down
pub quotient_size : (n : ℕ) (z : ℤ) → 0 < n → unsigned_abs (int_div_euclid z (pos n)) ≤ unsigned_abs z + 1
quotient_size n z some =
    let q = int_div_euclid z (pos n) in
    let h = rounded n z (int_rem_euclid z (pos n)) (pos n *ℤ q) (quotient_is n some z) (rem_is n some z).2 in
    quotient_small n (unsigned_abs q) (unsigned_abs z) some (subst (λ v. v ≤ unsigned_abs z + n) (unsigned_abs-mul (pos n) q) h)

-- ---- the parts of sums

pub below_within : (a : ℤ) → unsigned_abs a ≤ 14 * MAX_OPERATORS → unsigned_abs (int_min a (pos 0)) ≤ 14 * MAX_OPERATORS
below_within a s = omega (arith, ints, int_min_is a (pos 0), s)

pub above_within : (a : ℤ) → unsigned_abs a ≤ 14 * MAX_OPERATORS → unsigned_abs (int_max a (pos 0)) ≤ 14 * MAX_OPERATORS
above_within a s = omega (arith, ints, int_max_is a (pos 0), s)

pub part_below : (a m x : ℤ) → unsigned_abs a ≤ 14 * MAX_OPERATORS → m ≡ int_min (back w32 a) (pos 0) → x ≡ back w32 m → x ≡ int_min a (pos 0)
part_below a m x s e f = f ∙ ap (back w32) (e ∙ ap (λ v. int_min v (pos 0)) (kept w32 (14 * MAX_OPERATORS) a s tt)) ∙ kept w32 (14 * MAX_OPERATORS) (int_min a (pos 0)) (below_within a s) tt

pub part_above : (a m x : ℤ) → unsigned_abs a ≤ 14 * MAX_OPERATORS → m ≡ int_max (back w32 a) (pos 0) → x ≡ back w32 m → x ≡ int_max a (pos 0)
part_above a m x s e f = f ∙ ap (back w32) (e ∙ ap (λ v. int_max v (pos 0)) (kept w32 (14 * MAX_OPERATORS) a s tt)) ∙ kept w32 (14 * MAX_OPERATORS) (int_max a (pos 0)) (above_within a s) tt

-- ---- columns

pub sum_within : (m n : ℕ) (a b c : Column) → c ≡ a +ᶜ b → AreWithin m a.x a.y a.z → AreWithin n b.x b.y b.z → AreWithin (m + n) c.x c.y c.z
unfolding ◌+ᶜ◌
sum_within m n a b c e p q = subst (λ (v : Column). AreWithin (m + n) v.x v.y v.z) (sym e)
    (record { first = at a.x b.x p.first q.first; second = at a.y b.y p.second q.second; third = at a.z b.z p.third q.third })
  where
    at : (x y : ℤ) → unsigned_abs x ≤ m → unsigned_abs y ≤ n → unsigned_abs (x +ℤ y) ≤ m + n
    at x y p q = omega (arith, abs_add x y, p, q)

opposite_within : (n : ℕ) (b : Column) → AreWithin n b.x b.y b.z → AreWithin n (neg_column b).x (neg_column b).y (neg_column b).z
unfolding neg_column
opposite_within n b q = record { first = subst (λ v. v ≤ n) (sym (abs_neg b.x)) q.first; second = subst (λ v. v ≤ n) (sym (abs_neg b.y)) q.second; third = subst (λ v. v ≤ n) (sym (abs_neg b.z)) q.third }

pub difference_within : (m n : ℕ) (a b c : Column) → c ≡ a +ᶜ neg_column b → AreWithin m a.x a.y a.z → AreWithin n b.x b.y b.z → AreWithin (m + n) c.x c.y c.z
difference_within m n a b c e p q = sum_within m n a (neg_column b) c e p (opposite_within n b q)

pub turned_within : (m : ℕ) (w : Matrix) (t c : Column) → c ≡ w ·ᶜ t → HasEntriesWithin 2 w → AreWithin m t.x t.y t.z → AreWithin (6 * m) c.x c.y c.z
turned_within m w t c e n p = subst (λ (v : Column). AreWithin (6 * m) v.x v.y v.z) (sym e) (image_within m w t n p)

pub multiple_within : (j m : ℕ) (n : ℤ) (t c : Column) → c ≡ times n t → unsigned_abs n ≤ j → AreWithin m t.x t.y t.z → AreWithin (j * m) c.x c.y c.z
unfolding times
multiple_within j m n t c e s p = subst (λ (v : Column). AreWithin (j * m) v.x v.y v.z) (sym e) (record { first = at t.x p.first; second = at t.y p.second; third = at t.z p.third })
  where
    at : (x : ℤ) → unsigned_abs x ≤ m → unsigned_abs (n *ℤ x) ≤ j * m
    at x q = let l : unsigned_abs n * m ≤ j * m = mul-le-mul s (le_refl m) in omega (arith, abs_mul n x m q, l)

pub wider_column : (m n : ℕ) (c : Column) → m ≤ n → AreWithin m c.x c.y c.z → AreWithin n c.x c.y c.z
wider_column m n c l w = record { first = omega (arith, l, w.first); second = omega (arith, l, w.second); third = omega (arith, l, w.third) }

-- the number of members, as it is passed on
pub number_kept : (x : ℤ) (n : ℕ) → x ≡ pos n → n ≤ MAX_OPERATORS → back w64 x ≡ pos n
number_kept x n e l = ap (back w64) e ∙ kept w64 MAX_OPERATORS (pos n) l tt
