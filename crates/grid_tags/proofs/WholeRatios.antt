-- The coordinate of an image, from the ratios of the sides: exact where the grid is kept.
use Rattle.std.proofs.Common.{◌≡◌, ℕ, ◌*◌, ◌/◌, ◌<◌, ◌≤◌, ◌∷◌, [], ℤ, pos, negsuc, ◌+ℤ◌, ◌*ℤ◌, unsigned_abs, suc, zero, ap, sym, ◌∙◌, refl, arith}
use Rattle.std.specs.Int.{int_rem_euclid}
use Rattle.std.specs.Int.RustNames.{int_div}
use Rattle.std.proofs.lemmas.Int.{ints, unsigned_abs-mul}
use Rattle.lattice_algebra.specs.Operator.{IsPart}
use Rattle.lattice_algebra.proofs.Numbers.{above, cancel_number}
use Rattle.lattice_algebra.proofs.Remainders.{rem_is, rem_same}
use Rattle.lattice_algebra.proofs.Quotients.{rem_of_multiple, multiple_of_quotient}
use Rattle.lattice_algebra.proofs.Ring.{var, con, ◌⊕◌, ◌⊗◌, ring, known, ring_from}
use Rattle.exact_ops.specs.declared.TheConstants.{UNIT}
use Rattle.exact_ops.proofs.Narrow.{some_parts}
use Rattle.grid_tags.specs.Steps.{ratio, turned_coordinate, moved_coordinate}

pub cancel_right : (k : ℕ) (x y : ℤ) → 0 < k → x *ℤ pos k ≡ y *ℤ pos k → x ≡ y
cancel_right k x y h e = cancel_number (pos k) x y (above k h) (exchanged x ∙ e ∙ sym (exchanged y))
  where
    exchanged : (z : ℤ) → pos k *ℤ z ≡ z *ℤ pos k
    exchanged z = ring (z ∷ pos k ∷ []) (var 1 ⊗ var 0) (var 0 ⊗ var 1) tt

exact_quotient : (x a m : ℕ) → 0 < m → x ≡ a * m → x / m * m ≡ x
exact_quotient x a m h e = grind arith

-- twice n by m is whole, where w n / m is and w is 1 or 2 in size
exact_ratio : (w n m a : ℕ) → 0 < m → 0 < w → w ≤ 2 → w * n ≡ a * m → ratio n m * m ≡ 2 * n
exact_ratio (suc zero) n m a h o l e = exact_quotient (2 * n) (2 * a) m h (omega (arith, e))
exact_ratio (suc (suc zero)) n m a h o l e = exact_quotient (2 * n) a m h e
exact_ratio zero n m a h o l e = absurd (omega (arith, o))
exact_ratio (suc (suc (suc k))) n m a h o l e = absurd (omega (arith, l))

size_is : (w p : ℤ) (n m : ℕ) → w *ℤ pos n ≡ p *ℤ pos m → unsigned_abs w * n ≡ unsigned_abs p * m
size_is w p n m e = sym (unsigned_abs-mul w (pos n)) ∙ ap unsigned_abs e ∙ unsigned_abs-mul p (pos m)

by_ratio : (w p : ℤ) (n m r : ℕ) → r * m ≡ 2 * n → w *ℤ pos n ≡ p *ℤ pos m → (w *ℤ pos r) *ℤ pos m ≡ (p *ℤ pos 2) *ℤ pos m
by_ratio w p n m r h e =
    ring_from (w ∷ p ∷ pos n ∷ pos m ∷ pos r ∷ []) ((var 0 ⊗ var 4) ⊗ var 3) ((var 1 ⊗ con (pos 2)) ⊗ var 3)
    (known (var 0) (var 4 ⊗ var 3) (con (pos 2) ⊗ var 2) ∷ known (con (pos 2)) (var 0 ⊗ var 2) (var 1 ⊗ var 3) ∷ []) (ap pos h, (e, tt)) tt

by_zero : (p : ℤ) (n m r : ℕ) → pos 0 *ℤ pos n ≡ p *ℤ pos m → (pos 0 *ℤ pos r) *ℤ pos m ≡ (p *ℤ pos 2) *ℤ pos m
by_zero p n m r e =
    ring_from (p ∷ pos n ∷ pos m ∷ pos r ∷ []) ((con (pos 0) ⊗ var 3) ⊗ var 2) ((var 0 ⊗ con (pos 2)) ⊗ var 2) (known (con (pos 2)) (con (pos 0) ⊗ var 1) (var 0 ⊗ var 2) ∷ []) (e, tt) tt

-- w times the ratio is twice the whole number w n / m
pub ratio_times : (w p : ℤ) (n m : ℕ) → 0 < m → unsigned_abs w ≤ 2 → w *ℤ pos n ≡ p *ℤ pos m → w *ℤ pos (ratio n m) ≡ p *ℤ pos 2
ratio_times (pos zero) p n m h l e = cancel_right m _ _ h (by_zero p n m (ratio n m) e)
ratio_times (pos (suc k)) p n m h l e = cancel_right m _ _ h (by_ratio (pos (suc k)) p n m (ratio n m) (exact_ratio (suc k) n m (unsigned_abs p) h (omega arith) l (size_is (pos (suc k)) p n m e)) e)
ratio_times (negsuc k) p n m h l e = cancel_right m _ _ h (by_ratio (negsuc k) p n m (ratio n m) (exact_ratio (suc k) n m (unsigned_abs p) h (omega arith) l (size_is (negsuc k) p n m e)) e)

twice_is : (w u v p q : ℤ) (i j k a b : ℕ) → u *ℤ pos a ≡ p *ℤ pos 2 → v *ℤ pos b ≡ q *ℤ pos 2
    → w *ℤ pos (2 * i) +ℤ u *ℤ pos (a * j) +ℤ v *ℤ pos (b * k) ≡ (w *ℤ pos i +ℤ p *ℤ pos j +ℤ q *ℤ pos k) *ℤ pos 2
twice_is w u v p q i j k a b e f =
    let T = con (pos 2) in
    ring_from (w ∷ u ∷ v ∷ p ∷ q ∷ pos i ∷ pos j ∷ pos k ∷ pos a ∷ pos b ∷ [])
    (var 0 ⊗ (T ⊗ var 5) ⊕ var 1 ⊗ (var 8 ⊗ var 6) ⊕ var 2 ⊗ (var 9 ⊗ var 7))
    ((var 0 ⊗ var 5 ⊕ var 3 ⊗ var 6 ⊕ var 4 ⊗ var 7) ⊗ T)
    (known (var 6) (var 1 ⊗ var 8) (var 3 ⊗ T) ∷ known (var 7) (var 2 ⊗ var 9) (var 4 ⊗ T) ∷ []) (e, (f, tt)) tt

-- a quotient that is whole
pub whole_quotient : (x p : ℤ) (m : ℕ) → 0 < m → x ≡ p *ℤ pos m → int_div x (pos m) ≡ p
whole_quotient x p m h e = cancel_right m _ p h (sym (multiple_of_quotient x (pos m) (rem_of_multiple x (pos m) p h e)) ∙ e)

whole_part : (n : ℕ) (z : ℤ) → IsPart n z → z ≡ pos (unsigned_abs z)
whole_part n (pos k) p = refl
whole_part n (negsuc k) p = absurd (omega (arith, ints))

-- the coordinate along an axis with n points, beside axes with m and l, for the row (w, u, v) and the translation t
abbrev pub coordinate : ℤ → ℤ → ℤ → ℤ → ℕ → ℕ → ℕ → ℕ → ℕ → ℕ → ℕ
coordinate w u v t n m l i j k = moved_coordinate (turned_coordinate w u v n (ratio n m) (ratio n l) i j k) t n

pub coordinate_below : (w u v t : ℤ) (n m l i j k : ℕ) → 0 < n → coordinate w u v t n m l i j k < n
coordinate_below w u v t n m l i j k h = size_below n _ (rem_is n h _).2
  where
    size_below : (n : ℕ) (z : ℤ) → IsPart n z → unsigned_abs z < n
    size_below n z p = omega (arith, ints)

-- it is w i + p j + q k + s modulo n
pub coordinate_modulo : (w u v t : ℤ) (n m l i j k : ℕ) (p q s : ℤ) → unsigned_abs u ≤ 2 → unsigned_abs v ≤ 2 → 0 < n → 0 < m → 0 < l → u *ℤ pos n ≡ p *ℤ pos m → v *ℤ pos n ≡ q *ℤ pos l → t *ℤ pos n ≡ s *ℤ pos UNIT
    → pos (coordinate w u v t n m l i j k) ≡ int_rem_euclid (w *ℤ pos i +ℤ p *ℤ pos j +ℤ q *ℤ pos k +ℤ s) (pos n)
coordinate_modulo w u v t n m l i j k p q s hu hv hn hm hl a b c =
    let x = w *ℤ pos i +ℤ p *ℤ pos j +ℤ q *ℤ pos k in
    let first = int_div (w *ℤ pos (2 * i) +ℤ u *ℤ pos (ratio n m * j) +ℤ v *ℤ pos (ratio n l * k)) (pos 2) in
    let half : first ≡ x = whole_quotient _ x 2 (omega arith) (twice_is w u v p q i j k (ratio n m) (ratio n l) (ratio_times u p n m hm hu a) (ratio_times v q n l hl hv b)) in
    let r = rem_is n hn first in
    let turned : pos (turned_coordinate w u v n (ratio n m) (ratio n l) i j k) ≡ x +ℤ pos n *ℤ r.0 = sym (whole_part n _ r.2) ∙ r.1 ∙ ap (λ z. z +ℤ pos n *ℤ r.0) half in
    let shift : int_div (t *ℤ pos n) (pos UNIT) ≡ s = whole_quotient (t *ℤ pos n) s UNIT some_parts c in
    sym (whole_part n _ (rem_is n hn _).2) ∙ rem_same n hn _ (x +ℤ s) r.0 (both turned shift ∙ ring (x ∷ s ∷ pos n ∷ r.0 ∷ []) (var 0 ⊕ var 2 ⊗ var 3 ⊕ var 1) (var 0 ⊕ var 1 ⊕ var 2 ⊗ var 3) tt)
  where
    both : {x y z w : ℤ} → x ≡ y → z ≡ w → x +ℤ z ≡ y +ℤ w
    both e f = λ h. e h +ℤ f h
