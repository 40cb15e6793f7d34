-- Remainders by a positive number, of numbers and of columns.
use Rattle.std.proofs.Common.{◌≡◌, ℕ, zero, suc, [], ◌+◌, ◌-◌, ◌*◌, ◌/◌, ◌%◌, ◌<◌, ℤ, pos, negsuc, ◌*ℤ◌, ◌+ℤ◌, ◌-ℤ◌, ◌≤ℤ◌, neg_ℤ, ap, sym, ◌∙◌, arith, ◌∷◌}
use Rattle.std.specs.Int.{int_div_euclid, int_rem_euclid}
use Rattle.std.proofs.lemmas.Int.{ints, by_lt_z}
use lib.IntN.{+ℤ_idr, *ℤ-zero}
use Rattle.lattice_algebra.proofs.Ring.{known, var, con, ◌⊕◌, ◌⊖◌, ◌⊗◌, neg, ring, ring_from}
use Rattle.lattice_algebra.proofs.Numbers.{above, cancel_number, not_below_product}
use Rattle.lattice_algebra.specs.Matrix.{Column, ◌+ᶜ◌, times}
use Rattle.lattice_algebra.specs.Operator.{modulo, IsPart, AreParts}

rem_bounds : (n : ℕ) → 0 < n → (z : ℤ) → IsPart n (int_rem_euclid z (pos n))
rem_bounds n h (pos a) = let l : a % n < n = omega arith in omega (arith, ints)
rem_bounds n h (negsuc a) = let l : a % n < n = omega arith in omega (arith, ints)

-- a number is its remainder and n times its quotient
pub quotient_is : (n : ℕ) → 0 < n → (z : ℤ) → z ≡ int_rem_euclid z (pos n) +ℤ pos n *ℤ int_div_euclid z (pos n)
quotient_is n h (pos a) = ap pos (let e : a ≡ a % n + n * (a / n) = omega arith in e)
quotient_is n h (negsuc a) = below (a % n) (a / n) (omega arith) (omega arith)
  where
    below : (r q : ℕ) → n * q + r ≡ a → r < n → negsuc a ≡ pos (n - 1 - r) +ℤ pos n *ℤ negsuc q
    below r q e l =
        let f : pos n *ℤ negsuc q ≡ neg_ℤ (pos (n * suc q)) = ring (pos n ∷ pos (suc q) ∷ []) (var 0 ⊗ neg (var 1)) (neg (var 0 ⊗ var 1)) tt in
        let g : n * suc q ≡ n * q + n = omega arith in
        omega (arith, ints)

remainder_left : (z r n q : ℤ) → z ≡ r +ℤ n *ℤ q → r ≡ z +ℤ n *ℤ neg_ℤ q
remainder_left z r n q e =
    let Z = var 0 in
    let R = var 1 in
    let N = var 2 in
    let Q = var 3 in
    ring_from (z ∷ r ∷ n ∷ q ∷ []) R (Z ⊕ N ⊗ neg Q) (known (neg (con (pos 1))) Z (R ⊕ N ⊗ Q) ∷ []) (e, tt) tt

-- the remainder differs from z by a multiple of n
pub rem_is : (n : ℕ) → 0 < n → (z : ℤ) → (k : ℤ) × (int_rem_euclid z (pos n) ≡ z +ℤ pos n *ℤ k) × IsPart n (int_rem_euclid z (pos n))
rem_is n h z =
    let q = int_div_euclid z (pos n) in
    (neg_ℤ q, remainder_left z (int_rem_euclid z (pos n)) (pos n) q (quotient_is n h z), rem_bounds n h z)

too_far : (n j : ℕ) (x y : ℤ) → x ≡ y +ℤ pos (n * suc j) → IsPart n x → IsPart n y → ⊥
too_far n j x y e p q = let f : n * suc j ≡ n * j + n = omega arith in omega (arith, ints)

-- numbers that differ by a multiple of n have one remainder
one_remainder : (n : ℕ) (x y k : ℤ) → x ≡ y +ℤ pos n *ℤ k → IsPart n x → IsPart n y → x ≡ y
one_remainder n x y (pos zero) e p q = e ∙ ap (λ v. y +ℤ v) (*ℤ-zero (pos n)) ∙ +ℤ_idr y
one_remainder n x y (pos (suc j)) e p q = absurd (too_far n j x y e p q)
one_remainder n x y (negsuc j) e p q = absurd (too_far n j y x (other n j x y e) q p)
  where
    other : (n j : ℕ) (x y : ℤ) → x ≡ y +ℤ pos n *ℤ negsuc j → y ≡ x +ℤ pos (n * suc j)
    other n j x y e = let f : pos n *ℤ negsuc j ≡ neg_ℤ (pos (n * suc j)) = ring (pos n ∷ pos (suc j) ∷ []) (var 0 ⊗ neg (var 1)) (neg (var 0 ⊗ var 1)) tt in omega (arith, ints)

pub rem_same : (n : ℕ) → 0 < n → (x y k : ℤ) → x ≡ y +ℤ pos n *ℤ k → int_rem_euclid x (pos n) ≡ int_rem_euclid y (pos n)
rem_same n h x y k e =
    let a = rem_is n h x in
    let b = rem_is n h y in
    one_remainder n _ _ (a.0 +ℤ k +ℤ neg_ℤ b.0)
    (a.1 ∙ ap (λ v. v +ℤ pos n *ℤ a.0) e ∙ ring (y ∷ k ∷ pos n ∷ a.0 ∷ b.0 ∷ []) (var 0 ⊕ var 2 ⊗ var 1 ⊕ var 2 ⊗ var 3) (var 0 ⊕ var 2 ⊗ var 4 ⊕ var 2 ⊗ (var 3 ⊕ var 1 ⊕ neg (var 4))) tt
    ∙ ap (λ v. v +ℤ pos n *ℤ (a.0 +ℤ k +ℤ neg_ℤ b.0)) (sym b.1)) a.2 b.2

pub rem_part : (n : ℕ) → 0 < n → (x : ℤ) → IsPart n x → int_rem_euclid x (pos n) ≡ x
rem_part n h x p = let a = rem_is n h x in one_remainder n _ _ a.0 a.1 a.2 p

pub rem_of_times : (n : ℕ) → 0 < n → (k : ℤ) → int_rem_euclid (pos n *ℤ k) (pos n) ≡ pos 0
rem_of_times n h k = rem_same n h (pos n *ℤ k) (pos 0) k (omega (arith, ints)) ∙ rem_part n h (pos 0) (omega (arith, ints))

-- the quotient is the greatest number of which n times is at most x
pub quotient_greatest : (n : ℕ) → 0 < n → (x s : ℤ) → (pos n *ℤ s) ≤ℤ x → s ≤ℤ int_div_euclid x (pos n)
quotient_greatest n h x s l =
    let q = int_div_euclid x (pos n) in
    let r = int_rem_euclid x (pos n) in
    let e = ring (pos n ∷ s ∷ q ∷ []) (var 0 ⊗ (var 1 ⊖ var 2 ⊖ con (pos 1))) (var 0 ⊗ var 1 ⊖ var 0 ⊗ var 2 ⊖ var 0) tt in
    by_lt_z q s (λ k. absurd (far n (pos n *ℤ s) (pos n *ℤ q) r x (pos n *ℤ (s -ℤ q -ℤ pos 1)) e (quotient_is n h x) (rem_bounds n h x) l (not_below_product (pos n) (s -ℤ q -ℤ pos 1) (omega (arith, ints)) (omega (arith, ints))))) (λ k. k)
  where
    far : (n : ℕ) (a b r x z : ℤ) → z ≡ a -ℤ b -ℤ pos n → x ≡ r +ℤ b → IsPart n r → a ≤ℤ x → pos 0 ≤ℤ z → ⊥
    far n a b r x z e f p l k = omega (arith, ints, e, f)

-- and its opposite, for -x, the least of which n times is at least x
pub quotient_least : (n : ℕ) → 0 < n → (x s : ℤ) → x ≤ℤ (pos n *ℤ s) → neg_ℤ (int_div_euclid (neg_ℤ x) (pos n)) ≤ℤ s
quotient_least n h x s l =
    let e : pos n *ℤ neg_ℤ s ≡ neg_ℤ (pos n *ℤ s) = ring (pos n ∷ s ∷ []) (var 0 ⊗ neg (var 1)) (neg (var 0 ⊗ var 1)) tt in
    let k = quotient_greatest n h (neg_ℤ x) (neg_ℤ s) (turned (pos n *ℤ s) x (pos n *ℤ neg_ℤ s) e l) in
    omega (arith, ints, k)
  where
    turned : (a x b : ℤ) → b ≡ neg_ℤ a → x ≤ℤ a → b ≤ℤ neg_ℤ x
    turned a x b e l = omega (arith, ints, e)

sum_with_nothing : (r a z : ℤ) → z ≡ r +ℤ a → r ≡ pos 0 → a ≡ z
sum_with_nothing r a z e f = omega (arith, ints)

-- the quotient of a multiple is exact
pub quotient_of_times : (n : ℕ) → 0 < n → (k : ℤ) → int_div_euclid (pos n *ℤ k) (pos n) ≡ k
quotient_of_times n h k =
    let z = pos n *ℤ k in
    cancel_number (pos n) _ k (above n h) (sum_with_nothing (int_rem_euclid z (pos n)) (pos n *ℤ int_div_euclid z (pos n)) z (quotient_is n h z) (rem_of_times n h k))

-- ---- columns modulo n

pub modulo_is : (n : ℕ) → 0 < n → (c : Column) → (k : Column) × (modulo n c ≡ c +ᶜ times (pos n) k)
unfolding modulo ◌+ᶜ◌ times
modulo_is n h c =
    let a = rem_is n h c.x in
    let b = rem_is n h c.y in
    let d = rem_is n h c.z in
    (record { x = a.0; y = b.0; z = d.0 }, λ i. record { x = a.1 i; y = b.1 i; z = d.1 i })

pub modulo_same : (n : ℕ) → 0 < n → (c d k : Column) → c ≡ d +ᶜ times (pos n) k → modulo n c ≡ modulo n d
unfolding modulo ◌+ᶜ◌ times
modulo_same n h c d k e = λ i. record {
  x = rem_same n h c.x d.x k.x (ap (λ (v : Column). v.x) e) i;
  y = rem_same n h c.y d.y k.y (ap (λ (v : Column). v.y) e) i;
  z = rem_same n h c.z d.z k.z (ap (λ (v : Column). v.z) e) i;
}

pub modulo_parts : (n : ℕ) → 0 < n → (c : Column) → AreParts n (modulo n c)
unfolding modulo
modulo_parts n h c = record { x = rem_bounds n h c.x; y = rem_bounds n h c.y; z = rem_bounds n h c.z }

pub modulo_part : (n : ℕ) → 0 < n → (c : Column) → AreParts n c → modulo n c ≡ c
unfolding modulo
modulo_part n h c p = λ i. record { x = rem_part n h c.x p.x i; y = rem_part n h c.y p.y i; z = rem_part n h c.z p.z i }

-- each number's quotient by n
unfoldable pub quotients : ℕ → Column → Column
quotients n c = record { x = int_div_euclid c.x (pos n); y = int_div_euclid c.y (pos n); z = int_div_euclid c.z (pos n) }

pub quotients_are : (n : ℕ) → 0 < n → (c : Column) → c ≡ modulo n c +ᶜ times (pos n) (quotients n c)
unfolding modulo ◌+ᶜ◌ times quotients
quotients_are n h c = λ i. record { x = quotient_is n h c.x i; y = quotient_is n h c.y i; z = quotient_is n h c.z i }

pub quotients_of_times : (n : ℕ) → 0 < n → (c : Column) → quotients n (times (pos n) c) ≡ c
unfolding times quotients
quotients_of_times n h c = λ i. record { x = quotient_of_times n h c.x i; y = quotient_of_times n h c.y i; z = quotient_of_times n h c.z i }

-- a column is its remainder and a multiple of n
pub whole_part : (n : ℕ) → 0 < n → (c : Column) → (k : Column) × (c ≡ modulo n c +ᶜ times (pos n) k)
whole_part n h c = (quotients n c, quotients_are n h c)
