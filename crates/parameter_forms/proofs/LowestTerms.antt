-- A fraction divided by the greatest common divisor of its numbers.
use Rattle.std.proofs.Common.{◌≡◌, ◌*◌, ◌/◌, ◌^◌, ◌<◌, ◌≤◌, ℕ, zero, suc, ℤ, pos, ◌*ℤ◌, ◌-ℤ◌, neg_ℤ, ◌<ℤ◌, ◌≤ℤ◌, unsigned_abs, int_div, ap, sym, subst, ◌∙◌, ◌∷◌, [], arith}
use Rattle.std.specs.Int.{IsGcd, ◌∣◌}
use Rattle.std.proofs.Math.Nat.{one-dvd, dvd-mul_right, mul-div_cancel', pos_of_dvd_of_pos, mul-dvd-mul_right, dvd_of_mul-dvd-mul_right}
use Rattle.std.proofs.lemmas.Nat.Gcd.{le_of_dvd}
use Rattle.std.proofs.lemmas.Int.{ints, unsigned_abs-mul, by_lt_z}
use lib.IntN.{*ℤ_comm, *ℤ-zero}
use Rattle.lattice_algebra.proofs.Ring.{known, var, con, ◌⊖◌, ◌⊗◌, neg, ring, ring_from}
use Rattle.lattice_algebra.proofs.Numbers.{positive_is, positive_size, not_below_product, more_at_most, cancel_at_most}
use Rattle.lattice_algebra.proofs.Quotients.{rem_of_multiple, multiple_of_quotient, signed_multiple}

coprime : (a b g n d : ℕ) → 0 < g → a * g ≡ n → b * g ≡ d → IsGcd n d g → IsGcd a b 1
coprime a b g n d some en ed h = (
  one-dvd a,
  one-dvd b,
  λ k ka kb.
      let kn : k * g ∣ n = subst (λ (m : ℕ). k * g ∣ m) en (mul-dvd-mul_right k ka g) in
      let kd : k * g ∣ d = subst (λ (m : ℕ). k * g ∣ m) ed (mul-dvd-mul_right k kb g) in
      let kg : k * g ∣ 1 * g = subst (λ (m : ℕ). k * g ∣ m) (omega arith) (h.2 (k * g) kn kd) in
      dvd_of_mul-dvd-mul_right k some kg,
)

positive_factor : (d g q : ℤ) → pos 0 <ℤ d → pos 0 <ℤ g → d ≡ q *ℤ g → pos 0 <ℤ q
positive_factor d g q some above e = by_lt_z (pos 0) q (λ l. l) (λ h. absurd (below (q *ℤ g) (neg_ℤ q *ℤ g) (ring (q ∷ g ∷ []) (neg (var 0) ⊗ var 1) (neg (var 0 ⊗ var 1)) tt) (subst (λ x. pos 0 <ℤ x) e some) (not_below_product (neg_ℤ q) g (omega (arith, ints)) (omega (arith, ints)))))
  where
    below : (a b : ℤ) → b ≡ neg_ℤ a → pos 0 <ℤ a → pos 0 ≤ℤ b → ⊥
    below a b e p q = omega (arith, ints, e)

factor_small : (q j k e : ℕ) → 0 < k → 0 < k * j → q * (k * j) ≡ k * e → q ≤ e
factor_small q zero k e k_some some same = absurd (omega arith)
factor_small q (suc j) k e k_some some same =
    let t : k * (q * suc j) ≡ k * e = omega (arith, same) in
    let u : q * suc j ≡ e = cancelled (q * suc j) e t in
    omega (arith, u)
  where
    cancelled : (a b : ℕ) → k * a ≡ k * b → a ≡ b
    cancelled a b h = grind arith

module _ (n d g : ℤ) (above : pos 0 <ℤ d) (some : pos 0 <ℤ g) (is : IsGcd (unsigned_abs n) (unsigned_abs d) (unsigned_abs g)) where
  exact : (x : ℤ) → unsigned_abs g ∣ unsigned_abs x → x ≡ int_div x g *ℤ g
  exact x h =
      let k = signed_multiple x (unsigned_abs g) h in
      let e : x ≡ k.0 *ℤ g = k.1 ∙ ap (λ v. v *ℤ k.0) (sym (positive_is g some)) ∙ *ℤ_comm g k.0 in
      multiple_of_quotient x g (rem_of_multiple x g k.0 (positive_size g some) e)

  abbrev p : ℤ
  p = int_div n g

  abbrev q : ℤ
  q = int_div d g

  pub same_value : p *ℤ d ≡ n *ℤ q
  same_value =
      ring_from (p ∷ q ∷ g ∷ n ∷ d ∷ []) (var 0 ⊗ var 4) (var 3 ⊗ var 1) (known (var 0) (var 4) (var 1 ⊗ var 2) ∷ known (neg (var 1)) (var 3) (var 0 ⊗ var 2) ∷ []) (exact d is.1, (exact n is.0, tt)) tt

  pub is_positive : pos 0 <ℤ q
  is_positive = positive_factor d g q above some (exact d is.1)

  pub in_lowest_terms : IsGcd (unsigned_abs p) (unsigned_abs q) 1
  in_lowest_terms =
      coprime (unsigned_abs p) (unsigned_abs q) (unsigned_abs g) (unsigned_abs n) (unsigned_abs d) (positive_size g some)
      (sym (ap unsigned_abs (exact n is.0) ∙ unsigned_abs-mul p g)) (sym (ap unsigned_abs (exact d is.1) ∙ unsigned_abs-mul q g)) is

  -- where both are multiples of k, the denominator is at most what k leaves of d
  pub is_small : (k e : ℕ) (m : ℤ) → 0 < k → n ≡ pos k *ℤ m → d ≡ pos (k * e) → q ≤ℤ pos e
  is_small k e m k_some en ed =
      let common : k ∣ unsigned_abs g = is.2 k (subst (λ x. k ∣ unsigned_abs x) (sym en) (subst (λ x. k ∣ x) (sym (unsigned_abs-mul (pos k) m)) (dvd-mul_right k (unsigned_abs m)))) (subst (λ x. k ∣ unsigned_abs x) (sym ed) (dvd-mul_right k e)) in
      let whole : unsigned_abs q * unsigned_abs g ≡ k * e = sym (ap unsigned_abs (exact d is.1) ∙ unsigned_abs-mul q g) ∙ ap unsigned_abs ed in
      let some_common : 0 < unsigned_abs g = positive_size g some in
      let l = factor_small (unsigned_abs q) (unsigned_abs g / k) k e k_some (subst (λ x. 0 < x) (sym (mul-div_cancel' k common)) some_common) (ap (λ x. unsigned_abs q * x) (mul-div_cancel' k common) ∙ whole) in
      omega (arith, ints, l)

-- ---- in the machine

-- the greatest common divisor of a number of 32 bits and another one
pub small_divisor : (n d g : ℕ) → 0 < d → d < 2 ^ 32 → IsGcd n d g → (0 < g) × (g < 2 ^ 63)
small_divisor n d g some l h = let le = le_of_dvd some h.1 in (pos_of_dvd_of_pos h.1 some, omega (arith, le, l))

-- ---- a fraction from 0 to below 1

pub in_cell : (p q s d : ℤ) → pos 0 <ℤ d → pos 0 <ℤ q → pos 0 ≤ℤ s → s <ℤ d → p *ℤ d ≡ s *ℤ q → (pos 0 ≤ℤ p) × (p <ℤ q)
in_cell p q s d above some least below e = (cancel_at_most d (pos 0) p above (at_least (d *ℤ pos 0) (d *ℤ p) (s *ℤ q) (*ℤ-zero d) (*ℤ_comm d p ∙ e) (not_below_product s q least (omega (arith, ints)))), by_lt_z p q (λ l. l) (λ h. absurd (too_far h)))
  where
    at_least : (a b c : ℤ) → a ≡ pos 0 → b ≡ c → pos 0 ≤ℤ c → a ≤ℤ b
    at_least a b c p q r = omega (arith, ints, p, q)

    far : (a b x y : ℤ) → a ≤ℤ b → b ≡ x → y ≡ a -ℤ x -ℤ q → pos 0 ≤ℤ y → ⊥
    far a b x y l e f m = omega (arith, ints, e, f)

    too_far : q ≤ℤ p → ⊥
    too_far h =
        far (d *ℤ q) (d *ℤ p) (s *ℤ q) ((d -ℤ s -ℤ pos 1) *ℤ q) (more_at_most d q p (omega (arith, ints)) h) (*ℤ_comm d p ∙ e)
        (ring (d ∷ s ∷ q ∷ []) ((var 0 ⊖ var 1 ⊖ con (pos 1)) ⊗ var 2) (var 0 ⊗ var 2 ⊖ var 1 ⊗ var 2 ⊖ var 2) tt)
        (not_below_product (d -ℤ s -ℤ pos 1) q (omega (arith, ints)) (omega (arith, ints)))
