-- A fraction divided by the greatest common divisor of its numbers is in lowest terms.
use Rattle.std.proofs.Common.{◌≡◌, ℕ, ◌+◌, zero, suc, Bool, true, false, cond, eqb, ◌∷◌, ◌++◌, ◌^◌, length, decimal, length-append, lt_of_le_of_lt, ◌*◌, ◌/◌, ◌%◌, ◌<◌, ◌≤◌, inl, inr, sym, ap, ap₂, List, ℤ, pos, negsuc, ◌*ℤ◌, ◌<ℤ◌, unsigned_abs, subst, ◌∙◌, arith, refl}
use Rattle.std.specs.Int.{IsGcd, ◌∣◌}
use Rattle.std.proofs.Math.Nat.{one-dvd, dvd-mul_right, pos_of_dvd_of_pos, div-mul_cancel, mul-dvd-mul_right, dvd_of_mul-dvd-mul_right, mul_assoc, mul_comm, mul-div_cancel_left, mul-mod_right, eq_of_mul-eq-mul_right, div-le_self}
use Rattle.std.proofs.lemmas.Bool.Decides.{eqb_tells}
use Rattle.std.proofs.lemmas.Fmt.{length-decimal-le_wide}
use Rattle.std.proofs.lemmas.Nat.Gcd.{IsGcd-from_zero, IsGcd-from_mod, same_from_IsGcd, le_of_dvd, dvd_of_mod-eq-zero, mod-eq-zero_of_dvd}
use Rattle.std.proofs.lemmas.Int.{ints, unsigned_abs-mul}
use lib.Arith.{mod-mul}
use Rattle.lattice_algebra.proofs.Numbers.{some_gcd}
use Rattle.triplet_text.specs.Bytes.{slash, minus_sign}
use Rattle.triplet_text.specs.Fractions.{common_divisor_up_to, gcd, quotient_text, fraction_text, frac_text}

pub positive : (n d g : ℕ) → 0 < d → IsGcd n d g → 0 < g
positive n d g some h = pos_of_dvd_of_pos h.1 some

-- ---- the greatest number that divides both is the greatest common divisor

one_less : (m g k : ℕ) → g ∣ m → (m % suc k ≡ 0 → ⊥) → g ≤ suc k → g ≤ k
one_less m g k h other le =
    let ne : g ≡ suc k → ⊥ = λ e. other (subst (λ (i : ℕ). m % i ≡ 0) e (mod-eq-zero_of_dvd g h)) in
    omega arith

up_to : (n d g k : ℕ) → 0 < g → IsGcd n d g → g ≤ k → common_divisor_up_to n d k ≡ g
unfolding common_divisor_up_to
up_to n d g zero some h le = absurd (omega arith)
up_to n d g (suc k) some h le =
    elim (eqb_tells (n % suc k) 0) [
      | inl p ↦ elim (eqb_tells (d % suc k) 0) [
        | inl q ↦ let lower : suc k ≤ g = le_of_dvd some (h.2 (suc k) (dvd_of_mod-eq-zero (suc k) p.1) (dvd_of_mod-eq-zero (suc k) q.1)) in rw (p.0, q.0) (omega arith)
        | inr q ↦ rw (p.0, q.0) (up_to n d g k some h (one_less d g k h.1 q.1 le))
      ]
      | inr p ↦ rw p.0 (up_to n d g k some h (one_less n g k h.0 p.1 le))
    ]

pub gcd_is : (n d g : ℕ) → 0 < d → IsGcd n d g → gcd n d ≡ g
gcd_is n d g some h = up_to n d g d (positive n d g some h) h (le_of_dvd some h.1)

-- ---- lowest terms

coprime : (a b g n d : ℕ) → 0 < g → a * g ≡ n → b * g ≡ d → IsGcd n d g → IsGcd a b 1
coprime a b g n d some en ed h = (
  one-dvd a,
  one-dvd b,
  λ k ka kb.
      let kn : k * g ∣ n = subst (λ (m : ℕ). k * g ∣ m) en (mul-dvd-mul_right k ka g) in
      let kd : k * g ∣ d = subst (λ (m : ℕ). k * g ∣ m) ed (mul-dvd-mul_right k kb g) in
      let kg : k * g ∣ 1 * g = subst (λ (m : ℕ). k * g ∣ m) (omega arith) (h.2 (k * g) kn kd) in
      dvd_of_mul-dvd-mul_right k some kg,
)

cross : (a b g n d : ℕ) → a * g ≡ n → b * g ≡ d → a * d ≡ n * b
cross a b g n d en ed = rw (← en, ← ed) (sym (mul_assoc a b g) ∙ ap (λ (m : ℕ). m * g) (mul_comm a b) ∙ mul_assoc b a g ∙ mul_comm b (a * g))

-- p over q is n over d in lowest terms
pub record IsLowest (n d p q : ℕ) : Type 0 where
  pub coprime : IsGcd p q 1
  pub same : p * d ≡ n * q
  pub positive : 0 < q

lowest_by : (n d g : ℕ) → 0 < d → IsGcd n d g → IsLowest n d (n / g) (d / g)
lowest_by n d g some h =
    let en : n / g * g ≡ n = div-mul_cancel g h.0 in
    let ed : d / g * g ≡ d = div-mul_cancel g h.1 in
    record { coprime = coprime (n / g) (d / g) g n d (positive n d g some h) en ed h; same = cross (n / g) (d / g) g n d en ed; positive = pos_of_dvd_of_pos (dvd-mul_right (d / g) g) (rw ed some) }

pub is_lowest : (n d : ℕ) → 0 < d → IsLowest n d (n / gcd n d) (d / gcd n d)
is_lowest n d some =
    let r = some_gcd n d in
    subst (λ (g : ℕ). IsLowest n d (n / g) (d / g)) (sym (gcd_is n d r.0 some r.1)) (lowest_by n d r.0 some r.1)

-- ---- equal fractions have one text

mod_scaled : (k n d : ℕ) → 0 < k → 0 < d → k * n % (k * d) ≡ k * (n % d)
mod_scaled k n d some other =
    let whole : k * n / k ≡ n = mul-div_cancel_left n some in
    let none : k * n % k ≡ 0 = mul-mod_right k n in
    ap (λ (m : ℕ). k * n % m) (mul_comm k d) ∙ mod-mul (k * n) other some ∙ rw (whole, none) (omega arith)

-- the greatest common divisor of multiples
scaled_gcd : (fuel k n d : ℕ) → 0 < k → d ≤ fuel → (g : ℕ) → IsGcd n d g → IsGcd (k * n) (k * d) (k * g)
scaled_gcd fuel k n zero some le g h = subst (λ (m : ℕ). IsGcd (k * n) (k * zero) (k * m)) (same_from_IsGcd n zero n g (IsGcd-from_zero n zero refl) h) (IsGcd-from_zero (k * n) (k * zero) (omega arith))
scaled_gcd zero k n (suc d) some le g h = absurd (omega arith)
scaled_gcd (suc fuel) k n (suc d) some le g h =
    let r = some_gcd (suc d) (n % suc d) in
    let same : r.0 ≡ g = same_from_IsGcd n (suc d) r.0 g (IsGcd-from_mod n (suc d) r.0 r.1) h in
    let less : n % suc d ≤ fuel = omega arith in
    let step = scaled_gcd fuel k (suc d) (n % suc d) some less r.0 r.1 in
    subst (λ (m : ℕ). IsGcd (k * n) (k * suc d) (k * m)) same (IsGcd-from_mod (k * n) (k * suc d) (k * r.0) (subst (λ (m : ℕ). IsGcd (k * suc d) m (k * r.0)) (sym (mod_scaled k n (suc d) some (omega arith))) step))

-- equal parts are left over where two quotients differ by common factors alone
left_over : (p q p' q' g h : ℕ) → 0 < g → 0 < h → 0 < q → q' * h * g ≡ q * g * h → p * g * (q' * h) ≡ p' * h * (q * g) → (p ≡ p') × (q ≡ q')
left_over p q p' q' g h sg sh sq e f =
    let sgh : 0 < g * h = grind arith in
    let same : q ≡ q' = eq_of_mul-eq-mul_right (g * h) sgh q q' (omega (arith, e)) in
    let cross : p * q' ≡ p' * q = eq_of_mul-eq-mul_right (g * h) sgh (p * q') (p' * q) (omega (arith, f)) in
    (eq_of_mul-eq-mul_right q sq p p' (ap (λ (x : ℕ). p * x) same ∙ cross), same)

-- two fractions with one value are one fraction in lowest terms
pub one_value : (n d m e : ℕ) → 0 < d → 0 < e → n * e ≡ m * d → (n / gcd n d ≡ m / gcd m e) × (d / gcd n d ≡ e / gcd m e)
one_value n d m e pd pe same =
    let r = some_gcd n d in
    let s = some_gcd m e in
    let pr = positive n d r.0 pd r.1 in
    let ps = positive m e s.0 pe s.1 in
    let left : IsGcd (e * n) (e * d) (e * r.0) = scaled_gcd d e n d pe (omega arith) r.0 r.1 in
    let right : IsGcd (d * m) (d * e) (d * s.0) = scaled_gcd e d m e pd (omega arith) s.0 s.1 in
    let en : e * n ≡ d * m = omega (arith, mul_comm e n, mul_comm d m) in
    let both : e * r.0 ≡ d * s.0 = same_from_IsGcd (e * n) (e * d) (e * r.0) (d * s.0) left (rw (en, mul_comm e d) right) in
    let q = d / r.0 in
    let q' = e / s.0 in
    let eq : q * r.0 ≡ d = div-mul_cancel r.0 r.1.1 in
    let eq' : q' * s.0 ≡ e = div-mul_cancel s.0 s.1.1 in
    let ep : n / r.0 * r.0 ≡ n = div-mul_cancel r.0 r.1.0 in
    let ep' : m / s.0 * s.0 ≡ m = div-mul_cancel s.0 s.1.0 in
    let gr : gcd n d ≡ r.0 = gcd_is n d r.0 pd r.1 in
    let gs : gcd m e ≡ s.0 = gcd_is m e s.0 pe s.1 in
    let sq : 0 < q = pos_of_dvd_of_pos (dvd-mul_right q r.0) (rw eq pd) in
    rw (gr, gs) (left_over (n / r.0) q (m / s.0) q' r.0 s.0 pr ps sq (rw (eq, eq') both) (rw (ep, ep', eq, eq') same))

pub same_text : (n d m e : ℕ) → 0 < d → 0 < e → n * e ≡ m * d → fraction_text n d ≡ fraction_text m e
same_text n d m e pd pe same = let v = one_value n d m e pd pe same in ap₂ quotient_text v.0 v.1

sizes : (n m d e : ℤ) → n *ℤ e ≡ m *ℤ d → unsigned_abs n * unsigned_abs e ≡ unsigned_abs m * unsigned_abs d
sizes n m d e same = sym (unsigned_abs-mul n e) ∙ ap unsigned_abs same ∙ unsigned_abs-mul m d

pub one_text : (n m d e : ℤ) → pos 0 <ℤ d → pos 0 <ℤ e → n *ℤ e ≡ m *ℤ d → frac_text n d ≡ frac_text m e
one_text n m (negsuc d) e pd pe same = absurd (omega (arith, ints))
one_text n m (pos d) (negsuc e) pd pe same = absurd (omega (arith, ints))
one_text n m (pos zero) (pos e) pd pe same = absurd (omega (arith, ints))
one_text n m (pos (suc d)) (pos zero) pd pe same = absurd (omega (arith, ints))
one_text (pos n) (pos m) (pos (suc d)) (pos (suc e)) pd pe same = same_text n (suc d) m (suc e) (omega arith) (omega arith) (sizes (pos n) (pos m) (pos (suc d)) (pos (suc e)) same)
one_text (negsuc n) (negsuc m) (pos (suc d)) (pos (suc e)) pd pe same = ap (λ (t : List ℕ). minus_sign ∷ t) (same_text (suc n) (suc d) (suc m) (suc e) (omega arith) (omega arith) (sizes (negsuc n) (negsuc m) (pos (suc d)) (pos (suc e)) same))
one_text (pos n) (negsuc m) (pos (suc d)) (pos (suc e)) pd pe same = absurd (omega (arith, ints, same))
one_text (negsuc n) (pos m) (pos (suc d)) (pos (suc e)) pd pe same = absurd (omega (arith, ints, same))

-- ---- lengths

-- a number of at most k digits, in the machine
abbrev pub HasDigits : ℕ → ℕ → Type 0
HasDigits k n = (n < 10 ^ k) × (n < 2 ^ 128)

decimal_short : (k n : ℕ) → 0 < k → HasDigits k n → length (decimal n) ≤ k
decimal_short k n some h = length-decimal-le_wide k n some h.0 (omega (arith, h.1))

quotient_short : (k l p q : ℕ) → 0 < k → 0 < l → HasDigits k p → HasDigits l q → length (quotient_text p q) ≤ k + 1 + l
quotient_short k l p q pk pl hp hq = by (eqb q 1)
  where
    by : (b : Bool) → length (cond b (decimal p) (decimal p ++ slash ∷ decimal q)) ≤ k + 1 + l
    by true = omega (arith, decimal_short k p pk hp)
    by false = omega (arith, decimal_short k p pk hp, decimal_short l q pl hq, length-append (decimal p) (slash ∷ decimal q))

quotient_below : (k a g : ℕ) → HasDigits k a → HasDigits k (a / g)
quotient_below k a g h = (lt_of_le_of_lt (div-le_self a g) h.0, lt_of_le_of_lt (div-le_self a g) h.1)

pub fraction_short : (k l n d : ℕ) → 0 < k → 0 < l → HasDigits k n → HasDigits l d → length (fraction_text n d) ≤ k + 1 + l
fraction_short k l n d pk pl hn hd = quotient_short k l (n / gcd n d) (d / gcd n d) pk pl (quotient_below k n (gcd n d) hn) (quotient_below l d (gcd n d) hd)
