-- The direction of a column: the sign of its first entry other than 0.
use Rattle.std.proofs.Common.{◌≡◌, ◌≢◌, ◌⊎◌, inl, inr, ⊎_elim, ◌↔◌, ◌∷◌, [], ℕ, zero, suc, ◌<◌, ◌≤◌, ℤ, pos, negsuc, ◌*ℤ◌, ◌<ℤ◌, neg_ℤ, unsigned_abs, ap, ap₂, sym, subst, ◌∙◌, refl, arith}
use Rattle.std.proofs.lemmas.Int.{ints, by_lt_z}
use lib.IntN.{zero-*ℤ, *ℤ-zero}
use Rattle.lattice_algebra.specs.Matrix.{Column, times, origin}
use Rattle.lattice_algebra.specs.Operator.{AreWithin}
use Rattle.lattice_algebra.proofs.Ring.{var, ◌⊗◌, neg, ring}
use Rattle.lattice_algebra.proofs.Numbers.{zero_or_other, cancel_some}
use Rattle.op_types.specs.Axis.{IsDirected}

-- ---- the first of two numbers, or the second where the first is 0

abbrev lead : ℤ → ℤ → ℤ
lead (pos zero) y = y
lead (pos (suc n)) y = pos (suc n)
lead (negsuc n) y = negsuc n

lead_other : (x y : ℤ) → x ≢ pos 0 → lead x y ≡ x
lead_other (pos zero) y some = absurd (some refl)
lead_other (pos (suc n)) y some = refl
lead_other (negsuc n) y some = refl

scaled_other : (k x y : ℤ) → x ≢ pos 0 → lead (k *ℤ x) (k *ℤ y) ≡ k *ℤ x
scaled_other k x y some =
    ⊎_elim (λ z. subst (λ v. lead (v *ℤ x) (v *ℤ y) ≡ v *ℤ x) (sym z) (ap₂ lead (zero-*ℤ x) (zero-*ℤ y) ∙ sym (zero-*ℤ x)))
    (λ other. lead_other (k *ℤ x) (k *ℤ y) (λ e. some (cancel_some k x (pos 0) other (e ∙ sym (*ℤ-zero k)))))
    (zero_or_other k)

lead_times : (k x y : ℤ) → lead (k *ℤ x) (k *ℤ y) ≡ k *ℤ lead x y
lead_times k (pos zero) y = ap (λ v. lead v (k *ℤ y)) (*ℤ-zero k)
lead_times k (pos (suc n)) y = scaled_other k (pos (suc n)) y (λ e. omega (arith, ints, e))
lead_times k (negsuc n) y = scaled_other k (negsuc n) y (λ e. omega (arith, ints, e))

no_lead : (x y : ℤ) → lead x y ≡ pos 0 → (x ≡ pos 0) × (y ≡ pos 0)
no_lead (pos zero) y e = (refl, e)
no_lead (pos (suc n)) y e = absurd (omega (arith, ints, e))
no_lead (negsuc n) y e = absurd (omega (arith, ints, e))

lead_within : (n : ℕ) (x y : ℤ) → unsigned_abs x ≤ n → unsigned_abs y ≤ n → unsigned_abs (lead x y) ≤ n
lead_within n (pos zero) y p q = q
lead_within n (pos (suc m)) y p q = p
lead_within n (negsuc m) y p q = p

directed_lead : (x y : ℤ) (P : Type 0) → P ↔ (pos 0 <ℤ y) → ((pos 0 <ℤ x) ⊎ ((x ≡ pos 0) × P)) ↔ (pos 0 <ℤ lead x y)
directed_lead (pos zero) y P h = (λ d. ⊎_elim (λ l. absurd (omega (arith, ints, l))) (λ r. h.0 r.1) d, λ l. inr (refl, h.1 l))
directed_lead (pos (suc n)) y P h = (λ d. omega (arith, ints), λ l. inl l)
directed_lead (negsuc n) y P h = (λ d. ⊎_elim (λ l. l) (λ r. absurd (omega (arith, ints, r.0))) d, λ l. inl l)

-- ---- the first entry of a column other than 0

abbrev pub leading : Column → ℤ
leading c = lead c.x (lead c.y c.z)

pub directed_leading : (c : Column) → IsDirected c ↔ (pos 0 <ℤ leading c)
directed_leading c = directed_lead c.x (lead c.y c.z) _ (directed_lead c.y c.z _ (λ l. l, λ l. l))

pub leading_times : (k : ℤ) (c : Column) → leading (times k c) ≡ k *ℤ leading c
unfolding times
leading_times k c = ap (lead (k *ℤ c.x)) (lead_times k c.y c.z) ∙ lead_times k c.x (lead c.y c.z)

pub no_leading : (c : Column) → leading c ≡ pos 0 → c ≡ origin
no_leading c e = let h = no_lead c.x (lead c.y c.z) e in let t = no_lead c.y c.z h.1 in λ i. record { x = h.0 i; y = t.0 i; z = t.1 i }

pub leading_within : (n : ℕ) (c : Column) → AreWithin n c.x c.y c.z → unsigned_abs (leading c) ≤ n
leading_within n c w = lead_within n c.x (lead c.y c.z) w.first (lead_within n c.y c.z w.second w.third)

-- ---- what is left when a column is divided by a positive number or by its opposite

-- where g is positive, g y has the sign of y
positive_factor : (g : ℕ) (x y : ℤ) → 0 < g → x ≡ pos g *ℤ y → pos 0 <ℤ x → pos 0 <ℤ y
positive_factor g x (pos zero) p e l = absurd (omega (arith, ints, e))
positive_factor g x (pos (suc n)) p e l = omega (arith, ints)
positive_factor g x (negsuc n) p e l = absurd (omega (arith, ints, e))

pub directed_part : (g : ℕ) (c b : Column) → 0 < g → c ≡ times (pos g) b → IsDirected c → IsDirected b
directed_part g c b p e d = (directed_leading b).1 (positive_factor g (leading c) (leading b) p (ap leading e ∙ leading_times (pos g) b) ((directed_leading c).0 d))

negative : (x : ℤ) → x ≢ pos 0 → (pos 0 <ℤ x → ⊥) → pos 0 <ℤ neg_ℤ x
negative x some other = by_lt_z (pos 0) x (λ l. absurd (other l)) (λ h. omega (arith, ints, some))

pub directed_opposite : (g : ℕ) (c b : Column) → 0 < g → c ≡ times (neg_ℤ (pos g)) b → c ≢ origin → (IsDirected c → ⊥) → IsDirected b
directed_opposite g c b p e some other =
    let below = negative (leading c) (λ z. some (no_leading c z)) (λ l. other ((directed_leading c).1 l)) in
    let opposite = ap (λ v. neg_ℤ (leading v)) e ∙ ap neg_ℤ (leading_times (neg_ℤ (pos g)) b) ∙ ring (pos g ∷ leading b ∷ []) (neg (neg (var 0) ⊗ var 1)) (var 0 ⊗ var 1) tt in
    (directed_leading b).1 (positive_factor g (neg_ℤ (leading c)) (leading b) p opposite below)
