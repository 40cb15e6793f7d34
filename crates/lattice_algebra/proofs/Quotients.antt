-- Quotients that are whole.
use Rattle.std.proofs.Common.{◌≡◌, ◌∷◌, [], ◌≤◌, ◌<◌, ◌*◌, ◌/◌, ℕ, suc, ℤ, pos, negsuc, ◌+ℤ◌, ◌-ℤ◌, ◌*ℤ◌, neg_ℤ, unsigned_abs, int_div, int_rem, ap, sym, ◌∙◌, arith}
use Rattle.std.specs.Int.{◌∣◌}
use Rattle.std.proofs.Math.Nat.{mul-div_cancel'}
use Rattle.std.proofs.lemmas.Int.{ints, quot-rem, rem_below, unsigned_abs-mul}
use Rattle.lattice_algebra.proofs.Ring.{known, var, con, neg, ◌⊕◌, ◌⊖◌, ◌⊗◌, ring, ring_from}
use Rattle.lattice_algebra.proofs.Numbers.{small_multiple}

rest_is : (q r n k d : ℤ) → q *ℤ d +ℤ r ≡ n → n ≡ k *ℤ d → r ≡ (k -ℤ q) *ℤ d
rest_is q r n k d e f =
    let Q = var 0 in
    let R = var 1 in
    let N = var 2 in
    let K = var 3 in
    let D = var 4 in
    ring_from (q ∷ r ∷ n ∷ k ∷ d ∷ []) R ((K ⊖ Q) ⊗ D) (known (con (pos 1)) (Q ⊗ D ⊕ R) N ∷ known (con (pos 1)) N (K ⊗ D) ∷ []) (e, (f, tt)) tt

none_left : (x r d : ℤ) → r ≡ x *ℤ d → x ≡ pos 0 → r ≡ pos 0
none_left x r d e z = e ∙ ap (λ v. v *ℤ d) z ∙ ring (d ∷ []) (con (pos 0) ⊗ var 0) (con (pos 0)) tt

-- a multiple leaves no remainder
pub rem_of_multiple : (n d k : ℤ) → 0 < unsigned_abs d → n ≡ k *ℤ d → int_rem n d ≡ pos 0
rem_of_multiple n d k some e =
    let r = rest_is (int_div n d) (int_rem n d) n k d (quot-rem n d) e in
    none_left (k -ℤ int_div n d) (int_rem n d) d r (small_multiple d (k -ℤ int_div n d) (int_rem n d) r (rem_below n d some))

-- and what leaves none is one
pub multiple_of_quotient : (n d : ℤ) → int_rem n d ≡ pos 0 → n ≡ int_div n d *ℤ d
multiple_of_quotient n d z = let e = quot-rem n d in omega (arith, ints, e, z)

cancel_size : (a m d : ℕ) → 0 < d → a * d ≤ m * d → a ≤ m
cancel_size a m d h l = grind arith

-- the size of the quotient
pub quotient_within : (n d k : ℤ) (m : ℕ) → 0 < unsigned_abs d → n ≡ k *ℤ d → unsigned_abs n ≤ m * unsigned_abs d → unsigned_abs k ≤ m
quotient_within n d k m some e h =
    let s : unsigned_abs n ≡ unsigned_abs k * unsigned_abs d = ap unsigned_abs e ∙ unsigned_abs-mul k d in
    cancel_size (unsigned_abs k) m (unsigned_abs d) some (omega (arith, s, h))

-- what a number divides the size of is a multiple of it
pub signed_multiple : (x : ℤ) (g : ℕ) → g ∣ unsigned_abs x → (b : ℤ) × (x ≡ pos g *ℤ b)
signed_multiple (pos n) g h = (pos (n / g), ap pos (sym (mul-div_cancel' g h)))
signed_multiple (negsuc n) g h = (
  neg_ℤ (pos (suc n / g)),
  ap (λ m. neg_ℤ (pos m)) (sym (mul-div_cancel' g h)) ∙ ring (pos g ∷ pos (suc n / g) ∷ []) (neg (var 0 ⊗ var 1)) (var 0 ⊗ neg (var 1)) tt,
)
