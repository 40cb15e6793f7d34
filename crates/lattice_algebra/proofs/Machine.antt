-- What the machine computes: sums and products of numbers of fixed width, where each number has a bound.
-- `size b e` bounds the size of e, where b bounds the variables. `fits` shows that no step of e leaves the width, and `computed` that the machine gets the value of e.
use Rattle.std.proofs.Common.{◌≡◌, ℕ, zero, suc, ◌+◌, ◌*◌, ◌^◌, ◌≤◌, ◌<◌, Bool, ◌&&◌, ltb, List, [], ◌∷◌, ℤ, ◌+ℤ◌, ◌-ℤ◌, ◌*ℤ◌, neg_ℤ, unsigned_abs, FitsSigned, T, arith, refl, sym, ap, ap₂, ◌∙◌, subst, to_z, of_z, mul-le-mul, le_refl, lt_of_le_of_lt}
use Rattle.std.proofs.lemmas.Int.{to_z-of_z, unsigned_abs-mul, fits_signed_from_abs}
use Rattle.std.specs.Int.{Width}
use mir.Val.{hbits}
use mir.Syntax.{w32}
use lib.Dec.{ltb→lt}
use Rattle.lattice_algebra.proofs.Ring.{Expr, var, con, ◌⊕◌, ◌⊖◌, ◌⊗◌, neg, value, look, both}
use Rattle.lattice_algebra.proofs.Numbers.{abs_add, abs_neg}

abbrev pub bound_at : List ℕ → ℕ → ℕ
bound_at [] n = 0
bound_at (b ∷ bs) zero = b
bound_at (b ∷ bs) (suc n) = bound_at bs n

-- each variable has its bound
abbrev pub IsWithin : List ℕ → List ℤ → Type 0
IsWithin bs [] = Unit {0}
IsWithin [] (x ∷ xs) = ⊥
IsWithin (b ∷ bs) (x ∷ xs) = (unsigned_abs x ≤ b) × IsWithin bs xs

abbrev pub size : List ℕ → Expr → ℕ
size b (var v) = bound_at b v
size b (con c) = unsigned_abs c
size b (x ⊕ y) = size b x + size b y
size b (x ⊖ y) = size b x + size b y
size b (x ⊗ y) = size b x * size b y
size b (neg x) = size b x

-- every step of e is below h
abbrev pub steps_below : ℕ → List ℕ → Expr → Bool
steps_below h b (var v) = ltb (bound_at b v) h
steps_below h b (con c) = ltb (unsigned_abs c) h
steps_below h b (x ⊕ y) = ltb (size b x + size b y) h && (steps_below h b x && steps_below h b y)
steps_below h b (x ⊖ y) = ltb (size b x + size b y) h && (steps_below h b x && steps_below h b y)
steps_below h b (x ⊗ y) = ltb (size b x * size b y) h && (steps_below h b x && steps_below h b y)
steps_below h b (neg x) = ltb (size b x) h && steps_below h b x

-- what a number is after it went to bits
abbrev pub back : Width → ℤ → ℤ
back w z = to_z w (of_z w z)

-- what the machine computes, before its last step goes to bits
abbrev pub machine : Width → List ℤ → Expr → ℤ
machine w r (var v) = look r v
machine w r (con c) = c
machine w r (x ⊕ y) = back w (machine w r x) +ℤ back w (machine w r y)
machine w r (x ⊖ y) = back w (machine w r x) -ℤ back w (machine w r y)
machine w r (x ⊗ y) = back w (machine w r x) *ℤ back w (machine w r y)
machine w r (neg x) = neg_ℤ (back w (machine w r x))

look-size : (b : List ℕ) (r : List ℤ) (v : ℕ) → IsWithin b r → unsigned_abs (look r v) ≤ bound_at b v
look-size b [] v h = omega arith
look-size [] (x ∷ r) v h = absurd h
look-size (b ∷ bs) (x ∷ r) zero h = h.0
look-size (b ∷ bs) (x ∷ r) (suc v) h = look-size bs r v h.1

-- the size of the value
pub value-size : (b : List ℕ) (r : List ℤ) (e : Expr) → IsWithin b r → unsigned_abs (value r e) ≤ size b e
value-size b r (var v) h = look-size b r v h
value-size b r (con c) h = le_refl (unsigned_abs c)
value-size b r (x ⊕ y) h = omega (arith, abs_add (value r x) (value r y), value-size b r x h, value-size b r y h)
value-size b r (x ⊖ y) h = omega (arith, abs_add (value r x) (neg_ℤ (value r y)), abs_neg (value r y), value-size b r x h, value-size b r y h)
value-size b r (x ⊗ y) h = rw (unsigned_abs-mul (value r x) (value r y)) (mul-le-mul (value-size b r x h) (value-size b r y h))
value-size b r (neg x) h = rw (abs_neg (value r x)) (value-size b r x h)

top_below : (h : ℕ) (b : List ℕ) (e : Expr) → T (steps_below h b e) → size b e < h
top_below h b (var v) t = ltb→lt (bound_at b v) h t
top_below h b (con c) t = ltb→lt (unsigned_abs c) h t
top_below h b (x ⊕ y) t = ltb→lt (size b x + size b y) h (both _ _ t).0
top_below h b (x ⊖ y) t = ltb→lt (size b x + size b y) h (both _ _ t).0
top_below h b (x ⊗ y) t = ltb→lt (size b x * size b y) h (both _ _ t).0
top_below h b (neg x) t = ltb→lt (size b x) h (both _ _ t).0

value_fits : (w : Width) (b : List ℕ) (r : List ℤ) (e : Expr) → IsWithin b r → T (steps_below (2 ^ hbits w) b e) → FitsSigned w (value r e)
value_fits w b r e h t = fits_signed_from_abs w (value r e) (lt_of_le_of_lt (value-size b r e h) (top_below (2 ^ hbits w) b e t))

back_of : (w : Width) (b : List ℕ) (r : List ℤ) (e : Expr) → IsWithin b r → T (steps_below (2 ^ hbits w) b e) → machine w r e ≡ value r e → back w (machine w r e) ≡ value r e
back_of w b r e h t p = ap (back w) p ∙ to_z-of_z w (value r e) (value_fits w b r e h t)

pub exact : (w : Width) (b : List ℕ) (r : List ℤ) (e : Expr) → IsWithin b r → T (steps_below (2 ^ hbits w) b e) → machine w r e ≡ value r e
exact w b r (var v) h t = refl
exact w b r (con c) h t = refl
exact w b r (x ⊕ y) h t =
    let u = both _ _ (both _ _ t).1 in
    ap₂ (λ m n. m +ℤ n) (back_of w b r x h u.0 (exact w b r x h u.0)) (back_of w b r y h u.1 (exact w b r y h u.1))
exact w b r (x ⊖ y) h t =
    let u = both _ _ (both _ _ t).1 in
    ap₂ (λ m n. m -ℤ n) (back_of w b r x h u.0 (exact w b r x h u.0)) (back_of w b r y h u.1 (exact w b r y h u.1))
exact w b r (x ⊗ y) h t =
    let u = both _ _ (both _ _ t).1 in
    ap₂ (λ m n. m *ℤ n) (back_of w b r x h u.0 (exact w b r x h u.0)) (back_of w b r y h u.1 (exact w b r y h u.1))
exact w b r (neg x) h t = let u = both _ _ t in ap neg_ℤ (back_of w b r x h u.1 (exact w b r x h u.1))

-- an `overflow` goal: the last step of e fits
pub fits : (w : Width) (b : List ℕ) (r : List ℤ) (e : Expr) → IsWithin b r → T (steps_below (2 ^ hbits w) b e) → FitsSigned w (machine w r e)
fits w b r e h t = subst (FitsSigned w) (sym (exact w b r e h t)) (value_fits w b r e h t)

-- a `returns` goal: the machine's answer is the value of e
pub computed : (w : Width) (b : List ℕ) (r : List ℤ) (e : Expr) → IsWithin b r → T (steps_below (2 ^ hbits w) b e) → back w (machine w r e) ≡ value r e
computed w b r e h t = back_of w b r e h t (exact w b r e h t)

-- and its size
pub computed-size : (w : Width) (b : List ℕ) (r : List ℤ) (e : Expr) → IsWithin b r → T (steps_below (2 ^ hbits w) b e) → unsigned_abs (back w (machine w r e)) ≤ size b e
computed-size w b r e h t = rw (computed w b r e h t) (value-size b r e h)

-- a number that a call returned, put into a field
pub read : (w : Width) (x y : ℤ) → FitsSigned w x → x ≡ y → back w x ≡ y
read w x y f e = to_z-of_z w x f ∙ e

pub ruleset trips = (to_z-of_z)

-- a number of known size is the same after it went to bits
pub kept : (w : Width) (n : ℕ) (x : ℤ) → unsigned_abs x ≤ n → T (ltb n (2 ^ hbits w)) → back w x ≡ x
kept w n x h t = to_z-of_z w x (fits_signed_from_abs w x (lt_of_le_of_lt h (ltb→lt n (2 ^ hbits w) t)))

-- `i64::from(x)`, at an x of known size
pub widened : {x : ℤ} (n : ℕ) (y : ℤ) → x ≡ back w32 y → unsigned_abs y ≤ n → T (ltb n (2 ^ 31)) → x ≡ y
widened {x} n y e h t = e ∙ kept w32 n y h t
