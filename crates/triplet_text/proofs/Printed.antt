-- Texts that are printed piece by piece.
use Rattle.std.proofs.Common.{◌≡◌, ℤ, pos, negsuc, zero, suc, cond, eqb, true, false, Bool, List, ℕ, [], ◌∷◌, ◌++◌, ◌+◌, ◌^◌, ◌<◌, ◌≤◌, length, unsigned_abs, FitsSigned, arith, length-append, to_z, of_z, to_z-of_z, w32, w64, refl, sym, subst, ap, ap₂, ◌∙◌}
use Rattle.std.specs.Int.{w128}
use Rattle.std.proofs.lemmas.Int.{ints}
use Rattle.triplet_text.specs.Bytes.{star}
use Rattle.triplet_text.specs.Fractions.{fraction_text, frac_text}
use Rattle.triplet_text.specs.Printing.{AreBelow, component_text, joined, multiple_text, coefficient_text, constant_text, terms_text, or_zero}
use Rattle.triplet_text.proofs.LowestTerms.{fraction_short}

pub joined_is : {old text term piece : List ℕ} → old ≡ text → term ≡ piece → joined old term ≡ joined text piece
joined_is e d = λ i. joined (e i) (d i)

-- numbers that were passed to a function
abbrev pub passed : ℤ → ℤ
passed n = to_z w32 (of_z w32 n)

abbrev pub passed_parts : ℤ → ℤ
passed_parts n = to_z w64 (of_z w64 n)

pub record ArePassed (x y z parts : ℤ) : Type 0 where
  pub first : passed x ≡ x
  pub second : passed y ≡ y
  pub third : passed z ≡ z
  pub constant : passed_parts parts ≡ parts

pub are_passed : (x y z parts : ℤ) → FitsSigned w32 x → FitsSigned w32 y → FitsSigned w32 z → FitsSigned w64 parts → ArePassed x y z parts
are_passed x y z parts f g h i = record { first = to_z-of_z f; second = to_z-of_z g; third = to_z-of_z h; constant = to_z-of_z i }

pub terms_is : (d : ℕ) (x y z parts : ℤ) → ArePassed x y z parts → terms_text d (passed x) (passed y) (passed z) (passed_parts parts) ≡ terms_text d x y z parts
terms_is d x y z parts p = λ i. terms_text d (p.first i) (p.second i) (p.third i) (p.constant i)

pub component_is : (d : ℕ) (x y z parts : ℤ) → ArePassed x y z parts → component_text d (passed x) (passed y) (passed z) (passed_parts parts) ≡ component_text d x y z parts
component_is d x y z parts p = ap or_zero (terms_is d x y z parts p)

pub below_passed : (limit : ℕ) (x y z parts : ℤ) → ArePassed x y z parts → AreBelow limit x y z → AreBelow limit (passed x) (passed y) (passed z)
below_passed limit x y z parts p h = (subst (λ n. unsigned_abs n < limit) (sym p.first) h.0, subst (λ n. unsigned_abs n < limit) (sym p.second) h.1, subst (λ n. unsigned_abs n < limit) (sym p.third) h.2)

-- a text that is not empty stands as it is
pub kept : (text : List ℕ) → eqb (length text) 0 ≡ false → or_zero text ≡ text
kept [] some = absurd cc
kept (byte ∷ text) some = refl

pub constant_is : (d : ℕ) (n : ℤ) → (n ≡ pos 0 → ⊥) → frac_text n (pos d) ≡ constant_text d n
constant_is d (pos zero) some = absurd (some refl)
constant_is d (pos (suc n)) some = refl
constant_is d (negsuc n) some = refl

pub constant_passed : (d : ℕ) (n a b : ℤ) → d < 2 ^ 32 → FitsSigned w64 n → (of_z w64 n ≡ 0 → ⊥) → a ≡ passed_parts n → b ≡ pos d → frac_text (to_z w128 (of_z w128 a)) (to_z w128 (of_z w128 b)) ≡ constant_text d n
constant_passed d n a b few small some over under =
    let p : to_z w128 (of_z w128 a) ≡ n = omega (arith, ints, few, small, over) in
    let q : to_z w128 (of_z w128 b) ≡ pos d = omega (arith, ints, few, under) in
    ap₂ frac_text p q ∙ constant_is d n (λ e. some (ap (of_z w64) e))

-- ---- lengths

module _ (k l : ℕ) (pk : 0 < k) (pl : 0 < l) where
  multiple_short : (n d letter : ℕ) → n < 10 ^ k → n < 2 ^ 128 → d < 10 ^ l → d < 2 ^ 128 → length (multiple_text n d letter) ≤ k + l + 3
  multiple_short n d letter hn wn hd wd = by (eqb n d)
    where
      by : (b : Bool) → length (cond b (letter ∷ []) (fraction_text n d ++ star ∷ letter ∷ [])) ≤ k + l + 3
      by true = omega arith
      by false = omega (arith, fraction_short k l n d pk pl (hn, wn) (hd, wd), length-append (fraction_text n d) (star ∷ letter ∷ []))

  pub coefficient_short : (d : ℕ) (n : ℤ) (letter : ℕ) → d < 10 ^ l → d < 2 ^ 128 → unsigned_abs n < 10 ^ k → unsigned_abs n < 2 ^ 128 → length (coefficient_text d n letter) ≤ k + l + 4
  coefficient_short d (pos zero) letter few wide small narrow = omega arith
  coefficient_short d (pos (suc n)) letter few wide small narrow = omega (arith, multiple_short (suc n) d letter small narrow few wide)
  coefficient_short d (negsuc n) letter few wide small narrow = omega (arith, multiple_short (suc n) d letter small narrow few wide)

  pub constant_short : (d : ℕ) (n : ℤ) → d < 10 ^ l → d < 2 ^ 128 → unsigned_abs n < 10 ^ k → unsigned_abs n < 2 ^ 128 → length (constant_text d n) ≤ k + l + 2
  constant_short d (pos zero) few wide small narrow = omega arith
  constant_short d (pos (suc n)) few wide small narrow = omega (arith, fraction_short k l (suc n) d pk pl (small, narrow) (few, wide))
  constant_short d (negsuc n) few wide small narrow = omega (arith, fraction_short k l (suc n) d pk pl (small, narrow) (few, wide))
