-- Affine maps with equal numbers have one text.
use Rattle.std.proofs.Common.{◌≡◌, ℕ, zero, suc, ◌<◌, ◌*◌, Bool, true, false, cond, eqb, List, [], ◌∷◌, ◌++◌, refl, sym, ap, ◌∙◌, arith, ℤ, pos, negsuc, ◌*ℤ◌, unsigned_abs}
use Rattle.std.proofs.lemmas.Int.{ints, unsigned_abs-mul}
use Rattle.std.proofs.lemmas.Bool.{eq-eqb}
use Rattle.std.proofs.Math.Nat.{eq_of_mul-eq-mul_right}
use borrow.Author.Tests.{eqb-true}
use Rattle.lattice_algebra.specs.Matrix.{Matrix, Column, scaled, times}
use Rattle.lattice_algebra.specs.Operator.{Operator}
use Rattle.exact_ops.specs.declared.TheConstants.{UNIT}
use Rattle.triplet_text.specs.Bytes.{star, minus_sign}
use Rattle.triplet_text.specs.Fractions.{fraction_text}
use Rattle.triplet_text.specs.Printing.{multiple_text, signed_text, joined, or_zero, component_text, with_commas, affine_text, IsSameMap}
use Rattle.triplet_text.proofs.LowestTerms.{same_text}

-- ---- one number

both_one : (n d m e : ℕ) → 0 < d → n * e ≡ m * d → n ≡ d → m ≡ e
both_one n d m e some same one = eq_of_mul-eq-mul_right d some m e (omega (arith, same, ap (λ (k : ℕ). k * e) one))

same_multiple : (byte n d m e : ℕ) → 0 < d → 0 < e → n * e ≡ m * d → multiple_text n d byte ≡ multiple_text m e byte
same_multiple byte n d m e pd pe same = by (eqb n d) (eqb m e) refl refl
  where
    by : (a b : Bool) → eqb n d ≡ a → eqb m e ≡ b → cond a (byte ∷ []) (fraction_text n d ++ star ∷ byte ∷ []) ≡ cond b (byte ∷ []) (fraction_text m e ++ star ∷ byte ∷ [])
    by true true p q = refl
    by true false p q = absurd (let k = eq-eqb m e (both_one n d m e pd same (eqb-true n d p)) in cc)
    by false true p q = absurd (let k = eq-eqb n d (both_one m e n d pe (sym same) (eqb-true m e q)) in cc)
    by false false p q = ap (λ (t : List ℕ). t ++ star ∷ byte ∷ []) (same_text n d m e pd pe same)

same_parts : (n d m e : ℕ) → 0 < d → 0 < e → n * e ≡ m * d → fraction_text n (UNIT * d) ≡ fraction_text m (UNIT * e)
same_parts n d m e pd pe same = same_text n (UNIT * d) m (UNIT * e) (omega arith) (omega arith) (omega (arith, same))

-- sizes over d and over e with one value have one text
abbrev AreOneText : (ℕ → List ℕ) → ℕ → (ℕ → List ℕ) → ℕ → Type 0
AreOneText size d other e = (n m : ℕ) → n * e ≡ m * d → size n ≡ other m

sizes : (d e : ℕ) (a b : ℤ) → pos e *ℤ a ≡ pos d *ℤ b → unsigned_abs a * e ≡ unsigned_abs b * d
sizes d e a b same = let k = sym (unsigned_abs-mul (pos e) a) ∙ ap unsigned_abs same ∙ unsigned_abs-mul (pos d) b in omega (arith, k)

same_signed : (size other : ℕ → List ℕ) (d e : ℕ) → 0 < d → 0 < e → AreOneText size d other e → (a b : ℤ) → pos e *ℤ a ≡ pos d *ℤ b → signed_text size a ≡ signed_text other b
same_signed size other zero e pd pe told a b same = absurd (omega arith)
same_signed size other (suc d) zero pd pe told a b same = absurd (omega arith)
same_signed size other (suc d) (suc e) pd pe told (pos zero) (pos zero) same = refl
same_signed size other (suc d) (suc e) pd pe told (pos zero) (pos (suc m)) same = absurd (omega (arith, sizes (suc d) (suc e) (pos zero) (pos (suc m)) same))
same_signed size other (suc d) (suc e) pd pe told (pos zero) (negsuc m) same = absurd (omega (arith, sizes (suc d) (suc e) (pos zero) (negsuc m) same))
same_signed size other (suc d) (suc e) pd pe told (pos (suc n)) (pos zero) same = absurd (omega (arith, sizes (suc d) (suc e) (pos (suc n)) (pos zero) same))
same_signed size other (suc d) (suc e) pd pe told (negsuc n) (pos zero) same = absurd (omega (arith, sizes (suc d) (suc e) (negsuc n) (pos zero) same))
same_signed size other (suc d) (suc e) pd pe told (pos (suc n)) (pos (suc m)) same = told (suc n) (suc m) (sizes (suc d) (suc e) (pos (suc n)) (pos (suc m)) same)
same_signed size other (suc d) (suc e) pd pe told (negsuc n) (negsuc m) same = ap (λ (t : List ℕ). minus_sign ∷ t) (told (suc n) (suc m) (sizes (suc d) (suc e) (negsuc n) (negsuc m) same))
same_signed size other (suc d) (suc e) pd pe told (pos (suc n)) (negsuc m) same = absurd (omega (arith, ints, same))
same_signed size other (suc d) (suc e) pd pe told (negsuc n) (pos (suc m)) same = absurd (omega (arith, ints, same))

-- ---- maps

abbrev joined_four : List ℕ → List ℕ → List ℕ → List ℕ → List ℕ
joined_four a b c t = or_zero (joined (joined (joined (joined [] a) b) c) t)

same_component : (d e : ℕ) → 0 < d → 0 < e → (x y z t x' y' z' t' : ℤ) → pos e *ℤ x ≡ pos d *ℤ x' → pos e *ℤ y ≡ pos d *ℤ y' → pos e *ℤ z ≡ pos d *ℤ z' → pos e *ℤ t ≡ pos d *ℤ t' → component_text d x y z t ≡ component_text e x' y' z' t'
same_component d e pd pe x y z t x' y' z' t' ex ey ez et =
    let letters = λ (byte : ℕ) (a b : ℤ) (same : pos e *ℤ a ≡ pos d *ℤ b). same_signed (λ n. multiple_text n d byte) (λ n. multiple_text n e byte) d e pd pe (λ n m. same_multiple byte n d m e pd pe) a b same in
    let parts = same_signed (λ n. fraction_text n (UNIT * d)) (λ n. fraction_text n (UNIT * e)) d e pd pe (λ n m. same_parts n d m e pd pe) t t' et in
    λ i. joined_four (letters 120 x x' ex i) (letters 121 y y' ey i) (letters 122 z z' ez i) (parts i)

pub one_text_of_map : (d e : ℕ) (f g : Operator) → 0 < d → 0 < e → IsSameMap d f e g → affine_text d f ≡ affine_text e g
unfolding scaled times
one_text_of_map d e f g pd pe same =
    let m = same.matrix in
    let t = same.translation in
    let x = same_component d e pd pe _ _ _ _ _ _ _ _ (ap (λ (a : Matrix). a.xx) m) (ap (λ (a : Matrix). a.xy) m) (ap (λ (a : Matrix). a.xz) m) (ap (λ (c : Column). c.x) t) in
    let y = same_component d e pd pe _ _ _ _ _ _ _ _ (ap (λ (a : Matrix). a.yx) m) (ap (λ (a : Matrix). a.yy) m) (ap (λ (a : Matrix). a.yz) m) (ap (λ (c : Column). c.y) t) in
    let z = same_component d e pd pe _ _ _ _ _ _ _ _ (ap (λ (a : Matrix). a.zx) m) (ap (λ (a : Matrix). a.zy) m) (ap (λ (a : Matrix). a.zz) m) (ap (λ (c : Column). c.z) t) in
    λ i. with_commas (x i) (y i) (z i)
