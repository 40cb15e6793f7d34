-- A text has the numbers of one affine map at most.
use Rattle.std.proofs.Common.{◌≡◌, ℕ, ◌<◌, ◌*◌, Bool, true, false, cond, if◌then◌else◌, eqb, List, [], ◌∷◌, ◌++◌, length, length-append, get_or, Option, Some, None, ℤ, pos, ◌+ℤ◌, ◌*ℤ◌, neg_ℤ, refl, sym, ap, ap₂, subst, ◌∙◌, arith}
use Rattle.std.specs.List.{AllByRecursion}
use Rattle.std.proofs.lemmas.List.{append-nil}
use Rattle.std.proofs.lemmas.Int.{ints}
use Rattle.std.proofs.lemmas.Bool.Decides.{nat_tests}
use Rattle.std.proofs.Math.Nat.{eq_of_mul-eq-mul_right}
use Rattle.lattice_algebra.proofs.Ring.{mul_add, ring, var, neg, ◌⊗◌}
use Rattle.lattice_algebra.specs.Matrix.{scaled, times as times_column}
use Rattle.lattice_algebra.specs.Operator.{Operator}
use Rattle.exact_ops.specs.declared.TheConstants.{UNIT}
use Rattle.triplet_text.specs.declared.component.Component.{Component}
use Rattle.triplet_text.specs.Bytes.{is_sign, is_x, is_y, is_z, comma, star, slash, plus_sign, minus_sign}
use Rattle.triplet_text.specs.Pieces.{cut}
use Rattle.triplet_text.specs.Tokens.{Each, is_letter}
use Rattle.triplet_text.specs.Components.{behind}
use Rattle.triplet_text.specs.Sums.{before_sign, behind_signs}
use Rattle.triplet_text.specs.Coordinates.{AreDigits}
use Rattle.triplet_text.specs.Printing.{IsSameMap}
use Rattle.triplet_text.specs.Grammar.{value_of, times, translation, negated, added, nothing}
use Rattle.triplet_text.specs.AffineTexts.{HasValue, whole, fraction, IsAffineTerm, letter, multiple, constant, AreAffineTerms, none, more, IsAffineSum, bare, minus, IsAffineText}
use Rattle.triplet_text.proofs.ByteKinds.{digit_no_stroke}
use Rattle.triplet_text.proofs.Texts.{Lacks, all_joined, all_mapped, cut_first, cut_nowhere}
use Rattle.triplet_text.proofs.SumTexts.{cut_in_two}
use Rattle.triplet_text.proofs.AffineBytes.{is_in_fraction, digit_in_fraction, fraction_no_sign, fraction_no_star, fraction_no_comma}

-- ---- numbers

fraction_digits : {run : List ℕ} → AreDigits run → Each is_in_fraction run
fraction_digits {run = run} h = all_mapped _ _ digit_in_fraction run h.digits

value_bytes : {n d : ℕ} {text : List ℕ} → HasValue n d text → (0 < length text) × Each is_in_fraction text
value_bytes (whole h v) = (h.some, fraction_digits h)
value_bytes (fraction {p = p} {q = q} hp hq one low v) = (omega (arith, hp.some, length-append p (slash ∷ q)), all_joined _ p (slash ∷ q) (fraction_digits hp) (refl, fraction_digits hq))

abbrev at_stroke : List ℕ → Option (List ℕ × List ℕ)
at_stroke text = cut (λ b. eqb b slash) text

stroke_there : (p q : List ℕ) → AreDigits p → at_stroke (p ++ slash ∷ q) ≡ Some (p, q)
stroke_there p q h = cut_first (λ b. eqb b slash) p slash q (all_mapped _ _ digit_no_stroke p h.digits) refl

stroke_nowhere : (p : List ℕ) → AreDigits p → at_stroke p ≡ None
stroke_nowhere p h = cut_nowhere (λ b. eqb b slash) p (all_mapped _ _ digit_no_stroke p h.digits)

cross_back : (n d m e p q r s : ℕ) → p * d ≡ n * q → r * e ≡ m * s → 0 < q → p ≡ r → q ≡ s → n * e ≡ m * d
cross_back n d m e p q r s one two some same other =
    let k : p * e ≡ m * q = rw (same, other) two in
    eq_of_mul-eq-mul_right q some (n * e) (m * d) (omega (arith, ap (λ (x : ℕ). x * e) one, ap (λ (x : ℕ). x * d) k))

some_same : {A : Type 0} (x y : A) → Some x ≡ Some y → x ≡ y
some_same x y e = cc

-- one text has one value
value_same : {n m d e : ℕ} {text other : List ℕ} → text ≡ other → HasValue n d text → HasValue m e other → n * e ≡ m * d
value_same {n = n} {m = m} {d = d} {e = e} is (whole {p = p} hp v) (whole {p = r} hr w) = cross_back n d m e (value_of p) 1 (value_of r) 1 (omega (arith, v)) (omega (arith, w)) (omega arith) (ap value_of is) refl
value_same is (whole {p = p} hp v) (fraction {p = r} {q = s} hr hs one low w) = absurd (let k = sym (stroke_nowhere p hp) ∙ ap at_stroke is ∙ stroke_there r s hr in cc)
value_same is (fraction {p = p} {q = q} hp hq one low v) (whole {p = r} hr w) = absurd (let k = sym (stroke_there p q hp) ∙ ap at_stroke is ∙ stroke_nowhere r hr in cc)
value_same {n = n} {m = m} {d = d} {e = e} is (fraction {p = p} {q = q} hp hq one low v) (fraction {p = r} {q = s} hr hs other_one other_low w) =
    let some : 0 < value_of q = omega (arith, one) in
    let both : (p, q) ≡ (r, s) = some_same _ _ (sym (stroke_there p q hp) ∙ ap at_stroke is ∙ stroke_there r s hr) in
    cross_back n d m e (value_of p) (value_of q) (value_of r) (value_of s) v w some (ap (λ (c : List ℕ × List ℕ). value_of c.0) both) (ap (λ (c : List ℕ × List ℕ). value_of c.1) both)

-- ---- terms

letter_no_sign : (byte : ℕ) → is_letter byte ≡ true → is_sign byte ≡ false
letter_no_sign byte h = grind (arith, nat_tests)

letter_no_comma : (byte : ℕ) → is_letter byte ≡ true → eqb byte comma ≡ false
letter_no_comma byte h = grind (arith, nat_tests)

letter_no_star : (byte : ℕ) → is_letter byte ≡ true → eqb byte star ≡ false
letter_no_star byte h = grind (arith, nat_tests)

letter_not_in_fraction : (byte : ℕ) → is_letter byte ≡ true → is_in_fraction byte ≡ false
letter_not_in_fraction byte h = grind (arith, nat_tests)

sign_no_comma : (byte : ℕ) → is_sign byte ≡ true → eqb byte comma ≡ false
sign_no_comma byte h = grind (arith, nat_tests)

abbrev at_star : List ℕ → Option (List ℕ × List ℕ)
at_star text = cut (λ b. eqb b star) text

star_there : {n d : ℕ} (number : List ℕ) (byte : ℕ) → HasValue n d number → at_star (number ++ star ∷ byte ∷ []) ≡ Some (number, byte ∷ [])
star_there number byte v = cut_first (λ b. eqb b star) number star (byte ∷ []) (all_mapped _ _ fraction_no_star number (value_bytes v).1) refl

star_nowhere : {n d : ℕ} (number : List ℕ) → HasValue n d number → at_star number ≡ None
star_nowhere number v = cut_nowhere (λ b. eqb b star) number (all_mapped _ _ fraction_no_star number (value_bytes v).1)

letter_alone : (byte : ℕ) → is_letter byte ≡ true → at_star (byte ∷ []) ≡ None
letter_alone byte h = cut_nowhere (λ b. eqb b star) (byte ∷ []) (letter_no_star byte h, tt)

no_number : {n d : ℕ} (byte : ℕ) (number : List ℕ) → is_letter byte ≡ true → HasValue n d number → byte ∷ [] ≡ number → ⊥
no_number byte number h v e =
    let in_number : Each is_in_fraction (byte ∷ []) = subst (Each is_in_fraction) (sym e) (value_bytes v).1 in
    let k = sym (letter_not_in_fraction byte h) ∙ in_number.0 in
    absurd cc

-- ---- numbers over d, and over e

module _ (d e : ℕ) where
  -- a over d and b over e are the same numbers
  record AreSame (a b : Component) : Type 0 where
    x : pos e *ℤ a.x ≡ pos d *ℤ b.x
    y : pos e *ℤ a.y ≡ pos d *ℤ b.y
    z : pos e *ℤ a.z ≡ pos d *ℤ b.z
    parts : pos e *ℤ a.parts ≡ pos d *ℤ b.parts

  moved : {a b a' b' : Component} → a ≡ a' → b ≡ b' → AreSame a' b' → AreSame a b
  moved {b = b} {a' = a'} p q h = subst (λ (c : Component). AreSame c b) (sym p) (subst (λ (c : Component). AreSame a' c) (sym q) h)

  same_nothing : AreSame nothing nothing
  same_nothing = record { x = omega (arith, ints); y = omega (arith, ints); z = omega (arith, ints); parts = omega (arith, ints) }

  same_times : (n m byte : ℕ) → e * n ≡ d * m → AreSame (times n byte) (times m byte)
  same_times n m byte h = record { x = ap pos (by (is_x byte)); y = ap pos (by (is_y byte)); z = ap pos (by (is_z byte)); parts = omega (arith, ints) }
    where
      by : (b : Bool) → e * cond b n 0 ≡ d * cond b m 0
      by true = h
      by false = omega arith

  same_translation : (n m : ℕ) → e * n ≡ d * m → AreSame (translation n) (translation m)
  same_translation n m h = record { x = omega (arith, ints); y = omega (arith, ints); z = omega (arith, ints); parts = ap pos h }

  same_sum_of : (a b a' b' : ℤ) → pos e *ℤ a ≡ pos d *ℤ b → pos e *ℤ a' ≡ pos d *ℤ b' → pos e *ℤ (a +ℤ a') ≡ pos d *ℤ (b +ℤ b')
  same_sum_of a b a' b' p q = mul_add (pos e) a a' ∙ ap₂ (λ u v. u +ℤ v) p q ∙ sym (mul_add (pos d) b b')

  same_added : {a b a' b' : Component} → AreSame a b → AreSame a' b' → AreSame (added a a') (added b b')
  same_added {a = a} {b = b} {a' = a'} {b' = b'} h k = record { x = same_sum_of a.x b.x a'.x b'.x h.x k.x; y = same_sum_of a.y b.y a'.y b'.y h.y k.y; z = same_sum_of a.z b.z a'.z b'.z h.z k.z; parts = same_sum_of a.parts b.parts a'.parts b'.parts h.parts k.parts }

  mul_neg : (k a : ℤ) → k *ℤ neg_ℤ a ≡ neg_ℤ (k *ℤ a)
  mul_neg k a = ring (k ∷ a ∷ []) (var 0 ⊗ neg (var 1)) (neg (var 0 ⊗ var 1)) tt

  same_negative : (a b : ℤ) → pos e *ℤ a ≡ pos d *ℤ b → pos e *ℤ neg_ℤ a ≡ pos d *ℤ neg_ℤ b
  same_negative a b h = mul_neg (pos e) a ∙ ap neg_ℤ h ∙ sym (mul_neg (pos d) b)

  same_behind : (sign : ℕ) (a b : Component) → AreSame a b → AreSame (behind sign a) (behind sign b)
  same_behind sign a b h = by (eqb sign minus_sign)
    where
      by : (m : Bool) → AreSame (if m then negated a else a) (if m then negated b else b)
      by true = record { x = same_negative a.x b.x h.x; y = same_negative a.y b.y h.y; z = same_negative a.z b.z h.z; parts = same_negative a.parts b.parts h.parts }
      by false = h

-- ---- signs and terms

-- a first term without a sign stands behind a plus
abbrev with_first : List ℕ → List (ℕ × List ℕ) → List (ℕ × List ℕ)
with_first [] terms = terms
with_first (byte ∷ text) terms = (plus_sign, byte ∷ text) ∷ terms

abbrev terms_of : List ℕ → List (ℕ × List ℕ)
terms_of text = with_first (before_sign text) (behind_signs text)

-- ---- one reading of a text

module _ (d : ℕ) where
  term_bytes : (P : ℕ → Type 0) → P star → ((byte : ℕ) → is_letter byte ≡ true → P byte) → ((byte : ℕ) → is_in_fraction byte ≡ true → P byte) → {text : List ℕ} {a : Component} → IsAffineTerm d text a → AllByRecursion P text
  term_bytes P s l f (letter byte h) = (l byte h, tt)
  term_bytes P s l f (multiple byte {number = r} v h) = all_joined P r (star ∷ byte ∷ []) (all_mapped _ _ f r (value_bytes v).1) (s, (l byte h, tt))
  term_bytes P s l f (constant {number = r} v) = all_mapped _ _ f r (value_bytes v).1

  term_some : {text : List ℕ} {a : Component} → IsAffineTerm d text a → 0 < length text
  term_some (letter byte h) = omega arith
  term_some (multiple byte {number = r} v h) = omega (arith, length-append r (star ∷ byte ∷ []))
  term_some (constant v) = (value_bytes v).0

  -- ---- sums

  -- signs and terms say a
  abbrev Told : List (ℕ × List ℕ) → Component → Type 0
  Told [] a = a ≡ nothing
  Told (p ∷ ps) a = (b : Component) × (c : Component) × IsAffineTerm d p.1 b × Told ps c × (a ≡ added (behind p.0 b) c)

  first_cut : {first : List ℕ} {a : Component} (rest : List ℕ) → IsAffineTerm d first a → before_sign rest ≡ [] → (before_sign (first ++ rest) ≡ first) × (behind_signs (first ++ rest) ≡ behind_signs rest)
  first_cut {first = first} rest t none_before =
      let two = cut_in_two first rest (term_bytes (λ byte. is_sign byte ≡ false) refl letter_no_sign fraction_no_sign t) in
      (two.0 ∙ ap (λ (s : List ℕ). first ++ s) none_before ∙ append-nil first, two.1)

  terms_told : {text : List ℕ} {a : Component} → AreAffineTerms d text a → (before_sign text ≡ []) × Told (behind_signs text) a
  terms_told none = (refl, refl)
  terms_told (more {sign = sign} {first = first} {rest = rest} {a = a} {b = b} h t r) =
      let i = terms_told r in
      let c = first_cut rest t i.0 in
      let signs : behind_signs (sign ∷ (first ++ rest)) ≡ (sign, first) ∷ behind_signs rest = rw (h, c.0, c.1) refl in
      (rw h refl, subst (λ (ps : List (ℕ × List ℕ)). Told ps (added (behind sign a) b)) (sym signs) (a, b, t, i.1, refl))

  with_some : (first : List ℕ) (ps : List (ℕ × List ℕ)) → 0 < length first → with_first first ps ≡ (plus_sign, first) ∷ ps
  with_some [] ps some = absurd (omega arith)
  with_some (byte ∷ first) ps some = refl

  sum_told : {text : List ℕ} {a : Component} → IsAffineSum d text a → Told (terms_of text) a
  sum_told (bare {first = first} {rest = rest} {a = a} {b = b} t r) =
      let i = terms_told r in
      let c = first_cut rest t i.0 in
      let terms : terms_of (first ++ rest) ≡ (plus_sign, first) ∷ behind_signs rest = (λ j. with_first (c.0 j) (c.1 j)) ∙ with_some first (behind_signs rest) (term_some t) in
      subst (λ (ps : List (ℕ × List ℕ)). Told ps (added a b)) (sym terms) (a, b, t, i.1, refl)
  sum_told (minus r) = (terms_told r).1

  -- ---- commas

  abbrev IsNoComma : ℕ → Type 0
  IsNoComma byte = eqb byte comma ≡ false

  term_no_comma : {text : List ℕ} {a : Component} → IsAffineTerm d text a → AllByRecursion IsNoComma text
  term_no_comma t = term_bytes IsNoComma refl letter_no_comma fraction_no_comma t

  terms_no_comma : {text : List ℕ} {a : Component} → AreAffineTerms d text a → AllByRecursion IsNoComma text
  terms_no_comma none = tt
  terms_no_comma (more {sign = sign} {first = first} {rest = rest} h t r) = (sign_no_comma sign h, all_joined IsNoComma first rest (term_no_comma t) (terms_no_comma r))

  sum_no_comma : {text : List ℕ} {a : Component} → IsAffineSum d text a → Lacks (λ b. eqb b comma) text
  sum_no_comma (bare {first = first} {rest = rest} t r) = all_joined IsNoComma first rest (term_no_comma t) (terms_no_comma r)
  sum_no_comma (minus r) = terms_no_comma r

  comma_there : {text : List ℕ} {a : Component} (rest : List ℕ) → IsAffineSum d text a → cut (λ b. eqb b comma) (text ++ comma ∷ rest) ≡ Some (text, rest)
  comma_there {text = text} rest s = cut_first (λ b. eqb b comma) text comma rest (sum_no_comma s) refl

-- ---- what two readings of a text say

module _ (d e : ℕ) where
  number_same : (n m : ℕ) → n * e ≡ m * d → e * n ≡ d * m
  number_same n m h = omega (arith, h)

  parts_same : (n m : ℕ) → n * (UNIT * e) ≡ m * (UNIT * d) → e * n ≡ d * m
  parts_same n m h = omega (arith, h)

  term_same : {text other : List ℕ} {a b : Component} → text ≡ other → IsAffineTerm d text a → IsAffineTerm e other b → AreSame d e a b
  term_same is (letter byte h) (letter c k) = subst (λ (s : ℕ). AreSame d e (times d byte) (times e s)) (ap (λ (t : List ℕ). get_or t 0 0) is) (same_times d e d e byte (omega arith))
  term_same is (letter byte h) (multiple c {number = s} w k) = absurd (let no = sym (letter_alone byte h) ∙ ap at_star is ∙ star_there s c w in cc)
  term_same is (letter byte h) (constant {number = s} w) = absurd (no_number byte s h w is)
  term_same is (multiple byte {number = r} v h) (letter c k) = absurd (let no = sym (star_there r byte v) ∙ ap at_star is ∙ letter_alone c k in cc)
  term_same is (multiple byte {number = r} {n = n} v h) (multiple c {number = s} {n = m} w k) =
      let both : (r, byte ∷ []) ≡ (s, c ∷ []) = some_same _ _ (sym (star_there r byte v) ∙ ap at_star is ∙ star_there s c w) in
      let number = number_same n m (value_same (ap (λ (p : List ℕ × List ℕ). p.0) both) v w) in
      subst (λ (b : ℕ). AreSame d e (times n byte) (times m b)) (ap (λ (p : List ℕ × List ℕ). get_or p.1 0 0) both) (same_times d e n m byte number)
  term_same is (multiple byte {number = r} v h) (constant {number = s} w) = absurd (let no = sym (star_there r byte v) ∙ ap at_star is ∙ star_nowhere s w in cc)
  term_same is (constant {number = r} v) (letter c k) = absurd (no_number c r k v (sym is))
  term_same is (constant {number = r} v) (multiple c {number = s} w k) = absurd (let no = sym (star_nowhere r v) ∙ ap at_star is ∙ star_there s c w in cc)
  term_same is (constant {n = n} v) (constant {n = m} w) = same_translation d e n m (parts_same n m (value_same is v w))

  told_same : (ps : List (ℕ × List ℕ)) (a b : Component) → Told d ps a → Told e ps b → AreSame d e a b
  told_same [] a b h k = moved d e h k (same_nothing d e)
  told_same (p ∷ ps) a b h k = moved d e h.4 k.4 (same_added d e (same_behind d e p.0 h.0 k.0 (term_same refl h.2 k.2)) (told_same ps h.1 k.1 h.3 k.3))

  sum_same : {text other : List ℕ} {a b : Component} → text ≡ other → IsAffineSum d text a → IsAffineSum e other b → AreSame d e a b
  sum_same {text = text} {a = a} {b = b} is s t = told_same (terms_of text) a b (sum_told d s) (subst (λ (r : List ℕ). Told e (terms_of r) b) (sym is) (sum_told e t))

  -- a text has the numbers of one map
  pub one_map_of_text : (text : List ℕ) (f g : Operator) → IsAffineText d text f → IsAffineText e text g → IsSameMap d f e g
  unfolding scaled times_column
  one_map_of_text text f g s t =
      let one : (s.first, s.second ++ comma ∷ s.third) ≡ (t.first, t.second ++ comma ∷ t.third) = some_same _ _ (sym (comma_there d _ s.x) ∙ ap (cut (λ b. eqb b comma)) (sym s.cut ∙ t.cut) ∙ comma_there e _ t.x) in
      let two : (s.second, s.third) ≡ (t.second, t.third) = some_same _ _ (sym (comma_there d _ s.y) ∙ ap (λ (p : List ℕ × List ℕ). cut (λ b. eqb b comma) p.1) one ∙ comma_there e _ t.y) in
      let x = sum_same (ap (λ (p : List ℕ × List ℕ). p.0) one) s.x t.x in
      let y = sum_same (ap (λ (p : List ℕ × List ℕ). p.0) two) s.y t.y in
      let z = sum_same (ap (λ (p : List ℕ × List ℕ). p.1) two) s.z t.z in
      record {
        matrix = λ i. record { xx = x.x i; xy = x.y i; xz = x.z i; yx = y.x i; yy = y.y i; yz = y.z i; zx = z.x i; zy = z.y i; zz = z.z i };
        translation = λ i. record { x = x.parts i; y = y.parts i; z = z.parts i };
      }
