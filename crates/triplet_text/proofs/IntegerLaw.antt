-- A text is one whole number at most, and whether it is one is decided.
use Rattle.std.specs.Prelude.{if◌then◌else◌}
use Rattle.std.specs.Option.{option_map}
use Rattle.std.proofs.Common.{◌≡◌, ◌≤◌, ◌<◌, ◌⊎◌, ℕ, ◌+◌, ◌*◌, ◌^◌, Bool, true, false, eqb, leb, List, [], ◌∷◌, length, take, drop, get_or, ◌-◌, to_z, of_z, w64, Option, Some, None, inl, inr, ⊎_elim, refl, sym, ap, subst, ◌∙◌, arith}
use Rattle.std.specs.Prelude.{ℤ, pos, neg_ℤ, ◌-ℤ◌, unsigned_abs}
use Rattle.std.proofs.lemmas.List.{take_rest}
use Rattle.std.proofs.lemmas.Int.{ints}
use Rattle.std.proofs.lemmas.Str.Parse.{digits_value_short}
use Rattle.std.proofs.lemmas.Bool.{cases_lt, le-leb}
use Rattle.std.proofs.lemmas.Bool.Decides.{nat_tests}
use borrow.Author.Tests.{eqb-true, leb-true}
use Rattle.triplet_text.specs.Bytes.{plus_sign, minus_sign, is_digit}
use Rattle.triplet_text.specs.Coordinates.{number_of}
use Rattle.triplet_text.specs.Digits.{with_digits}
use Rattle.triplet_text.specs.Grammar.{value_of}
use Rattle.triplet_text.specs.Integers.{IsNatural, IsInteger, bare, plus, minus}
use Rattle.triplet_text.proofs.Options.{map_some, if_some}
use Rattle.triplet_text.proofs.Values.{own, digits_to, digits_from}
use Rattle.triplet_text.proofs.CoordinateLaw.{number_to, number_from}

-- ---- without a sign

pub one_natural : (most : ℕ) (text : List ℕ) (n m : ℕ) → IsNatural most text n → IsNatural most text m → n ≡ m
one_natural most text n m h k = h.value ∙ sym k.value

pub natural_small : (most : ℕ) (text : List ℕ) (n : ℕ) → IsNatural most text n → n < 10 ^ most
natural_small most text n h = subst (λ (m : ℕ). m < 10 ^ most) (sym h.value) (digits_value_short own text most h.digits.digits h.short)

abbrev pub NaturalOrNone : ℕ → List ℕ → Type 0
NaturalOrNone most text = ((n : ℕ) × IsNatural most text n) ⊎ ((n : ℕ) → IsNatural most text n → ⊥)

natural_by : (most : ℕ) (text : List ℕ) (o : Option ℕ) → number_of text ≡ o → length text ≤ most → NaturalOrNone most text
natural_by most text (Some n) e short = let h = number_from text n e in inl (n, record { digits = h.0; short = short; value = sym h.1 })
natural_by most text None e short = inr (λ n h. let k = number_to text h.digits in absurd cc)

pub natural_or_none : (most : ℕ) (text : List ℕ) → NaturalOrNone most text
natural_or_none most text = ⊎_elim (λ long. inr (λ n h. absurd (omega (arith, long, h.short)))) (λ short. natural_by most text (number_of text) refl short) (cases_lt most (length text))

-- what the digits of a text that is neither empty nor too long say
pub natural_is : (most : ℕ) (text : List ℕ) (n : ℕ) → (length text ≡ 0 → ⊥) → length text ≤ most → with_digits 0 text ≡ Some n → IsNatural most text n
natural_is most text n some short e = let ds = digits_from text 0 n e in record {
  digits = record { some = omega (arith, some); digits = ds };
  short = short;
  value = let k = digits_to text 0 ds in let same : n ≡ 0 * 10 ^ length text + value_of text = cc in omega (arith, same);
}

pub no_natural : (most : ℕ) (text : List ℕ) → with_digits 0 text ≡ None → (n : ℕ) → IsNatural most text n → ⊥
no_natural most text e n h = let k = digits_to text 0 h.digits.digits in absurd cc

-- ---- with a sign or none

abbrev pub natural_of : ℕ → List ℕ → Option ℕ
natural_of most text = if leb (length text) most then number_of text else None

abbrev pub integer_of : ℕ → List ℕ → Option ℤ
integer_of most [] = None
integer_of most (byte ∷ text) =
    if eqb byte minus_sign then option_map (λ n. neg_ℤ (pos n)) (natural_of most text) else
    if eqb byte plus_sign then option_map pos (natural_of most text) else option_map pos (natural_of most (byte ∷ text))

pub natural_to : (most : ℕ) (text : List ℕ) (n : ℕ) → IsNatural most text n → natural_of most text ≡ Some n
natural_to most text n h = rw (le-leb (length text) most h.short) (number_to text h.digits ∙ ap (λ (m : ℕ). Some m) (sym h.value))

pub natural_from : (most : ℕ) (text : List ℕ) (n : ℕ) → natural_of most text ≡ Some n → IsNatural most text n
natural_from most text n e =
    let h = if_some (leb (length text) most) (number_of text) n e in
    let k = number_from text n h.1 in
    record { digits = k.0; short = leb-true _ _ h.0; value = sym k.1 }

no_sign : (byte : ℕ) → is_digit byte ≡ true → (eqb byte minus_sign ≡ false) × (eqb byte plus_sign ≡ false)
no_sign byte h = (grind (arith, nat_tests), grind (arith, nat_tests))

bare_to : (most : ℕ) (text : List ℕ) (n : ℕ) → IsNatural most text n → integer_of most text ≡ Some (pos n)
bare_to most [] n h = let some = h.digits.some in absurd (omega arith)
bare_to most (byte ∷ text) n h =
    let s = no_sign byte h.digits.digits.0 in
    rw (s.0, s.1) (ap (option_map pos) (natural_to most (byte ∷ text) n h))

pub integer_to : {most : ℕ} {text : List ℕ} {z : ℤ} → IsInteger most text z → integer_of most text ≡ Some z
integer_to (bare {text = text} {n = n} h) = bare_to _ text n h
integer_to (plus {text = text} {n = n} h) = ap (option_map pos) (natural_to _ text n h)
integer_to (minus {text = text} {n = n} h) = ap (option_map (λ m. neg_ℤ (pos m))) (natural_to _ text n h)

integer_by : (a b : Bool) (most byte : ℕ) (text : List ℕ) (z : ℤ) → eqb byte minus_sign ≡ a → eqb byte plus_sign ≡ b → integer_of most (byte ∷ text) ≡ Some z → IsInteger most (byte ∷ text) z
integer_by true b most byte text z p q e =
    let m = map_some (natural_of most text) (λ n. neg_ℤ (pos n)) z (rw p at e) in
    let is = eqb-true byte minus_sign p in
    subst (λ (k : ℕ). IsInteger most (k ∷ text) z) (sym is) (subst (IsInteger most (minus_sign ∷ text)) m.2 (minus (natural_from most text m.0 m.1)))
integer_by false true most byte text z p q e =
    let m = map_some (natural_of most text) pos z (rw (p, q) at e) in
    let is = eqb-true byte plus_sign q in
    subst (λ (k : ℕ). IsInteger most (k ∷ text) z) (sym is) (subst (IsInteger most (plus_sign ∷ text)) m.2 (plus (natural_from most text m.0 m.1)))
integer_by false false most byte text z p q e =
    let m = map_some (natural_of most (byte ∷ text)) pos z (rw (p, q) at e) in
    subst (IsInteger most (byte ∷ text)) m.2 (bare (natural_from most (byte ∷ text) m.0 m.1))

pub integer_from : (most : ℕ) (text : List ℕ) (z : ℤ) → integer_of most text ≡ Some z → IsInteger most text z
integer_from most [] z e = absurd cc
integer_from most (byte ∷ text) z e = integer_by (eqb byte minus_sign) (eqb byte plus_sign) most byte text z refl refl e

pub one_integer : (most : ℕ) (text : List ℕ) (y z : ℤ) → IsInteger most text y → IsInteger most text z → y ≡ z
one_integer most text y z p q = let same : Some y ≡ Some z = sym (integer_to p) ∙ integer_to q in cc

-- a whole number of so many digits
pub integer_small : (most : ℕ) {text : List ℕ} {z : ℤ} → IsInteger most text z → unsigned_abs z < 10 ^ most
integer_small most (bare {text = text} {n = n} h) = natural_small most text n h
integer_small most (plus {text = text} {n = n} h) = natural_small most text n h
integer_small most (minus {text = text} {n = n} h) = negated n (natural_small most text n h)
  where
    negated : (n : ℕ) → n < 10 ^ most → unsigned_abs (neg_ℤ (pos n)) < 10 ^ most
    negated n l = omega (arith, ints, l)

abbrev pub IntegerOrNone : ℕ → List ℕ → Type 0
IntegerOrNone most text = ((z : ℤ) × IsInteger most text z) ⊎ ((z : ℤ) → IsInteger most text z → ⊥)

pub integer_or_none : (most : ℕ) (text : List ℕ) → IntegerOrNone most text
integer_or_none most text = by (integer_of most text) refl
  where
    by : (o : Option ℤ) → integer_of most text ≡ o → IntegerOrNone most text
    by (Some z) e = inl (z, integer_from most text z e)
    by None e = inr (λ z h. let k = integer_to h in absurd cc)

-- ---- what the function that reads one gives

whole_of_wide : (n : ℕ) → n < 10 ^ 18 → to_z w64 n ≡ pos n
whole_of_wide n few = omega (arith, ints)

negated_of_wide : (n : ℕ) → n < 10 ^ 18 → to_z w64 (of_z w64 (pos 0 -ℤ to_z w64 n)) ≡ neg_ℤ (pos n)
negated_of_wide n few = omega (arith, ints)

pub behind_minus : (most : ℕ) (text : List ℕ) (n : ℕ) → 1 ≤ length text → get_or text 0 0 ≡ minus_sign → n < 10 ^ 18 → IsNatural most (take (length text - 1) (drop 1 text)) n → IsInteger most text (to_z w64 (of_z w64 (pos 0 -ℤ to_z w64 n)))
behind_minus most [] n some is few h = absurd (omega arith)
behind_minus most (byte ∷ text) n some is few h =
    subst (IsInteger most (byte ∷ text)) (sym (negated_of_wide n few)) (subst (λ (k : ℕ). IsInteger most (k ∷ text) (neg_ℤ (pos n))) (sym is) (minus (rw take_rest at h)))

pub behind_plus : (most : ℕ) (text : List ℕ) (n : ℕ) → 1 ≤ length text → get_or text 0 0 ≡ plus_sign → n < 10 ^ 18 → IsNatural most (take (length text - 1) (drop 1 text)) n → IsInteger most text (to_z w64 n)
behind_plus most [] n some is few h = absurd (omega arith)
behind_plus most (byte ∷ text) n some is few h =
    subst (IsInteger most (byte ∷ text)) (sym (whole_of_wide n few)) (subst (λ (k : ℕ). IsInteger most (k ∷ text) (pos n)) (sym is) (plus (rw take_rest at h)))

pub without_sign : (most : ℕ) (text : List ℕ) (n : ℕ) → n < 10 ^ 18 → IsNatural most text n → IsInteger most text (to_z w64 n)
without_sign most text n few h = subst (IsInteger most text) (sym (whole_of_wide n few)) (bare h)
