-- Whole numbers, fractions and decimals are what the functions on runs of digits find.
use Rattle.std.proofs.Common.{◌≡◌, ℕ, zero, suc, ◌+◌, ◌-◌, ◌*◌, ◌/◌, ◌%◌, ◌^◌, ◌<◌, ◌≤◌, Bool, true, false, ◌&&◌, not, List, [], ◌∷◌, ◌++◌, length, Option, Some, get_or, refl, sym, ap, subst, ◌∙◌, arith, length-append, leb, ltb, eqb, decimal}
use Rattle.std.specs.Fmt.{digits}
use Rattle.std.specs.Int.{◌∣◌}
use Rattle.std.specs.Prelude.{option_and_then}
use Rattle.std.specs.Option.{option_map}
use Rattle.std.proofs.Math.Nat.{pow-suc, div-mul_cancel, mul_assoc, mul-div_cancel, pos_of_dvd_of_pos}
use Rattle.std.proofs.lemmas.Nat.{pow-add}
use Rattle.std.proofs.lemmas.Nat.Gcd.{dvd_of_mod-eq-zero, mod-eq-zero_of_dvd, le_of_dvd}
use Rattle.std.proofs.lemmas.Bool.{lt-ltb, le-leb, eq-eqb}
use Rattle.std.proofs.lemmas.Fmt.{decimal-digits_value, digits_decimal, digits_value-decimal, length-decimal-le, decimal_is_IsNumeral}
use Rattle.std.proofs.lemmas.Str.Parse.{IsNumeralModel, numerals_by_weight, digits_value_short}
use borrow.Author.Tests.{ltb-true, leb-true, eqb-true}
use Rattle.exact_ops.specs.declared.TheConstants.{UNIT}
use Rattle.triplet_text.specs.Bytes.{is_digit, zero_digit, point}
use Rattle.triplet_text.specs.Digits.{with_digits, whole_of, has_leading_zero, divisor_of_unit, denominator_of, parts_of_thousandths, decimal_of}
use Rattle.triplet_text.specs.Terms.{fraction_of}
use Rattle.triplet_text.specs.Tokens.{Each}
use Rattle.triplet_text.specs.Grammar.{value_of, IsWhole, IsDecimal, IsFraction}
use Rattle.triplet_text.proofs.Options.{both, then_some, map_some, if_some, else_some}
use Rattle.triplet_text.proofs.Texts.{all_joined, all_front, all_back}
use Rattle.triplet_text.proofs.Ranges.{all_below, below_each}

-- ---- runs of digits

pub digits_to : (text : List ℕ) (n : ℕ) → Each is_digit text → with_digits n text ≡ Some (n * 10 ^ length text + value_of text)
digits_to [] n h = ap (λ (m : ℕ). Some m) (omega arith)
digits_to (byte ∷ text) n h =
    let k : 10 ^ suc (length text) ≡ 10 ^ length text * 10 = pow-suc 10 (length text) in
    let e : (10 * n + (byte - zero_digit)) * 10 ^ length text + value_of text ≡ n * 10 ^ suc (length text) + ((byte - zero_digit) * 10 ^ length text + value_of text) = omega (arith, ap (λ (p : ℕ). n * p) k) in
    rw h.0 (digits_to text (10 * n + (byte - zero_digit)) h.1 ∙ ap (λ (m : ℕ). Some m) e)

pub digits_from : (text : List ℕ) (n m : ℕ) → with_digits n text ≡ Some m → Each is_digit text
digits_from [] n m e = tt
digits_from (byte ∷ text) n m e =
    let h = if_some (is_digit byte) (with_digits (10 * n + (byte - zero_digit)) text) m e in
    (h.0, digits_from text (10 * n + (byte - zero_digit)) m h.1)

pub value_joined : (front back : List ℕ) → value_of (front ++ back) ≡ value_of front * 10 ^ length back + value_of back
value_joined [] back = omega arith
value_joined (byte ∷ front) back =
    let k : 10 ^ length (front ++ back) ≡ 10 ^ length front * 10 ^ length back = ap (λ (n : ℕ). 10 ^ n) (length-append front back) ∙ pow-add 10 (length front) (length back) in
    omega (arith, ap (λ (p : ℕ). (byte - zero_digit) * p) k, value_joined front back)

pub own : IsNumeralModel (Each is_digit) value_of
own = numerals_by_weight (Each is_digit) (record { empty = tt; parts = λ c cs h. (digit_range c h.0, h.1); more = λ c cs k h. (range_digit c k.0 k.1, h) }) value_of (record { empty = refl; more = λ c cs k. refl })
  where
    digit_range : (c : ℕ) → is_digit c ≡ true → (48 ≤ c) × (c ≤ 57)
    digit_range c h = let k = both (leb 48 c) (leb c 57) h in (leb-true 48 c k.0, leb-true c 57 k.1)

    range_digit : (c : ℕ) → 48 ≤ c → c ≤ 57 → is_digit c ≡ true
    range_digit c a b = rw (le-leb 48 c a, le-leb c 57 b) refl

-- ---- whole numbers

pub whole_to : (run : List ℕ) (n : ℕ) → IsWhole run n → whole_of run ≡ Some n
whole_to run n h =
    let some = lt-ltb 0 (length run) h.some in
    let few = le-leb (length run) 6 h.few in
    rw (some, few) (digits_to run 0 h.digits ∙ ap (λ (m : ℕ). Some m) (omega (arith, h.value)))

pub whole_from : (run : List ℕ) (n : ℕ) → whole_of run ≡ Some n → IsWhole run n
whole_from run n e =
    let h = if_some (ltb 0 (length run) && leb (length run) 6) (with_digits 0 run) n e in
    let k = both (ltb 0 (length run)) (leb (length run) 6) h.0 in
    let ds = digits_from run 0 n h.1 in
    let v : n ≡ 0 * 10 ^ length run + value_of run = cc (h.1, digits_to run 0 ds) in
    record { some = ltb-true _ _ k.0; few = leb-true _ _ k.1; digits = ds; value = omega (arith, v) }

-- ---- denominators

not_true : (b : Bool) → not b ≡ true → b ≡ false
not_true true e = absurd cc
not_true false e = refl

abbrev starts_well : ℕ → Bool
starts_well k = not (has_leading_zero (decimal (suc k)))

all_start_well : all_below UNIT starts_well ≡ true
unfolding digits
all_start_well = refl

no_zero_first : (d : ℕ) → 0 < d → d ≤ UNIT → has_leading_zero (decimal d) ≡ false
no_zero_first zero some le = absurd (omega arith)
no_zero_first (suc k) some le = not_true _ (below_each UNIT starts_well all_start_well k (omega arith))

pub denominator_to : (text : List ℕ) (d : ℕ) → text ≡ decimal d → d ∣ UNIT → denominator_of text ≡ Some d
denominator_to text d e divides =
    let some : 0 < d = pos_of_dvd_of_pos divides (omega arith) in
    let le : d ≤ UNIT = le_of_dvd (omega arith) divides in
    let small : d < 2 ^ 64 = omega arith in
    let whole : whole_of (decimal d) ≡ Some d = whole_to (decimal d) d (record {
      some = (decimal_is_IsNumeral d small).0.0;
      few = length-decimal-le 6 d (omega arith) (omega arith) small;
      digits = digits_decimal own d small;
      value = sym (digits_value-decimal own d small);
    }) in
    let positive = lt-ltb 0 d some in
    let rest = eq-eqb (UNIT % d) 0 (mod-eq-zero_of_dvd d divides) in
    rw (e, no_zero_first d some le, whole) (rw (positive, rest) refl)

no_first : (text : List ℕ) → has_leading_zero text ≡ false → get_or text 0 0 ≡ 48 → ⊥
no_first [] h e = omega (arith, e)
no_first (byte ∷ text) h e = let d : eqb byte 48 ≡ true = eq-eqb byte 48 e in cc

pub denominator_from : (text : List ℕ) (d : ℕ) → denominator_of text ≡ Some d → (text ≡ decimal d) × (d ∣ UNIT)
denominator_from text d e =
    let a = else_some (has_leading_zero text) (option_and_then divisor_of_unit (whole_of text)) d e in
    let b = then_some (whole_of text) divisor_of_unit d a.1 in
    let c = if_some (ltb 0 b.0 && eqb (UNIT % b.0) 0) (Some b.0) d b.2 in
    let w = whole_from text b.0 b.1 in
    let same : b.0 ≡ d = cc (c.1) in
    let short : value_of text < 10 ^ 6 = digits_value_short own text 6 w.digits w.few in
    let written : decimal (value_of text) ≡ text = decimal-digits_value own text w.digits w.some (λ z. absurd (no_first text a.0 z)) (omega (arith, short)) in
    let value : value_of text ≡ d = sym w.value ∙ same in
    let divides : b.0 ∣ UNIT = dvd_of_mod-eq-zero b.0 (eqb-true (UNIT % b.0) 0 (both (ltb 0 b.0) (eqb (UNIT % b.0) 0) c.0).1) in
    (sym written ∙ ap decimal value, subst (λ (k : ℕ). k ∣ UNIT) same divides)

-- ---- fractions

cancel : (a b d : ℕ) → 0 < d → a * d ≡ b * d → a ≡ b
cancel a b d some e = sym (mul-div_cancel a some) ∙ ap (λ (p : ℕ). p / d) e ∙ mul-div_cancel b some

over_unit : (n d : ℕ) → d ∣ UNIT → n * (UNIT / d) * d ≡ n * UNIT
over_unit n d divides = mul_assoc n (UNIT / d) d ∙ ap (λ (p : ℕ). n * p) (div-mul_cancel d divides)

pub fraction_to : (over under : List ℕ) (parts : ℕ) → IsFraction over under parts → fraction_of over under ≡ Some parts
fraction_to over under parts h =
    let some : 0 < h.d = pos_of_dvd_of_pos h.divides (omega arith) in
    let same : h.n * (UNIT / h.d) ≡ parts = cancel _ parts h.d some (over_unit h.n h.d h.divides ∙ sym h.value) in
    rw (whole_to over h.n h.whole, denominator_to under h.d h.written h.divides) (ap (λ (m : ℕ). Some m) same)

pub fraction_from : (over under : List ℕ) (parts : ℕ) → fraction_of over under ≡ Some parts → IsFraction over under parts
fraction_from over under parts e =
    let a = then_some (whole_of over) (λ n. option_map (λ d. n * (UNIT / d)) (denominator_of under)) parts e in
    let b = map_some (denominator_of under) (λ d. a.0 * (UNIT / d)) parts a.2 in
    let d = denominator_from under b.0 b.1 in
    record { n = a.0; d = b.0; whole = whole_from over a.0 a.1; written = d.0; divides = d.1; value = ap (λ (p : ℕ). p * b.0) (sym b.2) ∙ over_unit a.0 b.0 d.1 }

pub under_is : (over under : List ℕ) (parts : ℕ) → IsFraction over under parts → (0 < length under) × Each is_digit under
under_is over under parts h =
    let small : h.d < 2 ^ 64 = omega (arith, le_of_dvd {m = h.d} {n = UNIT} (omega arith) h.divides) in
    rw h.written ((decimal_is_IsNumeral h.d small).0.0, digits_decimal own h.d small)

-- ---- decimals

scaled : (k v parts : ℕ) → k ≤ 3 → parts * 10 ^ k ≡ v * UNIT → v * 10 ^ (3 - k) * UNIT ≡ parts * 1000
scaled zero v parts le e = omega (arith, e)
scaled (suc zero) v parts le e = omega (arith, e)
scaled (suc (suc zero)) v parts le e = omega (arith, e)
scaled (suc (suc (suc zero))) v parts le e = omega (arith, e)
scaled (suc (suc (suc (suc k)))) v parts le e = absurd (omega arith)

scaled_back : (k v parts : ℕ) → k ≤ 3 → v * 10 ^ (3 - k) * UNIT ≡ parts * 1000 → parts * 10 ^ k ≡ v * UNIT
scaled_back zero v parts le e = omega (arith, e)
scaled_back (suc zero) v parts le e = omega (arith, e)
scaled_back (suc (suc zero)) v parts le e = omega (arith, e)
scaled_back (suc (suc (suc zero))) v parts le e = omega (arith, e)
scaled_back (suc (suc (suc (suc k)))) v parts le e = absurd (omega arith)

thousandths_to : (m parts : ℕ) → m * UNIT ≡ parts * 1000 → parts_of_thousandths m ≡ Some parts
thousandths_to m parts e =
    let none : eqb (m * UNIT % 1000) 0 ≡ true = eq-eqb _ _ (omega (arith, e)) in
    let quotient : m * UNIT / 1000 ≡ parts = omega (arith, e) in
    rw (none, quotient) refl

thousandths_from : (m parts : ℕ) → parts_of_thousandths m ≡ Some parts → m * UNIT ≡ parts * 1000
thousandths_from m parts e =
    let a = if_some (eqb (m * UNIT % 1000) 0) (Some (m * UNIT / 1000)) parts e in
    let none : m * UNIT % 1000 ≡ 0 = eqb-true _ _ a.0 in
    let quotient : m * UNIT / 1000 ≡ parts = cc (a.1) in
    omega (arith, none, quotient)

pub decimal_to : (front back : List ℕ) (parts : ℕ) → Each is_digit (front ++ back) → 0 < length front + length back → length front ≤ 6 → length back ≤ 3
    → parts * 10 ^ length back ≡ value_of (front ++ back) * UNIT → decimal_of front back ≡ Some parts
decimal_to front back parts ds some few less e =
    let n = 0 * 10 ^ length front + value_of front in
    let one : with_digits 0 front ≡ Some n = digits_to front 0 (all_front _ front back ds) in
    let two : with_digits n back ≡ Some (n * 10 ^ length back + value_of back) = digits_to back n (all_back _ front back ds) in
    let n_is : n ≡ value_of front = omega arith in
    let value : n * 10 ^ length back + value_of back ≡ value_of (front ++ back) = ap (λ (m : ℕ). m * 10 ^ length back + value_of back) n_is ∙ sym (value_joined front back) in
    let three : parts_of_thousandths ((n * 10 ^ length back + value_of back) * 10 ^ (3 - length back)) ≡ Some parts =
    ap (λ (m : ℕ). parts_of_thousandths (m * 10 ^ (3 - length back))) value ∙ thousandths_to (value_of (front ++ back) * 10 ^ (3 - length back)) parts (scaled (length back) (value_of (front ++ back)) parts less e) in
    rw (le-leb _ 6 few, le-leb _ 3 less, lt-ltb 0 _ some) (rw one (rw two three))

abbrev scaled_parts : List ℕ → ℕ → Option ℕ
scaled_parts back m = parts_of_thousandths (m * 10 ^ (3 - length back))

-- what is found of a decimal
record IsDecimalCut (front back : List ℕ) (parts : ℕ) : Type 0 where
  few_before : length front ≤ 6
  few_after : length back ≤ 3
  some : 0 < length front + length back
  n : ℕ
  m : ℕ
  front_is : with_digits 0 front ≡ Some n
  back_is : with_digits n back ≡ Some m
  parts_is : scaled_parts back m ≡ Some parts

decimal_cut : (front back : List ℕ) (parts : ℕ) → decimal_of front back ≡ Some parts → IsDecimalCut front back parts
decimal_cut front back parts e =
    let a = if_some (leb (length front) 6 && leb (length back) 3 && ltb 0 (length front + length back)) (option_and_then (λ n. option_and_then (scaled_parts back) (with_digits n back)) (with_digits 0 front)) parts e in
    let k = both (leb (length front) 6 && leb (length back) 3) (ltb 0 (length front + length back)) a.0 in
    let l = both (leb (length front) 6) (leb (length back) 3) k.0 in
    let b = then_some (with_digits 0 front) (λ n. option_and_then (scaled_parts back) (with_digits n back)) parts a.1 in
    let c = then_some (with_digits b.0 back) (scaled_parts back) parts b.2 in
    record { few_before = leb-true _ _ l.0; few_after = leb-true _ _ l.1; some = ltb-true _ _ k.1; n = b.0; m = c.0; front_is = b.1; back_is = c.1; parts_is = c.2 }

pub decimal_digits : (front back : List ℕ) (parts : ℕ) → decimal_of front back ≡ Some parts → Each is_digit (front ++ back)
decimal_digits front back parts e = let d = decimal_cut front back parts e in all_joined _ front back (digits_from front 0 d.n d.front_is) (digits_from back d.n d.m d.back_is)

pub decimal_from : (front back : List ℕ) (parts : ℕ) → decimal_of front back ≡ Some parts → IsDecimal (front ++ point ∷ back) parts
decimal_from front back parts e =
    let d = decimal_cut front back parts e in
    let before = digits_from front 0 d.n d.front_is in
    let after = digits_from back d.n d.m d.back_is in
    let n_is : d.n ≡ 0 * 10 ^ length front + value_of front = cc (d.front_is, digits_to front 0 before) in
    let m_is : d.m ≡ d.n * 10 ^ length back + value_of back = cc (d.back_is, digits_to back d.n after) in
    let n_value : d.n ≡ value_of front = omega (arith, n_is) in
    let value : d.m ≡ value_of (front ++ back) = m_is ∙ ap (λ (m : ℕ). m * 10 ^ length back + value_of back) n_value ∙ sym (value_joined front back) in
    let scale : d.m * 10 ^ (3 - length back) * UNIT ≡ parts * 1000 = thousandths_from (d.m * 10 ^ (3 - length back)) parts d.parts_is in
    record {
      front = front;
      back = back;
      cut = refl;
      digits = decimal_digits front back parts e;
      some = d.some;
      few_before = d.few_before;
      few_after = d.few_after;
      value = scaled_back (length back) (value_of (front ++ back)) parts d.few_after (ap (λ (m : ℕ). m * 10 ^ (3 - length back) * UNIT) (sym value) ∙ scale);
    }
