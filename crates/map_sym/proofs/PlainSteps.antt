-- Lines that are a number alone, read byte by byte.
use Rattle.std.proofs.Common.{◌≡◌, ℕ, ◌+◌, ◌-◌, ◌*◌, ◌^◌, ◌<◌, ◌≤◌, pos, w32, to_z, of_z, Bool, true, false, List, [], ◌∷◌, ◌++◌, length, take, drop, get_or, Some, None, refl, sym, ap, subst, ◌∙◌, arith, length-append, append_assoc}
use Rattle.std.proofs.lemmas.List.{take_rest}
use Rattle.std.specs.Prelude.{neg_ℤ, ◌-ℤ◌}
use Rattle.std.proofs.lemmas.Int.{ints}
use Rattle.triplet_text.specs.Bytes.{is_digit, line_feed, minus_sign}
use Rattle.triplet_text.specs.Digits.{with_digits}
use Rattle.triplet_text.specs.Integers.{IsInteger, bare, minus}
use Rattle.triplet_text.proofs.IntegerLaw.{natural_is, natural_small}
use Rattle.data_lines.specs.declared.number.TheConstants.{NUMBER_DIGITS}
use Rattle.map_sym.specs.PlainLines.{IsDigitsLine, IsPlainLine}

-- the text begins with digits, no more than a value has, which write n; the rest follows them
pub record AreDigitsBefore (text rest : List ℕ) (n : ℕ) : Type 0 where
  pub run : List ℕ
  pub cut : text ≡ run ++ rest
  pub digits : with_digits 0 run ≡ Some n
  pub few : length run ≤ NUMBER_DIGITS

pub none_before : (text : List ℕ) → AreDigitsBefore text text 0
none_before text = record { run = []; cut = refl; digits = refl; few = omega arith }

more_by : (b : Bool) (start first : ℕ) (run : List ℕ) (byte n : ℕ) → is_digit first ≡ b → (with_digits (10 * start + (first - 48)) run ≡ Some n → with_digits (10 * start + (first - 48)) (run ++ byte ∷ []) ≡ Some (10 * n + (byte - 48))) → with_digits start (first ∷ run) ≡ Some n
    → with_digits start (first ∷ run ++ byte ∷ []) ≡ Some (10 * n + (byte - 48))
more_by true start first run byte n h more e = rw h (more (rw h at e))
more_by false start first run byte n h more e = let none : None ≡ Some n = rw h at e in absurd cc

with_one_more : (start : ℕ) (run : List ℕ) (byte n : ℕ) → is_digit byte ≡ true → with_digits start run ≡ Some n → with_digits start (run ++ byte ∷ []) ≡ Some (10 * n + (byte - 48))
with_one_more start [] byte n d e = let same : start ≡ n = cc in rw d (ap (λ m. Some (10 * m + (byte - 48))) same)
with_one_more start (first ∷ run) byte n d e = more_by (is_digit first) start first run byte n refl (with_one_more (10 * start + (first - 48)) run byte n d) e

cut_first : (rest run text : List ℕ) → 1 ≤ length rest → text ≡ run ++ rest → text ≡ run ++ get_or rest 0 0 ∷ take (length rest - 1) (drop 1 rest)
cut_first [] run text l e = absurd (omega arith)
cut_first (byte ∷ rest) run text l e = rw take_rest e

module _ (text rest : List ℕ) (n : ℕ) (h : AreDigitsBefore text rest n) where
  pub taken_is : length text ≡ length h.run + length rest
  taken_is = ap length h.cut ∙ length-append h.run rest

  pub shorter : length rest ≤ length text
  shorter = let e = taken_is in omega (arith, e)

  pub less : (length text - length rest ≡ NUMBER_DIGITS → ⊥) → length text - length rest < NUMBER_DIGITS
  less other = let e = taken_is in let f = h.few in omega (arith, e, f, other)

  pub one_more : 1 ≤ length rest → length text - length rest < NUMBER_DIGITS → is_digit (get_or rest 0 0) ≡ true → AreDigitsBefore text (take (length rest - 1) (drop 1 rest)) (10 * n + (get_or rest 0 0 - 48))
  one_more l few d = record {
    run = h.run ++ get_or rest 0 0 ∷ [];
    cut = cut_first rest h.run text l h.cut ∙ sym (append_assoc h.run (get_or rest 0 0 ∷ []) (take (length rest - 1) (drop 1 rest)));
    digits = with_one_more 0 h.run (get_or rest 0 0) n d h.digits;
    few = let e = taken_is in let k = length-append h.run (get_or rest 0 0 ∷ []) in omega (arith, e, k, few);
  }

  pub small : length text - length rest < NUMBER_DIGITS → n < 10 ^ 8
  small few = by h.run h.digits (let e = taken_is in omega (arith, e, few))
    where
      by : (run : List ℕ) → with_digits 0 run ≡ Some n → length run ≤ 8 → n < 10 ^ 8
      by [] e l = let same : 0 ≡ n = cc in omega (arith, same)
      by (byte ∷ run) e l = natural_small 8 (byte ∷ run) n (natural_is 8 (byte ∷ run) n (λ z. omega (arith, z)) l e)

  pub digits_line : 1 ≤ length rest → (length text - length rest ≡ 0 → ⊥) → get_or rest 0 0 ≡ line_feed → IsDigitsLine text n (take (length rest - 1) (drop 1 rest))
  digits_line l some is = record {
    field = h.run;
    cut = subst (λ byte. text ≡ h.run ++ byte ∷ take (length rest - 1) (drop 1 rest)) is (cut_first rest h.run text l h.cut);
    is_natural = natural_is NUMBER_DIGITS h.run n (λ z. some (let e = taken_is in omega (arith, e, z))) h.few h.digits;
  }

-- ---- with a sign or none

pub digits_small : {text : List ℕ} {n : ℕ} {rest : List ℕ} → IsDigitsLine text n rest → n < 10 ^ 9
digits_small h = natural_small NUMBER_DIGITS h.field _ h.is_natural

pub plain_bare : (text : List ℕ) (n : ℕ) (rest : List ℕ) → IsDigitsLine text n rest → IsPlainLine text (to_z w32 n) rest
plain_bare text n rest h = record { field = h.field; cut = h.cut; is_value = subst (IsInteger NUMBER_DIGITS h.field) (sym (whole n (digits_small h))) (bare h.is_natural) }
  where
    whole : (n : ℕ) → n < 10 ^ 9 → to_z w32 n ≡ pos n
    whole n few = omega (arith, ints)

pub plain_behind_minus : (text : List ℕ) (n : ℕ) (rest : List ℕ) → 1 ≤ length text → get_or text 0 0 ≡ minus_sign → IsDigitsLine (take (length text - 1) (drop 1 text)) n rest → IsPlainLine text (to_z w32 (of_z w32 (pos 0 -ℤ to_z w32 n))) rest
plain_behind_minus [] n rest some is h = absurd (omega arith)
plain_behind_minus (byte ∷ text) n rest some is h =
    let cut : text ≡ h.field ++ line_feed ∷ rest = rw take_rest at h.cut in
    record {
      field = byte ∷ h.field;
      cut = ap (λ (t : List ℕ). byte ∷ t) cut;
      is_value = subst (λ (k : ℕ). IsInteger NUMBER_DIGITS (k ∷ h.field) (to_z w32 (of_z w32 (pos 0 -ℤ to_z w32 n)))) (sym is) (subst (IsInteger NUMBER_DIGITS (minus_sign ∷ h.field)) (sym (negated n (digits_small h))) (minus h.is_natural));
    }
  where
    negated : (n : ℕ) → n < 10 ^ 9 → to_z w32 (of_z w32 (pos 0 -ℤ to_z w32 n)) ≡ neg_ℤ (pos n)
    negated n few = omega (arith, ints)
