-- A line that is a number alone is a line that writes its value; and lines whose values were read one by one.
use Rattle.std.proofs.Common.{◌≡◌, ◌==◌, ℕ, ◌<◌, ℤ, w32, to_z, of_z, Bool, true, false, List, [], ◌∷◌, ◌++◌, length, Some, Bor, refl, sym, ap, subst, ◌∙◌, arith, length-append}
use Rattle.std.specs.List.{AllByRecursion, filter}
use Rattle.std.specs.Prelude.{nat_lt}
use Rattle.std.proofs.lemmas.Bool.{lt-ltb}
use Rattle.std.proofs.lemmas.Bool.Decides.{nat_tests}
use Rattle.std.proofs.lemmas.List.Elements.{All-from_recursion}
use Rattle.std.proofs.lemmas.List.Splits.{slice_split_at, slice_split_none}
use Rattle.std.proofs.lemmas.List.{append-nil}
use Rattle.std.proofs.lemmas.Int.{to_z-of_z}
use Rattle.triplet_text.specs.Bytes.{is_digit, is_blank, line_feed, hash, plus_sign, minus_sign}
use Rattle.triplet_text.specs.Integers.{IsInteger, bare, plus, minus}
use Rattle.triplet_text.specs.Lines.{lines_of, IsSkipped, end, skipped, read}
use Rattle.triplet_text.specs.Tokens.{Each}
use Rattle.triplet_text.proofs.LineSteps.{not_skipped}
use Rattle.triplet_text.proofs.SaidLines.{AreSaidBefore, first_bad}
use Rattle.data_lines.specs.Fields.{fields_of}
use Rattle.data_lines.specs.DataLines.{IsDataLine, IsBadLine, AddsWritten}
use Rattle.data_lines.specs.declared.number.TheConstants.{NUMBER_DIGITS}
use Rattle.map_sym.specs.declared.reading.ValueFault.{ValueFault}
use Rattle.map_sym.specs.declared.reading.ValueFault.TheVariants.{Bad, Count, NoMemory}
use Rattle.map_sym.specs.ValueLines.{IsValueLine}
use Rattle.data_lines.proofs.Numbers.{narrow}
use Rattle.map_sym.specs.PlainLines.{IsPlainLine, IsTaken, IsLineFaultAt, IsLineFaultOf}

-- ---- bytes of a number

abbrev Lacks : (ℕ → Bool) → List ℕ → Type 0
Lacks p text = AllByRecursion (λ byte. p byte ≡ false) text

module _ (p : ℕ → Bool) (no_digit : (byte : ℕ) → is_digit byte ≡ true → p byte ≡ false) (no_plus : p plus_sign ≡ false) (no_minus : p minus_sign ≡ false) where
  digits_lack : (text : List ℕ) → Each is_digit text → Lacks p text
  digits_lack [] h = tt
  digits_lack (byte ∷ text) h = (no_digit byte h.0, digits_lack text h.1)

  number_lacks : {text : List ℕ} {z : ℤ} → IsInteger NUMBER_DIGITS text z → Lacks p text
  number_lacks (bare {text = text} h) = digits_lack text h.digits.digits
  number_lacks (plus {text = text} h) = (no_plus, digits_lack text h.digits.digits)
  number_lacks (minus {text = text} h) = (no_minus, digits_lack text h.digits.digits)

some_bytes : {text : List ℕ} {z : ℤ} → IsInteger NUMBER_DIGITS text z → 0 < length text
some_bytes (bare h) = h.digits.some
some_bytes (plus h) = omega arith
some_bytes (minus h) = omega arith

digit_no_feed : (byte : ℕ) → is_digit byte ≡ true → (byte == line_feed) ≡ false
digit_no_feed byte h = grind (arith, nat_tests)

digit_no_hash : (byte : ℕ) → is_digit byte ≡ true → (byte == hash) ≡ false
digit_no_hash byte h = grind (arith, nat_tests)

digit_no_blank : (byte : ℕ) → is_digit byte ≡ true → is_blank byte ≡ false
digit_no_blank byte h = grind (arith, nat_tests)

-- ---- the line

kept_text : (field : List ℕ) → 0 < length field → Lacks is_blank field → Lacks (λ byte. byte == hash) field → ¬ IsSkipped field
kept_text [] some blanks hashes = absurd (omega arith)
kept_text (byte ∷ field) some blanks hashes = not_skipped (byte ∷ field) false (rw (blanks.0, hashes.0) refl) refl

one_field : (field : List ℕ) → 0 < length field → Lacks is_blank field → fields_of field ≡ field ∷ []
one_field field some blanks = ap (λ pieces. filter (λ (f : List ℕ). nat_lt 0 (length f)) pieces) (slice_split_none is_blank field (All-from_recursion (λ byte. is_blank byte ≡ false) field blanks)) ∙ rw (lt-ltb 0 (length field) some) refl

module _ (text rest : List ℕ) (value : ℤ) (h : IsPlainLine text value rest) where
  blanks : Lacks is_blank h.field
  blanks = number_lacks is_blank digit_no_blank refl refl h.is_value

  plain_cut : lines_of text ≡ h.field ∷ lines_of rest
  plain_cut =
      ap lines_of h.cut
      ∙ slice_split_at (λ byte. byte == line_feed) h.field line_feed rest (All-from_recursion (λ byte. (byte == line_feed) ≡ false) h.field (number_lacks (λ byte. byte == line_feed) digit_no_feed refl refl h.is_value)) refl

  plain_says : IsDataLine IsValueLine h.field value
  plain_says = record {
    kept = kept_text h.field (some_bytes h.is_value) blanks (number_lacks (λ byte. byte == hash) digit_no_hash refl refl h.is_value);
    written = record { field = h.field; is_field = one_field h.field (some_bytes h.is_value) blanks; is_value = h.is_value };
  }

  plain_shorter : length rest < length text
  plain_shorter = let e = ap length h.cut ∙ length-append h.field (line_feed ∷ rest) in omega (arith, e)

-- a value that a line writes, as the machine holds it
abbrev held : ℤ → ℤ
held value = to_z w32 (of_z w32 value)

pub value_added : (line : List ℕ) (value : ℤ) (old new : List ℤ) → IsDataLine IsValueLine line value → new ≡ old ++ held value ∷ [] → AddsWritten IsValueLine (line ∷ []) old new
value_added line value old new says grown = record {
  added = value ∷ [];
  read = read says end;
  grown = grown ∙ ap (λ (v : ℤ). old ++ v ∷ []) (to_z-of_z w32 value (narrow says.written.field value says.written.is_value));
}

pub none_added : (line : List ℕ) (old : List ℤ) → IsSkipped line → AddsWritten IsValueLine (line ∷ []) old old
none_added line old s = record { added = []; read = skipped s end; grown = sym (append-nil old) }

pub plain_taken : (text : List ℕ) (rest : Bor (List ℕ)) (value : ℤ) (old new : List ℤ) → IsPlainLine text value rest.now → new ≡ old ++ held value ∷ [] → IsTaken text (Some rest) old new
plain_taken text rest value old new h grown = record {
  line = h.field;
  cut = plain_cut text rest.now value h;
  shorter = plain_shorter text rest.now value h;
  written = value_added h.field value old new (plain_says text rest.now value h) grown;
}

-- ---- faults

pub fault_found : (first : ℕ) (lines left : List (List ℕ)) (k : ℕ) (list : List ℤ) (fault : ValueFault) → AreSaidBefore (IsDataLine IsValueLine) first lines left k list → IsLineFaultAt k left fault → IsLineFaultOf first lines fault
fault_found first lines left k list (Bad n) h f =
    first_bad (IsDataLine IsValueLine) (IsBadLine IsValueLine) first lines f.1.1 f.1.0 k n list
    (subst (λ l. AreSaidBefore (IsDataLine IsValueLine) first lines l k list) f.1.2 h) f.0 f.1.3
fault_found first lines left k list (Count n) h f = f
fault_found first lines left k list NoMemory h f = tt
