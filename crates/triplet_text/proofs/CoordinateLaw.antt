-- A text is a coordinate exactly where its numbers are found, and of what is found alone.
use Rattle.std.proofs.Common.{◌≡◌, ◌≤◌, ◌<◌, ℕ, ◌+◌, ◌*◌, ◌^◌, inl, inr, Bool, true, false, ◌&&◌, eqb, ltb, leb, List, [], ◌∷◌, ◌++◌, length, Option, Some, None, refl, sym, ap, subst, ◌∙◌, arith, length-append, get_or, take, drop, ◌-◌, to_z, of_z, w64, FitsSigned}
use Rattle.std.specs.Prelude.{ℤ, pos, neg_ℤ, ◌-ℤ◌, unsigned_abs, ◌≤ℤ◌, ◌↔◌, option_and_then, IsSome, IfSome}
use Rattle.std.specs.Option.{option_map}
use Rattle.std.proofs.lemmas.List.{take_rest}
use Rattle.std.proofs.lemmas.Bool.{lt-ltb, le-leb}
use Rattle.std.proofs.lemmas.Bool.Decides.{nat_tests}
use Rattle.std.proofs.lemmas.Int.{ints, to_z-of_z}
use borrow.Author.Tests.{ltb-true, leb-true, eqb-true}
use Rattle.triplet_text.specs.declared.coordinate.TheConstants.{COORDINATE_LENGTH, DECIMALS_LIMIT}
use Rattle.exact_ops.specs.declared.TheConstants.{MAX_COORDINATE, MAX_DENOMINATOR}
use Rattle.triplet_text.specs.Bytes.{slash, point, plus_sign, minus_sign}
use Rattle.triplet_text.specs.Components.{Within}
use Rattle.triplet_text.specs.Digits.{with_digits}
use Rattle.triplet_text.specs.Grammar.{value_of}
use Rattle.triplet_text.specs.Pieces.{cut}
use Rattle.triplet_text.specs.Tokens.{is_in_number}
use Rattle.triplet_text.specs.Coordinates.{AreDigits, IsSize, whole, fraction, decimal, IsSigned, bare, plus, minus, IsCoordinate, number_of, ratio_of, decimal_size_of, size_of, negated, signed_of}
use Rattle.triplet_text.proofs.Options.{both, then_some, map_some, if_some}
use Rattle.triplet_text.proofs.ByteKinds.{digit_no_stroke, digit_no_point, digit_in_number}
use Rattle.triplet_text.proofs.Texts.{Lacks, all_joined, all_front, all_back, all_mapped, cut_first, cut_nowhere, HasFirst, first_or_none}
use Rattle.triplet_text.proofs.Values.{digits_to, digits_from, value_joined}

-- ---- numbers

pub number_to : (run : List ℕ) → AreDigits run → number_of run ≡ Some (value_of run)
number_to run h = rw (lt-ltb 0 (length run) h.some) (digits_to run 0 h.digits ∙ ap (λ (m : ℕ). Some m) (omega arith))

pub number_from : (run : List ℕ) (n : ℕ) → number_of run ≡ Some n → AreDigits run × (value_of run ≡ n)
number_from run n e =
    let h = if_some (ltb 0 (length run)) (with_digits 0 run) n e in
    let ds = digits_from run 0 n h.1 in
    let are : AreDigits run = record { some = ltb-true _ _ h.0; digits = ds } in
    let same : value_of run ≡ n = cc (number_to run are, e) in
    (are, same)

-- both numbers are in range
record AreInRange (n d : ℕ) : Type 0 where
  numerator : n ≤ MAX_COORDINATE
  positive : 0 < d
  denominator : d ≤ MAX_DENOMINATOR

ratio_to : (n d : ℕ) → AreInRange n d → ratio_of n d ≡ Some (pos n, pos d)
ratio_to n d h = rw (le-leb n MAX_COORDINATE h.numerator, lt-ltb 0 d h.positive, le-leb d MAX_DENOMINATOR h.denominator) refl

ratio_from : (n d : ℕ) (c : ℤ × ℤ) → ratio_of n d ≡ Some c → AreInRange n d × ((pos n, pos d) ≡ c)
ratio_from n d c e =
    let h = if_some (leb n MAX_COORDINATE && ltb 0 d && leb d MAX_DENOMINATOR) (Some (pos n, pos d)) c e in
    let k = both (leb n MAX_COORDINATE && ltb 0 d) (leb d MAX_DENOMINATOR) h.0 in
    let l = both (leb n MAX_COORDINATE) (ltb 0 d) k.0 in
    (record { numerator = leb-true _ _ l.0; positive = ltb-true _ _ l.1; denominator = leb-true _ _ k.1 }, cc (h.1))

-- ---- sizes

with_stroke : (text front back : List ℕ) → cut (λ b. eqb b slash) text ≡ Some (front, back) → size_of text ≡ option_and_then (λ n. option_and_then (λ d. ratio_of n d) (number_of back)) (number_of front)
with_stroke text front back e = rw e refl

with_point : (text front back : List ℕ) → Lacks (λ b. eqb b slash) text → cut (λ b. eqb b point) text ≡ Some (front, back) → size_of text ≡ decimal_size_of front back
with_point text front back h e = rw (cut_nowhere (λ b. eqb b slash) text h, e) refl

with_neither : (text : List ℕ) → Lacks (λ b. eqb b slash) text → Lacks (λ b. eqb b point) text → size_of text ≡ option_and_then (λ n. ratio_of n 1) (number_of text)
with_neither text h g = rw (cut_nowhere (λ b. eqb b slash) text h, cut_nowhere (λ b. eqb b point) text g) refl

decimal_to : (front back : List ℕ) → AreDigits (front ++ back) → length back ≤ DECIMALS_LIMIT → decimal_size_of front back ≡ ratio_of (value_of (front ++ back)) (10 ^ length back)
decimal_to front back h few =
    let n = 0 * 10 ^ length front + value_of front in
    let one : with_digits 0 front ≡ Some n = digits_to front 0 (all_front _ front back h.digits) in
    let two : with_digits n back ≡ Some (n * 10 ^ length back + value_of back) = digits_to back n (all_back _ front back h.digits) in
    let n_is : n ≡ value_of front = omega arith in
    let value : n * 10 ^ length back + value_of back ≡ value_of (front ++ back) = ap (λ (m : ℕ). m * 10 ^ length back + value_of back) n_is ∙ sym (value_joined front back) in
    let some : 0 < length front + length back = omega (arith, h.some, length-append front back) in
    rw (le-leb _ DECIMALS_LIMIT few, lt-ltb 0 _ some) (rw one (rw two (ap (λ (m : ℕ). ratio_of m (10 ^ length back)) value)))

size_to : {text : List ℕ} {n d : ℕ} → IsSize text n d → AreInRange n d → size_of text ≡ Some (pos n, pos d)
size_to (whole {run = run} w) r =
    with_neither run (all_mapped _ _ digit_no_stroke run w.digits) (all_mapped _ _ digit_no_point run w.digits) ∙ rw (number_to run w) (ratio_to (value_of run) 1 r)
size_to (fraction {over = over} {under = under} v w) r =
    with_stroke (over ++ slash ∷ under) over under (cut_first (λ b. eqb b slash) over slash under (all_mapped _ _ digit_no_stroke over v.digits) refl)
    ∙ rw (number_to over v, number_to under w) (ratio_to (value_of over) (value_of under) r)
size_to (decimal front back w few) r =
    let ds = all_front _ front back w.digits in
    let no_stroke = all_joined _ front (point ∷ back) (all_mapped _ _ digit_no_stroke front ds) (refl, all_mapped _ _ digit_no_stroke back (all_back _ front back w.digits)) in
    with_point (front ++ point ∷ back) front back no_stroke (cut_first (λ b. eqb b point) front point back (all_mapped _ _ digit_no_point front ds) refl)
    ∙ decimal_to front back w few ∙ ratio_to (value_of (front ++ back)) (10 ^ length back) r

-- what is found without a sign
record IsFound (text : List ℕ) (c : ℤ × ℤ) : Type 0 where
  n : ℕ
  d : ℕ
  size : IsSize text n d
  in_range : AreInRange n d
  value : (pos n, pos d) ≡ c

decimal_from : (front back : List ℕ) (c : ℤ × ℤ) → decimal_size_of front back ≡ Some c → AreDigits (front ++ back) × (length back ≤ DECIMALS_LIMIT)
decimal_from front back c e =
    let a = if_some (leb (length back) DECIMALS_LIMIT && ltb 0 (length front + length back)) (option_and_then (λ n. option_and_then (λ m. ratio_of m (10 ^ length back)) (with_digits n back)) (with_digits 0 front)) c e in
    let k = both (leb (length back) DECIMALS_LIMIT) (ltb 0 (length front + length back)) a.0 in
    let b = then_some (with_digits 0 front) (λ n. option_and_then (λ m. ratio_of m (10 ^ length back)) (with_digits n back)) c a.1 in
    let f = then_some (with_digits b.0 back) (λ m. ratio_of m (10 ^ length back)) c b.2 in
    let some : 0 < length front + length back = ltb-true _ _ k.1 in
    (record { some = omega (arith, length-append front back); digits = all_joined _ front back (digits_from front 0 b.0 b.1) (digits_from back b.0 f.0 f.1) }, leb-true _ _ k.0)

size_by_value : (text : List ℕ) {n m d e : ℕ} → n ≡ m → d ≡ e → IsSize text n d → IsSize text m e
size_by_value text {n} {m} {d} {e} p q h = subst (λ (k : ℕ). IsSize text k e) p (subst (IsSize text n) q h)

module _ (text : List ℕ) (c : ℤ × ℤ) (e : size_of text ≡ Some c) where
  stroke_from : HasFirst (λ b. eqb b slash) text → IsFound text c
  stroke_from f =
      let is = eqb-true f.byte slash f.passed in
      let found = sym (with_stroke text f.front f.back (ap (cut (λ b. eqb b slash)) f.cut ∙ cut_first (λ b. eqb b slash) f.front f.byte f.back f.lacks f.passed)) ∙ e in
      let over = then_some (number_of f.front) (λ n. option_and_then (λ d. ratio_of n d) (number_of f.back)) c found in
      let under = then_some (number_of f.back) (λ d. ratio_of over.0 d) c over.2 in
      let v = number_from f.front over.0 over.1 in
      let w = number_from f.back under.0 under.1 in
      let r = ratio_from over.0 under.0 c under.2 in
      let size : IsSize text (value_of f.front) (value_of f.back) = subst (λ (t : List ℕ). IsSize t (value_of f.front) (value_of f.back)) (sym (f.cut ∙ ap (λ (b : ℕ). f.front ++ b ∷ f.back) is)) (fraction v.0 w.0) in
      record { n = over.0; d = under.0; size = size_by_value text v.1 w.1 size; in_range = r.0; value = r.1 }

  point_from : Lacks (λ b. eqb b slash) text → HasFirst (λ b. eqb b point) text → IsFound text c
  point_from no_stroke f =
      let is = eqb-true f.byte point f.passed in
      let found = sym (with_point text f.front f.back no_stroke (ap (cut (λ b. eqb b point)) f.cut ∙ cut_first (λ b. eqb b point) f.front f.byte f.back f.lacks f.passed)) ∙ e in
      let w = decimal_from f.front f.back c found in
      let r = ratio_from (value_of (f.front ++ f.back)) (10 ^ length f.back) c (sym (decimal_to f.front f.back w.0 w.1) ∙ found) in
      let size = subst (λ (t : List ℕ). IsSize t (value_of (f.front ++ f.back)) (10 ^ length f.back)) (sym (f.cut ∙ ap (λ (b : ℕ). f.front ++ b ∷ f.back) is)) (decimal f.front f.back w.0 w.1) in
      record { n = value_of (f.front ++ f.back); d = 10 ^ length f.back; size = size; in_range = r.0; value = r.1 }

  whole_from : Lacks (λ b. eqb b slash) text → Lacks (λ b. eqb b point) text → IsFound text c
  whole_from no_stroke no_point =
      let over = then_some (number_of text) (λ n. ratio_of n 1) c (sym (with_neither text no_stroke no_point) ∙ e) in
      let v = number_from text over.0 over.1 in
      let r = ratio_from over.0 1 c over.2 in
      record { n = over.0; d = 1; size = subst (λ (n : ℕ). IsSize text n 1) v.1 (whole v.0); in_range = r.0; value = r.1 }

  size_from : IsFound text c
  size_from =
      elim (first_or_none (λ b. eqb b slash) text) [
        | inl f ↦ stroke_from f
        | inr no_stroke ↦ elim (first_or_none (λ b. eqb b point) text) [
          | inl f ↦ point_from no_stroke f
          | inr no_point ↦ whole_from no_stroke no_point
        ]
      ]

-- ---- signs

-- a text that begins with a digit or a point
record BeginsNumber (text : List ℕ) : Type 0 where
  byte : ℕ
  more : List ℕ
  cut : text ≡ byte ∷ more
  begins : is_in_number byte ≡ true

digits_begin : (run more : List ℕ) → AreDigits run → BeginsNumber (run ++ more)
digits_begin [] more h = absurd (omega (arith, h.some))
digits_begin (byte ∷ run) more h = record { byte = byte; more = run ++ more; cut = refl; begins = digit_in_number byte h.digits.0 }

size_begins : {text : List ℕ} {n d : ℕ} → IsSize text n d → BeginsNumber text
size_begins (whole {run = []} w) = absurd (omega (arith, w.some))
size_begins (whole {run = byte ∷ run} w) = record { byte = byte; more = run; cut = refl; begins = digit_in_number byte w.digits.0 }
size_begins (fraction {over = over} {under = under} v w) = digits_begin over (slash ∷ under) v
size_begins (decimal [] back w few) = record { byte = point; more = back; cut = refl; begins = refl }
size_begins (decimal (byte ∷ front) back w few) = record { byte = byte; more = front ++ point ∷ back; cut = refl; begins = digit_in_number byte w.digits.0 }

no_minus : (byte : ℕ) → is_in_number byte ≡ true → eqb byte minus_sign ≡ false
no_minus byte h = grind (arith, nat_tests)

no_plus : (byte : ℕ) → is_in_number byte ≡ true → eqb byte plus_sign ≡ false
no_plus byte h = grind (arith, nat_tests)

bare_is : (text : List ℕ) → BeginsNumber text → signed_of text ≡ size_of text
bare_is text b = rw b.cut (rw (no_minus b.byte b.begins, no_plus b.byte b.begins) refl)

signed_to : {text : List ℕ} {n d : ℤ} → IsSigned text n d → Within MAX_COORDINATE n → pos 1 ≤ℤ d → d ≤ℤ pos MAX_DENOMINATOR → signed_of text ≡ Some (n, d)
signed_to (bare {text = text} {n = n} {d = d} s) small some few =
    bare_is text (size_begins s) ∙ size_to s (record { numerator = omega (arith, ints); positive = omega (arith, ints); denominator = omega (arith, ints) })
signed_to (plus s) small some few = size_to s (record { numerator = omega (arith, ints); positive = omega (arith, ints); denominator = omega (arith, ints) })
signed_to (minus s) small some few = ap (option_map negated) (size_to s (record { numerator = omega (arith, ints); positive = omega (arith, ints); denominator = omega (arith, ints) }))

pub coordinate_to : (text : List ℕ) (n d : ℤ) → IsCoordinate text n d → signed_of text ≡ Some (n, d)
coordinate_to text n d h = signed_to h.signed h.numerator h.positive h.denominator

is_coordinate : {text : List ℕ} {m : ℤ} {n d : ℕ} → length text ≤ COORDINATE_LENGTH → IsSigned text m (pos d) → AreInRange n d → unsigned_abs m ≡ n → IsCoordinate text m (pos d)
is_coordinate {text} {m} {n} {d} short signed r size =
    let le = r.numerator in
    let some = r.positive in
    let few = r.denominator in
    record { short = short; signed = signed; numerator = (omega (arith, ints), omega (arith, ints)); positive = omega (arith, ints); denominator = omega (arith, ints) }

found_is : (text : List ℕ) (c : ℤ × ℤ) → length text ≤ COORDINATE_LENGTH → IsFound text c → IsCoordinate text c.0 c.1
found_is text c short f = subst (λ (p : ℤ × ℤ). IsCoordinate text p.0 p.1) f.value (is_coordinate short (bare f.size) f.in_range refl)

plus_found : (text : List ℕ) (c : ℤ × ℤ) → length (plus_sign ∷ text) ≤ COORDINATE_LENGTH → IsFound text c → IsCoordinate (plus_sign ∷ text) c.0 c.1
plus_found text c short f = subst (λ (p : ℤ × ℤ). IsCoordinate (plus_sign ∷ text) p.0 p.1) f.value (is_coordinate short (plus f.size) f.in_range refl)

minus_found : (text : List ℕ) (c : ℤ × ℤ) → length (minus_sign ∷ text) ≤ COORDINATE_LENGTH → IsFound text c → IsCoordinate (minus_sign ∷ text) (neg_ℤ c.0) c.1
minus_found text c short f = subst (λ (p : ℤ × ℤ). IsCoordinate (minus_sign ∷ text) (neg_ℤ p.0) p.1) f.value (is_coordinate short (minus f.size) f.in_range (omega (arith, ints)))

coordinate_by : (a b : Bool) (byte : ℕ) (text : List ℕ) (c : ℤ × ℤ) → eqb byte minus_sign ≡ a → eqb byte plus_sign ≡ b → length (byte ∷ text) ≤ COORDINATE_LENGTH → signed_of (byte ∷ text) ≡ Some c → IsCoordinate (byte ∷ text) c.0 c.1
coordinate_by true b byte text c p q short e =
    let m = map_some (size_of text) negated c (rw p at e) in
    let is = eqb-true byte minus_sign p in
    let found : IsCoordinate (minus_sign ∷ text) (neg_ℤ m.0.0) m.0.1 = minus_found text m.0 (omega (arith, short)) (size_from text m.0 m.1) in
    let at_byte : IsCoordinate (byte ∷ text) (neg_ℤ m.0.0) m.0.1 = subst (λ (k : ℕ). IsCoordinate (k ∷ text) (neg_ℤ m.0.0) m.0.1) (sym is) found in
    subst (λ (p : ℤ × ℤ). IsCoordinate (byte ∷ text) p.0 p.1) m.2 at_byte
coordinate_by false true byte text c p q short e =
    let is = eqb-true byte plus_sign q in
    subst (λ (k : ℕ). IsCoordinate (k ∷ text) c.0 c.1) (sym is) (plus_found text c (omega (arith, short)) (size_from text c (rw (p, q) at e)))
coordinate_by false false byte text c p q short e = found_is (byte ∷ text) c short (size_from (byte ∷ text) c (rw (p, q) at e))

pub coordinate_from : (text : List ℕ) (c : ℤ × ℤ) → length text ≤ COORDINATE_LENGTH → signed_of text ≡ Some c → IsCoordinate text c.0 c.1
coordinate_from [] c short e = found_is [] c short (size_from [] c e)
coordinate_from (byte ∷ text) c short e = coordinate_by (eqb byte minus_sign) (eqb byte plus_sign) byte text c refl refl short e

-- ---- what the function that reads a coordinate says

abbrev pub HasCoordinate : List ℕ → Type 0
HasCoordinate text = (n : ℤ) × (d : ℤ) × IsCoordinate text n d

pub too_long : (text : List ℕ) → COORDINATE_LENGTH < length text → HasCoordinate text → ⊥
too_long text long h = let short = h.2.short in omega arith

pub found_some : (text : List ℕ) (o : Option (ℤ × ℤ)) → length text ≤ COORDINATE_LENGTH → o ≡ signed_of text → IsSome o ↔ HasCoordinate text
found_some text (Some c) short e = (λ _. (c.0, c.1, coordinate_from text c short (sym e)), λ _. refl)
found_some text None short e = (λ s. absurd cc, λ h. absurd (let k = coordinate_to text h.0 h.1 h.2 in cc))

pub found_value : (text : List ℕ) (o : Option (ℤ × ℤ)) → length text ≤ COORDINATE_LENGTH → o ≡ signed_of text → IfSome o (λ c. IsCoordinate text c.0 c.1)
found_value text (Some c) short e = coordinate_from text c short (sym e)
found_value text None short e = tt

pub one_coordinate : (text : List ℕ) (n d m e : ℤ) → IsCoordinate text n d → IsCoordinate text m e → (n ≡ m) × (d ≡ e)
one_coordinate text n d m e p q =
    let same : (n, d) ≡ (m, e) = cc (coordinate_to text n d p, coordinate_to text m e q) in
    (ap (λ (c : ℤ × ℤ). c.0) same, ap (λ (c : ℤ × ℤ). c.1) same)

-- behind a minus sign
pub minus_first : (text : List ℕ) (n d : ℤ) → 1 ≤ length text → get_or text 0 0 ≡ minus_sign → Some (n, d) ≡ size_of (take (length text - 1) (drop 1 text)) → Within MAX_COORDINATE n → FitsSigned w64 d
    → Some (to_z w64 (of_z w64 (pos 0 -ℤ to_z w64 (of_z w64 n))), to_z w64 (of_z w64 d)) ≡ signed_of text
minus_first [] n d some is e small fits = absurd (omega arith)
minus_first (byte ∷ text) n d some is e small fits =
    let found = rw take_rest at e in
    let a : to_z w64 (of_z w64 n) ≡ n = omega (arith, ints) in
    let b : to_z w64 (of_z w64 (pos 0 -ℤ to_z w64 (of_z w64 n))) ≡ neg_ℤ n = omega (arith, ints) in
    (λ i. Some (b i, to_z-of_z w64 d fits i)) ∙ rw (is, ← found) refl
