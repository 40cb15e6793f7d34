-- No byte of the text of an affine map needs an escape.
use Rattle.std.proofs.Common.{◌≡◌, ℕ, zero, suc, ◌*◌, ◌/◌, ◌^◌, ◌<◌, ◌≤◌, Bool, true, false, if◌then◌else◌, ◌==◌, List, [], ◌∷◌, ◌++◌, IsAscii, ℤ, pos, negsuc, unsigned_abs, decimal, refl, ap₂, arith, lt_of_le_of_lt}
use Rattle.std.specs.List.{AllByRecursion}
use Rattle.std.proofs.lemmas.Fmt.{digits_decimal}
use Rattle.std.proofs.lemmas.Int.{ints}
use Rattle.std.proofs.lemmas.Str.Ascii.{IsAscii-nil, IsAscii-cons}
use Rattle.std.proofs.lemmas.Str.Parse.{IsDigitsTest, numerals_by_value}
use Rattle.std.proofs.Math.Nat.{div-le_self}
use Rattle.lattice_algebra.specs.Operator.{Operator, AreWithin, HasEntriesWithin, IsPart}
use Rattle.exact_ops.specs.declared.TheConstants.{UNIT}
use Rattle.exact_ops.specs.Narrow.{IsNarrow}
use Rattle.parameter_forms.specs.declared.TheConstants.{MAX_OVER}
use Rattle.parameter_forms.specs.Forms.{Form}
use Rattle.parameter_forms.specs.Finding.{IsKeptForm}
use Rattle.json.specs.Print.{escape}
use Rattle.json.proofs.Printed.Strings.{escape_byte_plain}
use Rattle.triplet_text.specs.Bytes.{star, plus_sign, minus_sign, comma, slash, zero_digit, letter_x, letter_y, letter_z}
use Rattle.triplet_text.specs.Fractions.{gcd, quotient_text, fraction_text}
use Rattle.triplet_text.specs.declared.printing.TheConstants.{PARTS_LIMIT}
use Rattle.triplet_text.specs.Printing.{multiple_text, signed_text, coefficient_text, constant_text, joined, or_zero, component_text, affine_text, operator_text, IsPrintable}
use Rattle.table_print.specs.Params.{form_text}
use Rattle.table_print.proofs.FormTexts.{shifts_within}

-- ---- bytes

-- ASCII, and neither a control character nor a quote nor a backslash
pub record IsPlain (byte : ℕ) : Type 0 where
  pub no_quote : byte ≡ 34 → ⊥
  pub no_backslash : byte ≡ 92 → ⊥
  pub no_control : 32 ≤ byte
  pub ascii : byte < 128

abbrev pub ArePlain : List ℕ → Type 0
ArePlain text = AllByRecursion IsPlain text

between : (byte : ℕ) → 35 ≤ byte → byte ≤ 91 → IsPlain byte
between byte low high = record { no_quote = λ e. omega (arith, e, low); no_backslash = λ e. omega (arith, e, high); no_control = omega (arith, low); ascii = omega (arith, high) }

above : (byte : ℕ) → 93 ≤ byte → byte < 128 → IsPlain byte
above byte low high = record { no_quote = λ e. omega (arith, e, low); no_backslash = λ e. omega (arith, e, low); no_control = omega (arith, low); ascii = high }

-- a plain text stands in JSON as it is
pub plain_kept : (text : List ℕ) → ArePlain text → escape text ≡ text
plain_kept [] p = refl
plain_kept (byte ∷ text) p = ap₂ (λ (s t : List ℕ). s ++ t) (escape_byte_plain byte p.0.no_quote p.0.no_backslash p.0.no_control) (plain_kept text p.1)

pub plain_ascii : (text : List ℕ) → ArePlain text → IsAscii text
plain_ascii [] p = IsAscii-nil
plain_ascii (byte ∷ text) p = IsAscii-cons byte text p.0.ascii (plain_ascii text p.1)

both_plain : (s t : List ℕ) → ArePlain s → ArePlain t → ArePlain (s ++ t)
both_plain [] t p q = q
both_plain (byte ∷ s) t p q = (p.0, both_plain s t p.1 q)

-- ---- numbers

abbrev AreDigits : List ℕ → Type 0
AreDigits [] = Unit {0}
AreDigits (byte ∷ rest) = (48 ≤ byte) × (byte ≤ 57) × AreDigits rest

digits_test : IsDigitsTest AreDigits
digits_test = record { empty = tt; parts = λ c cs h. ((h.0, h.1), h.2); more = λ c cs k h. (k.0, k.1, h) }

digits_plain : (text : List ℕ) → AreDigits text → ArePlain text
digits_plain [] h = tt
digits_plain (byte ∷ text) h = (between byte (omega (arith, h.0)) (omega (arith, h.1)), digits_plain text h.2)

decimal_plain : (n : ℕ) → n < 2 ^ 64 → ArePlain (decimal n)
decimal_plain n h = digits_plain (decimal n) (digits_decimal (numerals_by_value AreDigits digits_test) n h)

quotient_plain : (p q : ℕ) → p < 2 ^ 64 → q < 2 ^ 64 → ArePlain (quotient_text p q)
quotient_plain p q hp hq = by (q == 1)
  where
    by : (b : Bool) → ArePlain (if b then decimal p else decimal p ++ slash ∷ decimal q)
    by true = decimal_plain p hp
    by false = both_plain (decimal p) (slash ∷ decimal q) (decimal_plain p hp) (between slash (omega arith) (omega arith), decimal_plain q hq)

quotient_below : (n g : ℕ) → n < 2 ^ 64 → n / g < 2 ^ 64
quotient_below n g h = lt_of_le_of_lt (div-le_self n g) h

fraction_plain : (n d : ℕ) → n < 2 ^ 64 → d < 2 ^ 64 → ArePlain (fraction_text n d)
fraction_plain n d hn hd = quotient_plain (n / gcd n d) (d / gcd n d) (quotient_below n (gcd n d) hn) (quotient_below d (gcd n d) hd)

multiple_plain : (n d letter : ℕ) → n < 2 ^ 64 → d < 2 ^ 64 → IsPlain letter → ArePlain (multiple_text n d letter)
multiple_plain n d letter hn hd p = by (n == d)
  where
    by : (b : Bool) → ArePlain (if b then letter ∷ [] else fraction_text n d ++ star ∷ letter ∷ [])
    by true = (p, tt)
    by false = both_plain (fraction_text n d) (star ∷ letter ∷ []) (fraction_plain n d hn hd) (between star (omega arith) (omega arith), (p, tt))

-- ---- terms

signed_plain : (size : ℕ → List ℕ) → ((n : ℕ) → n < 2 ^ 64 → ArePlain (size n)) → (z : ℤ) → unsigned_abs z < 2 ^ 64 → ArePlain (signed_text size z)
signed_plain size f (pos zero) h = tt
signed_plain size f (pos (suc n)) h = f (suc n) h
signed_plain size f (negsuc n) h = (between minus_sign (omega arith) (omega arith), f (suc n) h)

coefficient_plain : (d : ℕ) (z : ℤ) (letter : ℕ) → d < 2 ^ 64 → unsigned_abs z < 2 ^ 64 → IsPlain letter → ArePlain (coefficient_text d z letter)
coefficient_plain d z letter hd hz p = signed_plain (λ n. multiple_text n d letter) (λ n h. multiple_plain n d letter h hd p) z hz

constant_plain : (d : ℕ) (z : ℤ) → d < 2 ^ 64 → unsigned_abs z < 2 ^ 64 → ArePlain (constant_text d z)
constant_plain d z hd hz = signed_plain (λ n. fraction_text n d) (λ n h. fraction_plain n d h hd) z hz

joined_plain : (text term : List ℕ) → ArePlain text → ArePlain term → ArePlain (joined text term)
joined_plain [] [] p q = tt
joined_plain (first ∷ text) [] p q = p
joined_plain [] (byte ∷ term) p q = q
joined_plain (first ∷ text) (byte ∷ term) p q = both_plain (first ∷ text) (if byte == minus_sign then byte ∷ term else plus_sign ∷ byte ∷ term) p (by (byte == minus_sign))
  where
    by : (b : Bool) → ArePlain (if b then byte ∷ term else plus_sign ∷ byte ∷ term)
    by true = q
    by false = (between plus_sign (omega arith) (omega arith), q)

or_zero_plain : (text : List ℕ) → ArePlain text → ArePlain (or_zero text)
or_zero_plain [] p = (between zero_digit (omega arith) (omega arith), tt)
or_zero_plain (byte ∷ text) p = p

-- ---- components and maps

component_plain : (d : ℕ) (x y z parts : ℤ) → UNIT * d < 2 ^ 64 → unsigned_abs x < 2 ^ 64 → unsigned_abs y < 2 ^ 64 → unsigned_abs z < 2 ^ 64 → unsigned_abs parts < 2 ^ 64 → ArePlain (component_text d x y z parts)
component_plain d x y z parts hd hx hy hz hp =
    let small : d < 2 ^ 64 = omega (arith, hd) in
    let a = coefficient_plain d x letter_x small hx (above letter_x (omega arith) (omega arith)) in
    let b = coefficient_plain d y letter_y small hy (above letter_y (omega arith) (omega arith)) in
    let c = coefficient_plain d z letter_z small hz (above letter_z (omega arith) (omega arith)) in
    let e = constant_plain (UNIT * d) parts hd hp in
    or_zero_plain _ (joined_plain _ _ (joined_plain _ _ (joined_plain _ _ (joined_plain [] _ tt a) b) c) e)

module _ (d : ℕ) (f : Operator) (m p : ℕ) (small : UNIT * d < 2 ^ 64) (few : m < 2 ^ 64) (near : p < 2 ^ 64) (entries : HasEntriesWithin m f.w) (parts : AreWithin p f.t.x f.t.y f.t.z) where
  affine_plain : ArePlain (affine_text d f)
  affine_plain =
      let part : (z : ℤ) → unsigned_abs z ≤ p → unsigned_abs z < 2 ^ 64 = λ z h. omega (arith, h, near) in
      let entry : (z : ℤ) → unsigned_abs z ≤ m → unsigned_abs z < 2 ^ 64 = λ z h. omega (arith, h, few) in
      let at_comma = between comma (omega arith) (omega arith) in
      let x = component_plain d f.w.xx f.w.xy f.w.xz f.t.x small (entry f.w.xx entries.x.first) (entry f.w.xy entries.x.second) (entry f.w.xz entries.x.third) (part f.t.x parts.first) in
      let y = component_plain d f.w.yx f.w.yy f.w.yz f.t.y small (entry f.w.yx entries.y.first) (entry f.w.yy entries.y.second) (entry f.w.yz entries.y.third) (part f.t.y parts.second) in
      let z = component_plain d f.w.zx f.w.zy f.w.zz f.t.z small (entry f.w.zx entries.z.first) (entry f.w.zy entries.z.second) (entry f.w.zz entries.z.third) (part f.t.z parts.third) in
      both_plain _ _ (both_plain _ _ x (at_comma, y)) (at_comma, z)

pub printable_plain : (d : ℕ) (f : Operator) → IsPrintable d f → ArePlain (affine_text d f)
printable_plain d f h = affine_plain d f (2 * d) PARTS_LIMIT (omega (arith, h.over)) (omega (arith, h.over)) (omega arith) h.narrow h.parts

pub operator_plain : (f : Operator) → IsNarrow f → ArePlain (operator_text f)
operator_plain f h =
    let part : (z : ℤ) → IsPart UNIT z → unsigned_abs z ≤ UNIT = λ z p. omega (arith, ints, p.0, p.1) in
    affine_plain 1 f 2 UNIT (omega arith) (omega arith) (omega arith) h.within_two (record { first = part f.t.x h.is_operator.in_cell.x; second = part f.t.y h.is_operator.in_cell.y; third = part f.t.z h.is_operator.in_cell.z })

pub form_plain : (f : Form) → IsKeptForm f → ArePlain (form_text f)
form_plain f h = affine_plain f.over (record { w = f.b; t = f.s }) MAX_OVER (UNIT * MAX_OVER) (omega (arith, h.over)) (omega arith) (omega arith) h.entries (shifts_within f h)
