-- The text of an affine map says the map's numbers.
use Rattle.std.proofs.Common.{◌≡◌, ℕ, zero, suc, ◌<◌, ◌≤◌, ◌*◌, ◌/◌, ◌^◌, lt_of_le_of_lt, Bool, true, false, cond, eqb, List, [], ◌∷◌, ◌++◌, length, append_assoc, decimal, refl, sym, ap, subst, ◌∙◌, arith, ℤ, pos, negsuc, unsigned_abs}
use Rattle.std.proofs.lemmas.List.{append-nil}
use Rattle.std.proofs.lemmas.Int.{ints}
use Rattle.std.proofs.lemmas.Bool.Decides.{nat_tests}
use Rattle.std.proofs.lemmas.Fmt.{decimal_is_IsNumeral_wide}
use Rattle.std.proofs.Math.Nat.{div-le_self}
use borrow.Author.Tests.{eqb-true}
use Rattle.lattice_algebra.specs.Operator.{Operator, AreWithin}
use Rattle.exact_ops.specs.declared.TheConstants.{UNIT}
use Rattle.triplet_text.specs.declared.printing.TheConstants.{OVER_LIMIT, COMPONENT_LIMIT}
use Rattle.triplet_text.specs.declared.component.Component.{Component}
use Rattle.triplet_text.specs.Bytes.{is_sign, comma, star, slash, plus_sign, minus_sign, zero_digit}
use Rattle.triplet_text.specs.Tokens.{is_letter}
use Rattle.triplet_text.specs.Components.{behind}
use Rattle.triplet_text.specs.Grammar.{value_of, times, translation, negated, added, nothing}
use Rattle.triplet_text.specs.Fractions.{gcd, quotient_text, fraction_text}
use Rattle.triplet_text.specs.Coordinates.{AreDigits}
use Rattle.triplet_text.specs.Printing.{signed_text, joined, terms_text, or_zero, component_text, affine_text, IsPrintable, HasPrintableComponents, IsSameMap}
use Rattle.triplet_text.specs.AffineTexts.{HasValue, whole, fraction, IsAffineTerm, letter, multiple, constant, AreAffineTerms, none, more, IsAffineSum, bare, minus, IsAffineText}
use Rattle.triplet_text.proofs.LowestTerms.{IsLowest, is_lowest}
use Rattle.triplet_text.proofs.Values.{own}
use Rattle.triplet_text.proofs.Texts.{Lacks}
use Rattle.triplet_text.proofs.SumTexts.{same_component, added_nothing, nothing_added, added_assoc}
use Rattle.triplet_text.proofs.AffineBytes.{IsSizeText, multiple_of, fraction_of_parts, multiple_is_size, fraction_is_size}
use Rattle.triplet_text.proofs.AffineUnique.{one_map_of_text}

-- ---- numbers

above_one : (q : ℕ) → 0 < q → eqb q 1 ≡ false → 1 < q
above_one q some e = grind (arith, nat_tests)

decimal_digits : (p : ℕ) → p < 10 ^ 64 → AreDigits (decimal p)
decimal_digits p h = let n = decimal_is_IsNumeral_wide p h in record { some = n.0.0; digits = own.from (decimal p) n.0.1 }

decimal_value : (p : ℕ) → p < 10 ^ 64 → value_of (decimal p) ≡ p
decimal_value p h = let n = decimal_is_IsNumeral_wide p h in own.same (decimal p) n.0.1 ∙ n.1

quotient_value : (n d p q : ℕ) → p < 10 ^ 64 → q < 10 ^ 64 → IsLowest n d p q → HasValue n d (quotient_text p q)
quotient_value n d p q hp hq h = by (eqb q 1) refl
  where
    vp : value_of (decimal p) ≡ p
    vp = decimal_value p hp

    vq : value_of (decimal q) ≡ q
    vq = decimal_value q hq

    by : (b : Bool) → eqb q 1 ≡ b → HasValue n d (cond b (decimal p) (decimal p ++ slash ∷ decimal q))
    by true e = whole (decimal_digits p hp) (rw vp (omega (arith, h.same, ap (λ (k : ℕ). n * k) (eqb-true q 1 e))))
    by false e = fraction (decimal_digits p hp) (decimal_digits q hq) (rw vq (above_one q h.positive e)) (rw (vp, vq) h.coprime) (rw (vp, vq) h.same)

below : (n g k : ℕ) → n < k → n / g < k
below n g k h = lt_of_le_of_lt (div-le_self n g) h

pub fraction_value : (n d : ℕ) → 0 < d → n < 10 ^ 64 → d < 10 ^ 64 → HasValue n d (fraction_text n d)
fraction_value n d some hn hd = quotient_value n d _ _ (below n (gcd n d) (10 ^ 64) hn) (below d (gcd n d) (10 ^ 64) hd) (is_lowest n d some)

machine_value : (n d : ℕ) → 0 < d → n < 2 ^ 64 → d < 2 ^ 64 → HasValue n d (fraction_text n d)
machine_value n d some hn hd = fraction_value n d some (omega arith) (omega arith)

multiple_value : (d byte n : ℕ) → 0 < d → d < 2 ^ 64 → n < 2 ^ 64 → is_letter byte ≡ true → IsAffineTerm d (multiple_of d byte n) (times n byte)
multiple_value d byte n some hd hn h = by (eqb n d) refl
  where
    by : (b : Bool) → eqb n d ≡ b → IsAffineTerm d (cond b (byte ∷ []) (fraction_text n d ++ star ∷ byte ∷ [])) (times n byte)
    by true e = subst (λ (k : ℕ). IsAffineTerm d (byte ∷ []) (times k byte)) (sym (eqb-true n d e)) (letter byte h)
    by false e = multiple byte (machine_value n d some hn hd) h

constant_value : (d n : ℕ) → 0 < d → UNIT * d < 2 ^ 64 → n < 2 ^ 64 → IsAffineTerm d (fraction_of_parts d n) (translation n)
constant_value d n some hd hn = constant (machine_value n (UNIT * d) (omega arith) hn hd)

-- ---- one more term

-- what a number says, by what its size says
abbrev signed_by : (ℕ → Component) → ℤ → Component
signed_by says (pos zero) = nothing
signed_by says (pos (suc n)) = says (suc n)
signed_by says (negsuc n) = negated (says (suc n))

module _ (d : ℕ) where
  same_terms : {text other : List ℕ} {a b : Component} → text ≡ other → a ≡ b → AreAffineTerms d text a → AreAffineTerms d other b
  same_terms {text = text} {b = b} e f h = subst (λ (t : List ℕ). AreAffineTerms d t b) e (subst (λ (c : Component). AreAffineTerms d text c) f h)

  same_sum : {text other : List ℕ} {a b : Component} → text ≡ other → a ≡ b → IsAffineSum d text a → IsAffineSum d other b
  same_sum {text = text} {b = b} e f h = subst (λ (t : List ℕ). IsAffineSum d t b) e (subst (λ (c : Component). IsAffineSum d text c) f h)

  last_term : {rest first : List ℕ} {b c : Component} (sign : ℕ) → is_sign sign ≡ true → IsAffineTerm d first c → AreAffineTerms d rest b → AreAffineTerms d (rest ++ sign ∷ first) (added b (behind sign c))
  last_term {first = first} {c = c} sign h t none =
      same_terms (ap (λ (s : List ℕ). sign ∷ s) (append-nil first)) (added_nothing (behind sign c) ∙ sym (nothing_added (behind sign c))) (more h t none)
  last_term {first = first} {c = c} sign h t (more {sign = before} {first = front} {rest = rest} {a = a} {b = b} k u r) =
      same_terms (ap (λ (s : List ℕ). before ∷ s) (sym (append_assoc front rest (sign ∷ first)))) (sym (added_assoc (behind before a) b (behind sign c))) (more k u (last_term sign h t r))

  sum_more : {text first : List ℕ} {a c : Component} (sign : ℕ) → is_sign sign ≡ true → IsAffineTerm d first c → IsAffineSum d text a → IsAffineSum d (text ++ sign ∷ first) (added a (behind sign c))
  sum_more {first = first} {c = c} sign h t (bare {first = front} {rest = rest} {a = a} {b = b} u r) =
      same_sum (sym (append_assoc front rest (sign ∷ first))) (sym (added_assoc a b (behind sign c))) (bare u (last_term sign h t r))
  sum_more sign h t (minus r) = minus (last_term sign h t r)

  -- the terms so far: a sum, or none
  abbrev IsSoFar : List ℕ → Component → Type 0
  IsSoFar [] a = a ≡ nothing
  IsSoFar (byte ∷ text) a = IsAffineSum d (byte ∷ text) a

  one_term : {first : List ℕ} {a c : Component} → a ≡ nothing → IsAffineTerm d first c → IsAffineSum d first (added a c)
  one_term {first = first} {a = a} {c = c} e t = same_sum (append-nil first) (added_nothing c ∙ sym (ap (λ (b : Component). added b c) e ∙ nothing_added c)) (bare t none)

  one_minus : {first : List ℕ} {a c : Component} → a ≡ nothing → IsAffineTerm d first c → IsAffineSum d (minus_sign ∷ first) (added a (negated c))
  one_minus {first = first} {a = a} {c = c} e t =
      same_sum (ap (λ (s : List ℕ). minus_sign ∷ s) (append-nil first)) (added_nothing (negated c) ∙ sym (ap (λ (b : Component). added b (negated c)) e ∙ nothing_added (negated c))) (minus (more refl t none))

  join_bare : (text term : List ℕ) (a c : Component) → 0 < length term → Lacks is_sign term → IsAffineTerm d term c → IsSoFar text a → IsSoFar (joined text term) (added a c)
  join_bare text [] a c some h t s = absurd (omega arith)
  join_bare [] (byte ∷ term) a c some h t s = one_term s t
  join_bare (first ∷ text) (byte ∷ term) a c some h t s = let no = no_minus byte h.0 in rw no (sum_more plus_sign refl t s)
    where
      no_minus : (byte : ℕ) → is_sign byte ≡ false → eqb byte minus_sign ≡ false
      no_minus byte h = grind (arith, nat_tests)

  join_minus : (text term : List ℕ) (a c : Component) → IsAffineTerm d term c → IsSoFar text a → IsSoFar (joined text (minus_sign ∷ term)) (added a (negated c))
  join_minus [] term a c t s = one_minus s t
  join_minus (first ∷ text) term a c t s = sum_more minus_sign refl t s

  join_number : (size : ℕ → List ℕ) (says : ℕ → Component) → IsSizeText size → ((n : ℕ) → n < 2 ^ 64 → IsAffineTerm d (size n) (says n)) → (text : List ℕ) (a : Component) (c : ℤ) → unsigned_abs c < 2 ^ 64 → IsSoFar text a → IsSoFar (joined text (signed_text size c)) (added a (signed_by says c))
  join_number size says h term text a (pos zero) small s = subst (IsSoFar text) (sym (added_nothing a)) s
  join_number size says h term text a (pos (suc n)) small s = let b = h (suc n) (omega (arith, ints, small)) in join_bare text (size (suc n)) a (says (suc n)) b.0 b.1 (term (suc n) (omega (arith, ints, small))) s
  join_number size says h term text a (negsuc n) small s = join_minus text (size (suc n)) a (says (suc n)) (term (suc n) (omega (arith, ints, small))) s

-- ---- the text of a component

zero_value : (n : ℕ) → HasValue 0 n (zero_digit ∷ [])
zero_value n = whole (record { some = omega arith; digits = (refl, tt) }) (omega arith)

zero_sum : (d : ℕ) (text : List ℕ) (a : Component) → IsSoFar d text a → IsAffineSum d (or_zero text) a
zero_sum d [] a s = same_sum d refl (sym s) (bare (constant (zero_value (UNIT * d))) none)
zero_sum d (byte ∷ text) a s = s

-- ---- the numbers of a component

x_says : (c : ℤ) → signed_by (λ n. times n 120) c ≡ record { x = c; y = pos 0; z = pos 0; parts = pos 0 }
x_says (pos zero) = refl
x_says (pos (suc n)) = refl
x_says (negsuc n) = refl

y_says : (c : ℤ) → signed_by (λ n. times n 121) c ≡ record { x = pos 0; y = c; z = pos 0; parts = pos 0 }
y_says (pos zero) = refl
y_says (pos (suc n)) = refl
y_says (negsuc n) = refl

z_says : (c : ℤ) → signed_by (λ n. times n 122) c ≡ record { x = pos 0; y = pos 0; z = c; parts = pos 0 }
z_says (pos zero) = refl
z_says (pos (suc n)) = refl
z_says (negsuc n) = refl

constant_says : (c : ℤ) → signed_by translation c ≡ record { x = pos 0; y = pos 0; z = pos 0; parts = c }
constant_says (pos zero) = refl
constant_says (pos (suc n)) = refl
constant_says (negsuc n) = refl

abbrev all_four : Component → Component → Component → Component → Component
all_four a b c e = added (added (added (added nothing a) b) c) e

four_say : (x y z parts : ℤ) → all_four (signed_by (λ n. times n 120) x) (signed_by (λ n. times n 121) y) (signed_by (λ n. times n 122) z) (signed_by translation parts) ≡ record { x = x; y = y; z = z; parts = parts }
four_say x y z parts =
    (λ i. all_four (x_says x i) (y_says y i) (z_says z i) (constant_says parts i))
    ∙ same_component (all_four (record { x = x; y = pos 0; z = pos 0; parts = pos 0 }) (record { x = pos 0; y = y; z = pos 0; parts = pos 0 }) (record { x = pos 0; y = pos 0; z = z; parts = pos 0 }) (record { x = pos 0; y = pos 0; z = pos 0; parts = parts })) (record { x = x; y = y; z = z; parts = parts }) (omega (arith, ints)) (omega (arith, ints)) (omega (arith, ints)) (omega (arith, ints))

-- a component that is printed over d
record IsRow (d : ℕ) (x y z parts : ℤ) : Type 0 where
  positive : 0 < d
  over : d ≤ COMPONENT_LIMIT
  numbers : AreWithin (2 ^ 31) x y z
  few : unsigned_abs parts ≤ 2 ^ 63

component_sum : (d : ℕ) (x y z parts : ℤ) → IsRow d x y z parts → IsAffineSum d (component_text d x y z parts) (record { x = x; y = y; z = z; parts = parts })
component_sum d x y z parts row =
    let over = row.over in
    let hd : d < 2 ^ 64 = omega arith in
    let hu : UNIT * d < 2 ^ 64 = omega arith in
    let sx : unsigned_abs x < 2 ^ 64 = omega (arith, row.numbers.first) in
    let sy : unsigned_abs y < 2 ^ 64 = omega (arith, row.numbers.second) in
    let sz : unsigned_abs z < 2 ^ 64 = omega (arith, row.numbers.third) in
    let sp : unsigned_abs parts < 2 ^ 64 = omega (arith, row.few) in
    let letter_joined = λ (byte : ℕ) (no : is_sign byte ≡ false) (is : is_letter byte ≡ true). join_number d (multiple_of d byte) (λ n. times n byte) (multiple_is_size d byte hd no) (λ n hn. multiple_value d byte n row.positive hd hn is) in
    let one = letter_joined 120 refl refl [] nothing x sx refl in
    let two = letter_joined 121 refl refl _ _ y sy one in
    let three = letter_joined 122 refl refl _ _ z sz two in
    let all = join_number d (fraction_of_parts d) translation (fraction_is_size (UNIT * d) hu) (λ n hn. constant_value d n row.positive hu hn) _ _ parts sp three in
    same_sum d refl (four_say x y z parts) (zero_sum d (terms_text d x y z parts) _ all)

-- a map that can be printed has components that can
within_word : (d : ℕ) (x y z : ℤ) → d ≤ OVER_LIMIT → AreWithin (2 * d) x y z → AreWithin (2 ^ 31) x y z
within_word d x y z few h = record { first = omega (arith, few, h.first); second = omega (arith, few, h.second); third = omega (arith, few, h.third) }

pub component_by_component : (d : ℕ) (f : Operator) → IsPrintable d f → HasPrintableComponents d f
component_by_component d f h = record {
  positive = h.positive;
  over = omega (arith, h.over);
  entries = record { x = within_word d _ _ _ h.over h.narrow.x; y = within_word d _ _ _ h.over h.narrow.y; z = within_word d _ _ _ h.over h.narrow.z };
  parts = record { first = omega (arith, h.parts.first); second = omega (arith, h.parts.second); third = omega (arith, h.parts.third) };
}

row_x : (d : ℕ) (f : Operator) → HasPrintableComponents d f → IsRow d f.w.xx f.w.xy f.w.xz f.t.x
row_x d f h = record { positive = h.positive; over = h.over; numbers = h.entries.x; few = h.parts.first }

row_y : (d : ℕ) (f : Operator) → HasPrintableComponents d f → IsRow d f.w.yx f.w.yy f.w.yz f.t.y
row_y d f h = record { positive = h.positive; over = h.over; numbers = h.entries.y; few = h.parts.second }

row_z : (d : ℕ) (f : Operator) → HasPrintableComponents d f → IsRow d f.w.zx f.w.zy f.w.zz f.t.z
row_z d f h = record { positive = h.positive; over = h.over; numbers = h.entries.z; few = h.parts.third }

-- the text of a map has its numbers
pub text_has_values : (d : ℕ) (f : Operator) → HasPrintableComponents d f → IsAffineText d (affine_text d f) f
text_has_values d f h =
    let one = component_text d f.w.xx f.w.xy f.w.xz f.t.x in
    let two = component_text d f.w.yx f.w.yy f.w.yz f.t.y in
    let three = component_text d f.w.zx f.w.zy f.w.zz f.t.z in
    record {
      first = one;
      second = two;
      third = three;
      cut = append_assoc one (comma ∷ two) (comma ∷ three);
      x = component_sum d _ _ _ _ (row_x d f h);
      y = component_sum d _ _ _ _ (row_y d f h);
      z = component_sum d _ _ _ _ (row_z d f h);
    }

-- maps with one text are one map
pub one_map : (d e : ℕ) (f g : Operator) → HasPrintableComponents d f → HasPrintableComponents e g → affine_text d f ≡ affine_text e g → IsSameMap d f e g
one_map d e f g p q same = one_map_of_text d e (affine_text d f) f g (text_has_values d f p) (subst (λ (t : List ℕ). IsAffineText e t g) (sym same) (text_has_values e g q))
