-- The bytes of fractions, and of multiples of a letter.
use Rattle.std.proofs.Common.{◌≡◌, ℕ, ◌<◌, ◌*◌, ◌/◌, ◌^◌, Bool, true, false, ◌||◌, cond, eqb, List, [], ◌∷◌, ◌++◌, length, length-append, decimal, refl, arith, lt_of_le_of_lt}
use Rattle.std.specs.List.{AllByRecursion}
use Rattle.std.proofs.lemmas.Fmt.{digits_decimal, decimal_is_IsNumeral}
use Rattle.std.proofs.lemmas.Bool.Decides.{nat_tests}
use Rattle.std.proofs.Math.Nat.{div-le_self}
use Rattle.exact_ops.specs.declared.TheConstants.{UNIT}
use Rattle.triplet_text.specs.Bytes.{is_digit, is_sign, comma, star, slash}
use Rattle.triplet_text.specs.Tokens.{Each}
use Rattle.triplet_text.specs.Fractions.{gcd, quotient_text, fraction_text}
use Rattle.triplet_text.specs.Printing.{multiple_text}
use Rattle.triplet_text.proofs.Values.{own}
use Rattle.triplet_text.proofs.Texts.{Lacks, all_joined, all_mapped}

-- ---- the bytes of fractions

abbrev pub is_in_fraction : ℕ → Bool
is_in_fraction byte = is_digit byte || eqb byte slash

pub digit_in_fraction : (byte : ℕ) → is_digit byte ≡ true → is_in_fraction byte ≡ true
digit_in_fraction byte h = rw h refl

pub fraction_no_sign : (byte : ℕ) → is_in_fraction byte ≡ true → is_sign byte ≡ false
fraction_no_sign byte h = grind (arith, nat_tests)

pub fraction_no_star : (byte : ℕ) → is_in_fraction byte ≡ true → eqb byte star ≡ false
fraction_no_star byte h = grind (arith, nat_tests)

pub fraction_no_comma : (byte : ℕ) → is_in_fraction byte ≡ true → eqb byte comma ≡ false
fraction_no_comma byte h = grind (arith, nat_tests)

decimal_bytes : (n : ℕ) → n < 2 ^ 64 → Each is_digit (decimal n)
decimal_bytes n h = digits_decimal own n h

quotient_bytes : (p q : ℕ) → p < 2 ^ 64 → q < 2 ^ 64 → (0 < length (quotient_text p q)) × Each is_in_fraction (quotient_text p q)
quotient_bytes p q hp hq = by (eqb q 1)
  where
    some : 0 < length (decimal p)
    some = (decimal_is_IsNumeral p hp).0.0

    front : Each is_in_fraction (decimal p)
    front = all_mapped _ _ digit_in_fraction (decimal p) (decimal_bytes p hp)

    by : (b : Bool) → (0 < length (cond b (decimal p) (decimal p ++ slash ∷ decimal q))) × Each is_in_fraction (cond b (decimal p) (decimal p ++ slash ∷ decimal q))
    by true = (some, front)
    by false = (omega (arith, some, length-append (decimal p) (slash ∷ decimal q)), all_joined _ (decimal p) (slash ∷ decimal q) front (refl, all_mapped _ _ digit_in_fraction (decimal q) (decimal_bytes q hq)))

pub quotient_below : (n g : ℕ) → n < 2 ^ 64 → n / g < 2 ^ 64
quotient_below n g h = lt_of_le_of_lt (div-le_self n g) h

fraction_bytes : (n d : ℕ) → n < 2 ^ 64 → d < 2 ^ 64 → (0 < length (fraction_text n d)) × Each is_in_fraction (fraction_text n d)
fraction_bytes n d hn hd = quotient_bytes (n / gcd n d) (d / gcd n d) (quotient_below n (gcd n d) hn) (quotient_below d (gcd n d) hd)

-- ---- the sizes that are printed

-- the text of each size in the machine has bytes, and no sign
abbrev pub IsSizeText : (ℕ → List ℕ) → Type 0
IsSizeText size = (n : ℕ) → n < 2 ^ 64 → (0 < length (size n)) × Lacks is_sign (size n)

abbrev pub multiple_of : ℕ → ℕ → ℕ → List ℕ
multiple_of d letter n = multiple_text n d letter

abbrev pub fraction_of_parts : ℕ → ℕ → List ℕ
fraction_of_parts d n = fraction_text n (UNIT * d)

pub fraction_is_size : (d : ℕ) → d < 2 ^ 64 → IsSizeText (λ n. fraction_text n d)
fraction_is_size d hd n hn = let b = fraction_bytes n d hn hd in (b.0, all_mapped _ _ fraction_no_sign (fraction_text n d) b.1)

multiple_bytes : (P : ℕ → Type 0) → P star → (letter : ℕ) → P letter → ((byte : ℕ) → is_in_fraction byte ≡ true → P byte) → (n d : ℕ) → n < 2 ^ 64 → d < 2 ^ 64 → AllByRecursion P (multiple_text n d letter)
multiple_bytes P at_star letter at_letter f n d hn hd = by (eqb n d)
  where
    by : (b : Bool) → AllByRecursion P (cond b (letter ∷ []) (fraction_text n d ++ star ∷ letter ∷ []))
    by true = (at_letter, tt)
    by false = all_joined P (fraction_text n d) (star ∷ letter ∷ []) (all_mapped _ _ f (fraction_text n d) (fraction_bytes n d hn hd).1) (at_star, (at_letter, tt))

multiple_some : (n d letter : ℕ) → 0 < length (multiple_text n d letter)
multiple_some n d letter = by (eqb n d)
  where
    by : (b : Bool) → 0 < length (cond b (letter ∷ []) (fraction_text n d ++ star ∷ letter ∷ []))
    by true = omega arith
    by false = omega (arith, length-append (fraction_text n d) (star ∷ letter ∷ []))

pub multiple_is_size : (d letter : ℕ) → d < 2 ^ 64 → is_sign letter ≡ false → IsSizeText (multiple_of d letter)
multiple_is_size d letter hd h n hn = (multiple_some n d letter, multiple_bytes (λ byte. is_sign byte ≡ false) refl letter h fraction_no_sign n d hn hd)
