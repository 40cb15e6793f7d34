-- The kinds of bytes exclude each other.
use Rattle.std.proofs.Common.{◌≡◌, ℕ, true, false, not, eqb, ◌||◌, arith}
use Rattle.std.specs.Prelude.{Bool}
use Rattle.std.proofs.lemmas.Bool.Decides.{nat_tests}
use Rattle.triplet_text.specs.Bytes.{is_sign, is_digit, is_quote, is_blank, comma, star, slash, point, is_x, is_y, is_z}
use Rattle.triplet_text.specs.Tokens.{is_mark, is_letter, is_in_number}

abbrev pub is_no_comma : ℕ → Bool
is_no_comma byte = not (eqb byte comma)

-- neither a sign nor a comma
abbrev pub is_quiet : ℕ → Bool
is_quiet byte = not (is_sign byte || eqb byte comma)

-- ---- no blanks

pub sign_solid : (byte : ℕ) → is_sign byte ≡ true → is_blank byte ≡ false
sign_solid byte h = grind (arith, nat_tests)

pub mark_solid : (byte : ℕ) → is_mark byte ≡ true → is_blank byte ≡ false
mark_solid byte h = grind (arith, nat_tests)

pub letter_solid : (byte : ℕ) → is_letter byte ≡ true → is_blank byte ≡ false
letter_solid byte h = grind (arith, nat_tests)

pub number_solid : (byte : ℕ) → is_in_number byte ≡ true → is_blank byte ≡ false
number_solid byte h = grind (arith, nat_tests)

pub digit_solid : (byte : ℕ) → is_digit byte ≡ true → is_blank byte ≡ false
digit_solid byte h = grind (arith, nat_tests)

pub quote_solid : (byte : ℕ) → is_quote byte ≡ true → is_blank byte ≡ false
quote_solid byte h = grind (arith, nat_tests)

-- ---- neither signs nor commas

pub blank_quiet : (byte : ℕ) → is_blank byte ≡ true → is_quiet byte ≡ true
blank_quiet byte h = grind (arith, nat_tests)

pub letter_quiet : (byte : ℕ) → is_letter byte ≡ true → is_quiet byte ≡ true
letter_quiet byte h = grind (arith, nat_tests)

pub number_quiet : (byte : ℕ) → is_in_number byte ≡ true → is_quiet byte ≡ true
number_quiet byte h = grind (arith, nat_tests)

pub quiet_no_sign : (byte : ℕ) → is_quiet byte ≡ true → is_sign byte ≡ false
quiet_no_sign byte h = grind (arith, nat_tests)

pub quiet_no_comma : (byte : ℕ) → is_quiet byte ≡ true → is_no_comma byte ≡ true
quiet_no_comma byte h = grind (arith, nat_tests)

pub blank_no_comma : (byte : ℕ) → is_blank byte ≡ true → is_no_comma byte ≡ true
blank_no_comma byte h = grind (arith, nat_tests)

pub letter_no_comma : (byte : ℕ) → is_letter byte ≡ true → is_no_comma byte ≡ true
letter_no_comma byte h = grind (arith, nat_tests)

pub number_no_comma : (byte : ℕ) → is_in_number byte ≡ true → is_no_comma byte ≡ true
number_no_comma byte h = grind (arith, nat_tests)

pub comma_fails : (byte : ℕ) → is_no_comma byte ≡ true → eqb byte comma ≡ false
comma_fails byte h = grind (arith, nat_tests)

-- ---- digits

pub digit_in_number : (byte : ℕ) → is_digit byte ≡ true → is_in_number byte ≡ true
digit_in_number byte h = grind (arith, nat_tests)

pub digit_no_star : (byte : ℕ) → is_digit byte ≡ true → eqb byte star ≡ false
digit_no_star byte h = grind (arith, nat_tests)

pub digit_no_stroke : (byte : ℕ) → is_digit byte ≡ true → eqb byte slash ≡ false
digit_no_stroke byte h = grind (arith, nat_tests)

pub digit_no_point : (byte : ℕ) → is_digit byte ≡ true → eqb byte point ≡ false
digit_no_point byte h = grind (arith, nat_tests)

pub number_no_star : (byte : ℕ) → is_in_number byte ≡ true → eqb byte star ≡ false
number_no_star byte h = grind (arith, nat_tests)

pub number_no_stroke : (byte : ℕ) → is_in_number byte ≡ true → eqb byte slash ≡ false
number_no_stroke byte h = grind (arith, nat_tests)

pub letter_no_star : (byte : ℕ) → is_letter byte ≡ true → eqb byte star ≡ false
letter_no_star byte h = grind (arith, nat_tests)

pub letter_no_stroke : (byte : ℕ) → is_letter byte ≡ true → eqb byte slash ≡ false
letter_no_stroke byte h = grind (arith, nat_tests)

pub letter_no_point : (byte : ℕ) → is_letter byte ≡ true → eqb byte point ≡ false
letter_no_point byte h = grind (arith, nat_tests)

pub letter_no_digit : (byte : ℕ) → is_letter byte ≡ true → is_digit byte ≡ false
letter_no_digit byte h = grind (arith, nat_tests)

pub blank_no_star : (byte : ℕ) → is_blank byte ≡ true → eqb byte star ≡ false
blank_no_star byte h = grind (arith, nat_tests)

pub blank_no_stroke : (byte : ℕ) → is_blank byte ≡ true → eqb byte slash ≡ false
blank_no_stroke byte h = grind (arith, nat_tests)

-- ---- letters

pub x_alone : (byte : ℕ) → is_x byte ≡ true → (is_y byte ≡ false) × (is_z byte ≡ false)
x_alone byte h = (grind (arith, nat_tests), grind (arith, nat_tests))

pub y_alone : (byte : ℕ) → is_y byte ≡ true → (is_x byte ≡ false) × (is_z byte ≡ false)
y_alone byte h = (grind (arith, nat_tests), grind (arith, nat_tests))
