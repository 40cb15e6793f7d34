-- The coordinate grammar: which texts are coordinates, and their numerators and denominators. Then how they are found.
use Rattle.std.specs.Prelude.{◌==◌, ◌&&◌, if◌then◌else◌, ◌<◌, ◌≤◌, ℕ, ◌+◌, ◌^◌, ℤ, pos, neg_ℤ, ◌≤ℤ◌, List, [], ◌∷◌, ◌++◌, length, Option, Some, None, option_and_then, nat_lt, nat_le}
use Rattle.std.specs.Option.{option_map}
use Rattle.triplet_text.specs.declared.coordinate.TheConstants.{COORDINATE_LENGTH, DECIMALS_LIMIT}
use Rattle.exact_ops.specs.declared.TheConstants.{MAX_COORDINATE, MAX_DENOMINATOR}
use Rattle.triplet_text.specs.Bytes.{is_digit, slash, point, plus_sign, minus_sign}
use Rattle.triplet_text.specs.Components.{Within}
use Rattle.triplet_text.specs.Digits.{with_digits}
use Rattle.triplet_text.specs.Grammar.{value_of}
use Rattle.triplet_text.specs.Pieces.{cut}
use Rattle.triplet_text.specs.Tokens.{Each}

-- one or more digits
pub record AreDigits (run : List ℕ) : Type 0 where
  pub some : 0 < length run
  pub digits : Each is_digit run

-- a coordinate without a sign: a whole number over 1; a whole number over another; or a decimal, all its digits as one number over 10 to the number of digits after the point
pub data IsSize : List ℕ → ℕ → ℕ → Type 0 where
  whole : {run : List ℕ} → AreDigits run → IsSize run (value_of run) 1
  fraction : {over under : List ℕ} → AreDigits over → AreDigits under → IsSize (over ++ slash ∷ under) (value_of over) (value_of under)
  decimal : (front back : List ℕ) → AreDigits (front ++ back) → length back ≤ DECIMALS_LIMIT → IsSize (front ++ point ∷ back) (value_of (front ++ back)) (10 ^ length back)

-- with a sign before it or none: a minus negates the numerator
pub data IsSigned : List ℕ → ℤ → ℤ → Type 0 where
  bare : {text : List ℕ} {n d : ℕ} → IsSize text n d → IsSigned text (pos n) (pos d)
  plus : {text : List ℕ} {n d : ℕ} → IsSize text n d → IsSigned (plus_sign ∷ text) (pos n) (pos d)
  minus : {text : List ℕ} {n d : ℕ} → IsSize text n d → IsSigned (minus_sign ∷ text) (neg_ℤ (pos n)) (pos d)

-- a text of at most COORDINATE_LENGTH bytes is a coordinate, n over d, where both numbers are in range
pub record IsCoordinate (text : List ℕ) (n d : ℤ) : Type 0 where
  pub short : length text ≤ COORDINATE_LENGTH
  pub signed : IsSigned text n d
  pub numerator : Within MAX_COORDINATE n
  pub positive : pos 1 ≤ℤ d
  pub denominator : d ≤ℤ pos MAX_DENOMINATOR

-- ---- how a coordinate is found

abbrev pub number_of : List ℕ → Option ℕ
number_of text = if nat_lt 0 (length text) then with_digits 0 text else None

-- two numbers that are in range
abbrev pub ratio_of : ℕ → ℕ → Option (ℤ × ℤ)
ratio_of n d = if nat_le n MAX_COORDINATE && nat_lt 0 d && nat_le d MAX_DENOMINATOR then Some (pos n, pos d) else None

-- by what stands before and after a point
abbrev pub decimal_size_of : List ℕ → List ℕ → Option (ℤ × ℤ)
decimal_size_of front back =
    if nat_le (length back) DECIMALS_LIMIT && nat_lt 0 (length front + length back)
    then option_and_then (λ n. option_and_then (λ m. ratio_of m (10 ^ length back)) (with_digits n back)) (with_digits 0 front)
    else None

-- by what the text has: a slash, else a point, else none of them
abbrev pub size_by : Option (List ℕ × List ℕ) → Option (List ℕ × List ℕ) → List ℕ → Option (ℤ × ℤ)
size_by (Some cut) other text = option_and_then (λ n. option_and_then (λ d. ratio_of n d) (number_of cut.1)) (number_of cut.0)
size_by None (Some cut) text = decimal_size_of cut.0 cut.1
size_by None None text = option_and_then (λ n. ratio_of n 1) (number_of text)

abbrev pub size_of : List ℕ → Option (ℤ × ℤ)
size_of text = size_by (cut (λ b. b == slash) text) (cut (λ b. b == point) text) text

abbrev pub negated : ℤ × ℤ → ℤ × ℤ
negated c = (neg_ℤ c.0, c.1)

-- a minus sign before it negates the numerator
abbrev pub signed_of : List ℕ → Option (ℤ × ℤ)
signed_of [] = size_of []
signed_of (byte ∷ text) =
    if byte == minus_sign then option_map negated (size_of text) else
    if byte == plus_sign then size_of text else size_of (byte ∷ text)
