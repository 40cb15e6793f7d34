-- Runs of digits, denominators and decimals. Parts are those of a cell, of which it has UNIT.
use Rattle.std.specs.Prelude.{◌==◌, ◌&&◌, if◌then◌else◌, Bool, false, ℕ, List, [], ◌∷◌, length, Option, Some, None, nat_lt, nat_le, ◌+◌, ◌-◌, ◌*◌, ◌/◌, ◌%◌, ◌^◌, option_and_then}
use Rattle.exact_ops.specs.declared.TheConstants.{UNIT}
use Rattle.triplet_text.specs.Bytes.{is_digit, zero_digit}

-- the number n with these digits written behind it
abbrev pub with_digits : ℕ → List ℕ → Option ℕ
with_digits n [] = Some n
with_digits n (byte ∷ text) = if is_digit byte then with_digits (10 * n + (byte - zero_digit)) text else None

-- one to six digits
abbrev pub whole_of : List ℕ → Option ℕ
whole_of text = if nat_lt 0 (length text) && nat_le (length text) 6 then with_digits 0 text else None

abbrev pub has_leading_zero : List ℕ → Bool
has_leading_zero [] = false
has_leading_zero (byte ∷ text) = byte == zero_digit

abbrev pub divisor_of_unit : ℕ → Option ℕ
divisor_of_unit d = if nat_lt 0 d && UNIT % d == 0 then Some d else None

-- a divisor of UNIT, written without a zero before it
abbrev pub denominator_of : List ℕ → Option ℕ
denominator_of text = if has_leading_zero text then None else option_and_then divisor_of_unit (whole_of text)

-- m thousandths of a cell in parts, where they are a whole number of them
abbrev pub parts_of_thousandths : ℕ → Option ℕ
parts_of_thousandths m = if m * UNIT % 1000 == 0 then Some (m * UNIT / 1000) else None

-- the parts of a decimal: up to six digits, a point that was cut away, and up to three digits
abbrev pub decimal_of : List ℕ → List ℕ → Option ℕ
decimal_of front back =
    if nat_le (length front) 6 && nat_le (length back) 3 && nat_lt 0 (length front + length back)
    then option_and_then (λ n. option_and_then (λ m. parts_of_thousandths (m * 10 ^ (3 - length back))) (with_digits n back)) (with_digits 0 front)
    else None
