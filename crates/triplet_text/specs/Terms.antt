-- The terms of a sum, without the blanks around them.
use Rattle.std.specs.Prelude.{◌==◌, if◌then◌else◌, ℕ, List, [], ◌∷◌, Option, Some, None, ◌-◌, ◌*◌, ◌/◌, option_and_then}
use Rattle.std.specs.Option.{option_map}
use Rattle.exact_ops.specs.declared.TheConstants.{UNIT}
use Rattle.triplet_text.specs.declared.component.Component.{Component}
use Rattle.triplet_text.specs.Bytes.{is_digit, zero_digit, star, slash, point}
use Rattle.triplet_text.specs.Pieces.{cut, trim_start, trim_end}
use Rattle.triplet_text.specs.Digits.{whole_of, denominator_of, decimal_of}
use Rattle.triplet_text.specs.Components.{times_letter, of_parts}

-- a digit before a star, and a letter behind it
abbrev pub product_of : List ℕ → List ℕ → Option Component
product_of [] back = None
product_of (digit ∷ more) [] = None
product_of (digit ∷ []) (letter ∷ []) = if is_digit digit then times_letter (digit - zero_digit) letter else None
product_of (digit ∷ []) (letter ∷ other ∷ back) = None
product_of (digit ∷ other ∷ more) (letter ∷ back) = None

-- a whole number of cells, in parts
abbrev pub cells_of : List ℕ → Option Component
cells_of text = option_map (λ n. of_parts (n * UNIT)) (whole_of text)

-- a whole number over a denominator
abbrev pub fraction_of : List ℕ → List ℕ → Option ℕ
fraction_of front back = option_and_then (λ n. option_map (λ d. n * (UNIT / d)) (denominator_of back)) (whole_of front)

-- a letter, a digit and a letter, or a whole number of cells
abbrev pub plain_of : List ℕ → Option Component
plain_of [] = None
plain_of (byte ∷ []) = if is_digit byte then cells_of (byte ∷ []) else times_letter 1 byte
plain_of (byte ∷ next ∷ []) =
    if is_digit next then cells_of (byte ∷ next ∷ []) else
    if is_digit byte then times_letter (byte - zero_digit) next else None
plain_of (byte ∷ next ∷ other ∷ text) = cells_of (byte ∷ next ∷ other ∷ text)

-- by what the term has: a star, else a slash, else a point, else none of them
abbrev pub term_by : Option (List ℕ × List ℕ) → Option (List ℕ × List ℕ) → Option (List ℕ × List ℕ) → List ℕ → Option Component
term_by (Some product) fraction decimal text = product_of (trim_end product.0) (trim_start product.1)
term_by None (Some fraction) decimal text = option_map of_parts (fraction_of (trim_end fraction.0) (trim_start fraction.1))
term_by None None (Some decimal) text = option_map of_parts (decimal_of decimal.0 decimal.1)
term_by None None None text = plain_of text

abbrev pub term_of : List ℕ → Option Component
term_of text = term_by (cut (λ b. b == star) text) (cut (λ b. b == slash) text) (cut (λ b. b == point) text) text
