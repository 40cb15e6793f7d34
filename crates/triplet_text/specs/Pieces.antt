-- Pieces of a text: without the blanks at its ends, without its quotes, before and after a byte.
use Rattle.std.specs.Prelude.{◌==◌, ◌&&◌, if◌then◌else◌, Bool, true, ℕ, List, [], ◌∷◌, length, Option, nat_lt, take, drop, position, slice_index, ◌-◌, ◌+◌}
use Rattle.std.specs.Option.{option_map}
use Rattle.triplet_text.specs.Bytes.{is_blank, is_quote, hash}

-- whether each byte is a blank, or the first that is none is '#'
abbrev pub is_skipped : List ℕ → Bool
is_skipped [] = true
is_skipped (byte ∷ line) = if is_blank byte then is_skipped line else byte == hash

abbrev pub trim_start : List ℕ → List ℕ
trim_start [] = []
trim_start (byte ∷ text) = if is_blank byte then trim_start text else byte ∷ text

-- the byte before the rest, unless it is a blank before nothing
abbrev pub onto : ℕ → List ℕ → List ℕ
onto byte [] = if is_blank byte then [] else byte ∷ []
onto byte (next ∷ text) = byte ∷ next ∷ text

abbrev pub trim_end : List ℕ → List ℕ
trim_end [] = []
trim_end (byte ∷ text) = onto byte (trim_end text)

-- without the blanks at both ends
abbrev pub trim : List ℕ → List ℕ
trim text = trim_end (trim_start text)

-- what stands before the first byte that passes, and what stands after it
abbrev pub cut : (ℕ → Bool) → List ℕ → Option (List ℕ × List ℕ)
cut p text = option_map (λ at. (take at text, drop (at + 1) text)) (position p text)

-- without two like quotes at its ends
abbrev pub unquoted : List ℕ → List ℕ
unquoted [] = []
unquoted (byte ∷ text) =
    if is_quote byte && nat_lt 0 (length text) && slice_index text (length text - 1) == byte
    then take (length text - 1) text
    else byte ∷ text
