-- The fields of a line.
use Rattle.std.specs.Prelude.{ℕ, List, length, filter, nat_lt}
use Rattle.std.specs.List.{slice_split}
use Rattle.triplet_text.specs.Bytes.{is_blank}

-- the pieces between blanks that are not empty
abbrev pub fields_of : List ℕ → List (List ℕ)
fields_of line = filter (λ field. nat_lt 0 (length field)) (slice_split is_blank line)
