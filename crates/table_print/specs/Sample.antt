-- The text of the command `sample`: which group it is, and each row with a number of points.
use Rattle.std.specs.Prelude.{◌≡◌, ℕ, List, [], ◌∷◌, ◌++◌, length, decimal, codes, slice_index_or}
use Rattle.lattice_algebra.specs.Operator.{Operator}
use Rattle.space_groups.specs.Rows.{Row}
use Rattle.triplet_text.specs.Bytes.{line_feed, space}
use Rattle.page_print.specs.Parts.{Is, Then, counted}
use Rattle.table_print.specs.Rows.{shown_row, lines_from}

-- the number of the group, and how many operators it has
abbrev pub sample_heading : ℕ → ℕ → List ℕ
sample_heading number n = codes "group " ++ decimal number ++ counted (codes " operators ") n

-- the row at place k, and the number that is counted there
abbrev pub counted_line : ℕ → List ℕ → ℕ → Row → List ℕ
counted_line over counts k row = shown_row over k row ++ space ∷ decimal (slice_index_or counts k 0) ++ line_feed ∷ []

-- a line for each row, in their order
abbrev pub AreCountedLines : List Operator → List Row → List ℕ → List ℕ → Type 0
AreCountedLines members rows counts text = text ≡ lines_from (counted_line (length members) counts) 0 rows

abbrev pub IsSampleText : ℕ → List Operator → List Row → List ℕ → List ℕ → Type 0
IsSampleText number members rows counts = Then (Is (sample_heading number (length members))) (AreCountedLines members rows counts)
