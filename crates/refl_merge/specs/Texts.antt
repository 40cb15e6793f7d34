-- The text of a merged list: a line for each class, how many of the absent classes were observed, and a line for each of these.
use Rattle.std.specs.Prelude.{◌≡◌, ℕ, Bool, true, false, cond, List, [], ◌∷◌, ◌++◌, count_by, decimal, codes}
use Rattle.std.specs.List.{flat_map}
use Rattle.std.specs.Fmt.{signed_decimal}
use Rattle.lattice_algebra.specs.Operator.{Operator}
use Rattle.phase_rules.specs.declared.pairs.Pairs.{Pairs}
use Rattle.phase_rules.specs.Rows.{Row, row_of}
use Rattle.triplet_text.specs.Bytes.{line_feed, space}
use Rattle.page_print.specs.Parts.{index_text, counted}
use Rattle.refl_merge.specs.declared.measured.Measured.{Measured}
use Rattle.refl_merge.specs.declared.merged.MergedLine.{MergedLine}
use Rattle.refl_merge.specs.Merged.{IsMergedList}

-- the three numbers of a key
abbrev pub key_text : Row → List ℕ
key_text h = index_text h.h h.k h.l

abbrev pub absence_text : Bool → List ℕ
absence_text true = codes "absent"
absence_text false = codes "present"

-- the line of a class: its key, its count and sum, and whether it is absent
abbrev pub class_text : MergedLine → List ℕ
class_text line = key_text (row_of line.key) ++ space ∷ decimal line.count ++ space ∷ signed_decimal line.sum ++ space ∷ absence_text line.absent ++ line_feed ∷ []

-- the line of an absent class that was observed: its key; no line of another
abbrev pub observed_text : MergedLine → List ℕ
observed_text line = cond line.observed (key_text (row_of line.key) ++ line_feed ∷ []) []

-- how many there are of these
abbrev pub observed_count : List MergedLine → ℕ
observed_count merged = count_by (λ (line : MergedLine). line.observed) merged

abbrev pub heading_text : List MergedLine → List ℕ
heading_text merged = counted (codes "observed absences ") (observed_count merged)

abbrev pub merged_text : List MergedLine → List ℕ
merged_text merged = flat_map class_text merged ++ (heading_text merged ++ flat_map observed_text merged)

-- the text of the merged list of these lines
pub record IsMergedText (pairs : Pairs) (members : List Operator) (lines : List Measured) (text : List ℕ) : Type 0 where
  pub merged : List MergedLine
  pub is_list : IsMergedList pairs members lines merged
  pub whole : text ≡ merged_text merged
