-- Data lines that write what was measured: the three numbers of an index and a value, separated by blanks.
use Rattle.std.specs.Prelude.{◌≡◌, ℕ, List, [], ◌∷◌}
use Rattle.lattice_algebra.specs.Operator.{AreWithin}
use Rattle.phase_rules.specs.declared.TheConstants.{MAX_INDEX}
use Rattle.triplet_text.specs.Integers.{IsInteger}
use Rattle.data_lines.specs.Fields.{fields_of}
use Rattle.data_lines.specs.DataLines.{AreWritten}
use Rattle.refl_merge.specs.declared.measured.Measured.{Measured}
use Rattle.data_lines.specs.declared.number.TheConstants.{NUMBER_DIGITS}

-- the line has four fields: the numbers of an index in range, and the value
pub record IsMeasuredLine (line : List ℕ) (m : Measured) : Type 0 where
  pub h : List ℕ
  pub k : List ℕ
  pub l : List ℕ
  pub value : List ℕ
  pub fields : fields_of line ≡ h ∷ k ∷ l ∷ value ∷ []
  pub is_h : IsInteger NUMBER_DIGITS h m.index.h
  pub is_k : IsInteger NUMBER_DIGITS k m.index.k
  pub is_l : IsInteger NUMBER_DIGITS l m.index.l
  pub in_range : AreWithin MAX_INDEX m.index.h m.index.k m.index.l
  pub is_value : IsInteger NUMBER_DIGITS value m.value

-- the lines that are not skipped write these
abbrev pub AreMeasuredLines : List (List ℕ) → List Measured → Type 0
AreMeasuredLines = AreWritten IsMeasuredLine
