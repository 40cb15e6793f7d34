-- For private clauses: the values of which the report is made.
use Rattle.std.specs.Prelude.{◌≡◌, ℕ, false, List, [], ◌∷◌, codes, ⊤}
use Rattle.serde_json.specs.Data.{Data, number, unsigned, object, member, no_members}
use Rattle.serde_json.specs.Written.{has_float, compact_text}

-- the object of a row, and that of the report
abbrev pub row_data : ℕ → Data → Data → Data
row_data mult form text = object (member (codes "mult") (number (unsigned mult)) (member (codes "param") form (member (codes "text") text no_members)))

abbrev pub report_data : Data → Data → Data
report_data operators rows = object (member (codes "operators") operators (member (codes "rows") rows no_members))

-- the value is written as this text
pub record IsWrittenAs (text : List ℕ) (value : Data) : Type 0 where
  pub text_is : compact_text value ≡ text
  pub no_float : has_float value ≡ false

-- each value is written as the text of its element
abbrev pub AreWrittenAs : {A : Type 0} → (A → List ℕ) → List A → List Data → Type 0
AreWrittenAs text [] [] = ⊤
AreWrittenAs text [] (v ∷ vs) = ⊥
AreWrittenAs text (x ∷ xs) [] = ⊥
AreWrittenAs text (x ∷ xs) (v ∷ vs) = IsWrittenAs (text x) v × AreWrittenAs text xs vs
