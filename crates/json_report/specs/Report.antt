-- The report of a group and its rows as JSON, with no blank: the operators, and each row by how many points an orbit has in the cell, by
-- the parameter form of its key, and by its key as an affine map. No text in it needs an escape.
use Rattle.std.specs.Prelude.{◌≡◌, ℕ, List, [], ◌∷◌, ◌++◌, length, decimal, codes}
use Rattle.lattice_algebra.specs.Operator.{Operator}
use Rattle.space_groups.specs.Keys.{Key}
use Rattle.space_groups.specs.Rows.{Row}
use Rattle.parameter_forms.specs.Forms.{Form}
use Rattle.triplet_text.specs.Bytes.{comma}
use Rattle.triplet_text.specs.Printing.{operator_text, affine_text}
use Rattle.table_print.specs.Rows.{numbers_of_key}
use Rattle.table_print.specs.Params.{form_text, GivesForms}

-- a text between double quotes
abbrev pub in_quotes : List ℕ → List ℕ
in_quotes text = codes "\"" ++ text ++ codes "\""

-- the entries that follow the first one, a comma before each
abbrev pub further : {A : Type 0} → (A → List ℕ) → List A → List ℕ
further text [] = []
further text (x ∷ xs) = comma ∷ text x ++ further text xs

-- entries with commas between them, in brackets
abbrev pub entries : {A : Type 0} → (A → List ℕ) → List A → List ℕ
entries text [] = codes "[]"
entries text (x ∷ xs) = codes "[" ++ text x ++ further text xs ++ codes "]"

abbrev pub operator_entry : Operator → List ℕ
operator_entry f = in_quotes (operator_text f)

-- a row of the table of so many members
abbrev pub row_entry : ℕ → (Key → Form) → Row → List ℕ
row_entry over form row =
    codes "{\"mult\":" ++ decimal row.mult ++ codes ",\"param\":" ++ in_quotes (form_text (form row.key)) ++ codes ",\"text\":" ++ in_quotes (affine_text over (numbers_of_key row.key)) ++ codes "}"

abbrev pub report_of : (Key → Form) → List Operator → List Row → List ℕ
report_of form members rows = codes "{\"operators\":" ++ entries operator_entry members ++ codes ",\"rows\":" ++ entries (row_entry (length members) form) rows ++ codes "}\n"

-- the operators and the rows, each in their order
pub record IsReportText (members : List Operator) (rows : List Row) (text : List ℕ) : Type 0 where
  pub form : Key → Form
  pub gives : GivesForms (length members) form
  pub whole : text ≡ report_of form members rows
