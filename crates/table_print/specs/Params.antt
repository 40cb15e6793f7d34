-- The lines of the command `params`: a row of the table of Wyckoff positions, by its place, counted from 1, by how many points an orbit
-- has in the cell, and by the parameter form of its key as an affine map.
use Rattle.std.specs.Prelude.{◌≡◌, ◌<◌, ◌+◌, ℕ, List, [], ◌∷◌, ◌++◌, length, decimal}
use Rattle.lattice_algebra.specs.Operator.{Operator}
use Rattle.lattice_algebra.specs.Point.{Point}
use Rattle.space_groups.specs.Keys.{Key}
use Rattle.space_groups.specs.Rows.{Row, Lies}
use Rattle.parameter_forms.specs.Forms.{Form, IsParameterForm}
use Rattle.exact_ops.specs.declared.TheConstants.{UNIT}
use Rattle.triplet_text.specs.Bytes.{line_feed, space}
use Rattle.triplet_text.specs.Printing.{affine_text}
use Rattle.triplet_text.specs.AffineTexts.{IsAffineText}
use Rattle.table_print.specs.Rows.{lines_from}

-- a form as any other affine map
abbrev pub form_text : Form → List ℕ
form_text f = affine_text f.over (record { w = f.b; t = f.s })

-- the numbers of the row at place k, counted from 0, with its form
abbrev pub shown_form : ℕ → Row → Form → List ℕ
shown_form k row f = decimal (k + 1) ++ space ∷ decimal row.mult ++ space ∷ form_text f

-- the function gives each key over so many members its parameter form
abbrev pub GivesForms : ℕ → (Key → Form) → Type 0
GivesForms over form = (p : Key) → IsParameterForm UNIT over p (form p)

abbrev pub param_line : (Key → Form) → ℕ → Row → List ℕ
param_line form k row = shown_form k row (form row.key) ++ line_feed ∷ []

-- a line for each row, in their order
pub record IsParamsText (members : List Operator) (rows : List Row) (text : List ℕ) : Type 0 where
  pub form : Key → Form
  pub gives : GivesForms (length members) form
  pub whole : text ≡ lines_from (param_line form) 0 rows

-- the matrix and the translation of a map as a pair like that of a row: so a point lies on the map as it lies on a row
abbrev pub key_of_map : Operator → Key
key_of_map f = record { m = f.w; t = f.t }

-- a point lies on the affine map that a text writes
pub record LiesOnText (text : List ℕ) (y : Point) : Type 0 where
  pub over : ℕ
  pub map : Operator
  pub some : 0 < over
  pub written : IsAffineText over text map
  pub lies : Lies UNIT over (key_of_map map) y
