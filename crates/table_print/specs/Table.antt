-- The text of the command `table`: the operators, their types, the rows and the classes of a box, each under a heading.
use Rattle.std.specs.Prelude.{ℕ, List, length, codes}
use Rattle.lattice_algebra.specs.Operator.{Operator}
use Rattle.space_groups.specs.Rows.{Row}
use Rattle.phase_rules.specs.declared.pairs.Pairs.{Pairs}
use Rattle.reflections.specs.Boxes.{Box}
use Rattle.page_print.specs.Parts.{Is, Then, counted}
use Rattle.table_print.specs.Operators.{AreOperatorLines}
use Rattle.table_print.specs.Types.{AreTypeLines}
use Rattle.table_print.specs.Rows.{IsRowsText}
use Rattle.table_print.specs.Classes.{IsBoxText}

abbrev pub IsOperatorPart : List Operator → List ℕ → Type 0
IsOperatorPart members = Then (Is (counted (codes "operators ") (length members))) (AreOperatorLines members)

abbrev pub IsTypePart : List Operator → List ℕ → Type 0
IsTypePart members = Then (Is (codes "types\n")) (AreTypeLines members)

abbrev pub IsRowPart : List Operator → List Row → List ℕ → Type 0
IsRowPart members rows = Then (Is (counted (codes "rows ") (length rows))) (IsRowsText members rows)

abbrev pub IsClassPart : Pairs → List Operator → Box → List ℕ → Type 0
IsClassPart pairs members box = Then (Is (codes "classes\n")) (IsBoxText pairs members box)

-- the four parts
abbrev pub IsTableText : Pairs → List Operator → List Row → Box → List ℕ → Type 0
IsTableText pairs members rows box = Then (IsOperatorPart members) (Then (IsTypePart members) (Then (IsRowPart members rows) (IsClassPart pairs members box)))
