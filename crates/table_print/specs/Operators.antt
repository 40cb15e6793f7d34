-- The lines of the command `ops`.
use Rattle.std.specs.Prelude.{◌≡◌, ℕ, List, [], ◌∷◌, ◌++◌}
use Rattle.lattice_algebra.specs.Operator.{Operator}
use Rattle.triplet_text.specs.Bytes.{line_feed}
use Rattle.triplet_text.specs.Printing.{operator_text}
use Rattle.page_print.specs.Lines.{AreLines}

-- the line of an operator
abbrev pub IsOperatorLine : Operator → List ℕ → Type 0
IsOperatorLine f text = text ≡ operator_text f ++ line_feed ∷ []

-- a line for each operator, in their order
abbrev pub AreOperatorLines : List Operator → List ℕ → Type 0
AreOperatorLines members text = AreLines IsOperatorLine members text
