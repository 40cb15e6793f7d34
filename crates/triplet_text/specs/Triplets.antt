-- A line as a triplet: three sums with commas between them.
use Rattle.std.specs.Prelude.{◌==◌, if◌then◌else◌, ℕ, ℤ, pos, List, length, Option, Some, None, option_and_then, nat_le}
use Rattle.std.specs.Int.{int_rem_euclid}
use Rattle.lattice_algebra.specs.Operator.{Operator}
use Rattle.exact_ops.specs.declared.TheConstants.{UNIT}
use Rattle.triplet_text.specs.declared.component.Component.{Component}
use Rattle.triplet_text.specs.declared.triplet.TheConstants.{LINE_LENGTH}
use Rattle.triplet_text.specs.Bytes.{comma}
use Rattle.triplet_text.specs.Pieces.{cut, trim, unquoted}
use Rattle.triplet_text.specs.Sums.{sum_of}

abbrev pub modulo_cell : ℤ → ℤ
modulo_cell parts = int_rem_euclid parts (pos UNIT)

-- the components are the rows of the matrix, and their parts modulo the cell are the translation
abbrev pub operator_by : Component → Component → Component → Operator
operator_by a b c = record {
  w = record { xx = a.x; xy = a.y; xz = a.z; yx = b.x; yy = b.y; yz = b.z; zx = c.x; zy = c.y; zz = c.z };
  t = record { x = modulo_cell a.parts; y = modulo_cell b.parts; z = modulo_cell c.parts };
}

abbrev pub three_sums : List ℕ → List ℕ → List ℕ → Option Operator
three_sums first second third = option_and_then (λ a. option_and_then (λ b. option_and_then (λ c. Some (operator_by a b c)) (sum_of third)) (sum_of second)) (sum_of first)

-- cut at two commas
abbrev pub components_of : List ℕ → Option Operator
components_of text = option_and_then (λ p. option_and_then (λ q. three_sums p.0 q.0 q.1) (cut (λ b. b == comma) p.1)) (cut (λ b. b == comma) text)

-- what a line says, where it is in the triplet grammar
abbrev pub triplet_of : List ℕ → Option Operator
triplet_of line = if nat_le (length line) LINE_LENGTH then components_of (trim (unquoted (trim line))) else None
