-- The lines of the command `types`: an operator, its kind, its intrinsic part and its axis.
use Rattle.std.specs.Prelude.{◌≡◌, ◌==◌, if◌then◌else◌, Bool, ℕ, ℤ, List, [], ◌∷◌, ◌++◌, Option, Some, None, decimal}
use Rattle.std.specs.Fmt.{signed_decimal}
use Rattle.lattice_algebra.specs.Operator.{Operator}
use Rattle.lattice_algebra.specs.Matrix.{Column}
use Rattle.op_types.specs.Types.{OperationType, IsTypeOf}
use Rattle.triplet_text.specs.Bytes.{line_feed, space, comma, minus_sign}
use Rattle.triplet_text.specs.Fractions.{frac_text}
use Rattle.triplet_text.specs.Printing.{operator_text}
use Rattle.page_print.specs.Lines.{AreLines}

abbrev pub letter_m : ℕ
letter_m = 109

-- n of a proper operation; -n of an improper one, but m where n is 2
abbrev pub kind_text : ℕ → Bool → List ℕ
kind_text order proper = if proper then decimal order else if order == 2 then letter_m ∷ [] else minus_sign ∷ decimal order

-- three fractions
abbrev pub part_text : Column → ℤ → List ℕ
part_text n d = frac_text n.x d ++ comma ∷ frac_text n.y d ++ comma ∷ frac_text n.z d

-- three whole numbers
abbrev pub numbers_text : Column → List ℕ
numbers_text a = signed_decimal a.x ++ comma ∷ signed_decimal a.y ++ comma ∷ signed_decimal a.z

-- a minus where there is no axis
abbrev pub axis_text : Option Column → List ℕ
axis_text (Some a) = numbers_text a
axis_text None = minus_sign ∷ []

abbrev pub type_line : Operator → OperationType → List ℕ
type_line f t = operator_text f ++ space ∷ kind_text t.order t.proper ++ space ∷ part_text t.part t.denominator ++ space ∷ axis_text t.axis ++ line_feed ∷ []

-- the line of an operator
abbrev pub IsTypeLine : Operator → List ℕ → Type 0
IsTypeLine f text = (t : OperationType) × IsTypeOf f t × (text ≡ type_line f t)

-- a line for each operator, in their order
abbrev pub AreTypeLines : List Operator → List ℕ → Type 0
AreTypeLines members text = AreLines IsTypeLine members text
