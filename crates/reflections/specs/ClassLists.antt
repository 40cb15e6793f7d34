-- The class list of a box: the indices that have no earlier equivalent in the box. This project's own.
use Rattle.std.specs.Prelude.{◌≡◌, List, length, count_by}
use Rattle.lattice_algebra.specs.Operator.{Operator}
use Rattle.phase_rules.specs.declared.pairs.Pairs.{Pairs}
use Rattle.phase_rules.specs.Rows.{Row}
use Rattle.phase_rules.specs.Equivalent.{AreEquivalent, IsClass, fixes}
use Rattle.phase_rules.specs.Marks.{IsMark}
use Rattle.tag_walks.specs.Regions.{Region, Lines, IsFirstList, IsOnlyLine}
use Rattle.reflections.specs.declared.line.ClassLine.{ClassLine}
use Rattle.reflections.specs.Boxes.{Box, IsInBox, ComesBefore, place_of, places}

-- what the line says is so of its index
pub record IsLine (pairs : Pairs) (members : List Operator) (line : ClassLine) : Type 0 where
  pub size : (class : List Row) → IsClass pairs members line.index class → line.size ≡ length class
  pub fixers : line.fixers ≡ count_by (fixes line.index) members
  pub mark : IsMark pairs members line.index line.mark

-- the rows of the box in descending order, equivalent by symmetry
abbrev pub class_region : Pairs → List Operator → Box → Region
class_region pairs members box = record {
  X = Row;
  In = IsInBox box;
  Before = ComesBefore;
  Equivalent = AreEquivalent pairs members;
  place = place_of box;
  count = places box;
}

abbrev pub class_lines : (pairs : Pairs) (members : List Operator) (box : Box) → Lines (class_region pairs members box)
class_lines pairs members box = record { L = ClassLine; at = λ (line : ClassLine). line.index; IsLine = IsLine pairs members }

-- the class list: the lines of the rows of the box that have no earlier equivalent in it
abbrev pub IsClassList : Pairs → List Operator → Box → List ClassLine → Type 0
IsClassList pairs members box list = IsFirstList (class_region pairs members box) (class_lines pairs members box) list

-- of the lines this one alone has an index that is equivalent to h
abbrev pub IsOnlyLineOf : Pairs → List Operator → Box → List ClassLine → Row → ClassLine → Type 0
IsOnlyLineOf pairs members box list h line = IsOnlyLine (class_region pairs members box) (class_lines pairs members box) list h line
