-- The lines of the commands `index` and `refl`: an index, its class size, how many operators fix it, and its mark.
use Rattle.std.specs.Prelude.{◌≡◌, ℕ, List, [], ◌∷◌, ◌++◌, decimal, codes}
use Rattle.lattice_algebra.specs.Operator.{Operator}
use Rattle.phase_rules.specs.declared.pairs.Pairs.{Pairs}
use Rattle.phase_rules.specs.declared.parts.Mark.{Mark}
use Rattle.phase_rules.specs.declared.parts.Mark.TheVariants.{Absent, Free, Phase}
use Rattle.phase_rules.specs.Rows.{Row}
use Rattle.reflections.specs.declared.line.ClassLine.{ClassLine}
use Rattle.reflections.specs.Boxes.{Box}
use Rattle.reflections.specs.ClassLists.{IsLine, IsClassList}
use Rattle.reflections.specs.Walks.{Walk, IsWalk}
use Rattle.triplet_text.specs.Bytes.{line_feed, space}
use Rattle.page_print.specs.Lines.{AreLines}
use Rattle.page_print.specs.Parts.{index_text}

-- a restricted phase is printed by its number
abbrev pub mark_text : Mark → List ℕ
mark_text Absent = codes "absent"
mark_text Free = codes "free"
mark_text (Phase s) = codes "phase " ++ decimal s

abbrev pub class_text : ClassLine → List ℕ
class_text line = index_text line.index.h line.index.k line.index.l ++ space ∷ decimal line.size ++ space ∷ decimal line.fixers ++ space ∷ mark_text line.mark ++ line_feed ∷ []

-- the text of a line of a class list
abbrev pub IsClassText : ClassLine → List ℕ → Type 0
IsClassText line text = text ≡ class_text line

-- the line of one index
pub record IsIndexText (pairs : Pairs) (members : List Operator) (h : Row) (text : List ℕ) : Type 0 where
  pub line : ClassLine
  pub index : line.index ≡ h
  pub is_line : IsLine pairs members line
  pub whole : text ≡ class_text line

-- a line for each class of the box, in the order of its class list
pub record IsBoxText (pairs : Pairs) (members : List Operator) (box : Box) (text : List ℕ) : Type 0 where
  pub lines : List ClassLine
  pub is_list : IsClassList pairs members box lines
  pub are_lines : AreLines IsClassText lines text

-- each line of the class list was taken from the walk
pub record IsOver (members : List Operator) (old new : Walk) (taken : List ClassLine) : Type 0 where
  pub walk : IsWalk members new taken
  pub all : IsClassList old.pairs members old.size taken
