-- The lines taken are the first of the class list, each index of the box has one line, and there is a class list.
use Rattle.std.proofs.Common.{◌≡◌, List, ◌++◌, length, refl, count_by}
use Rattle.lattice_algebra.specs.Operator.{Operator}
use Rattle.group_closure.specs.GroupList.{IsGroup}
use Rattle.phase_rules.specs.declared.pairs.Pairs.{Pairs}
use Rattle.phase_rules.specs.Rows.{Row}
use Rattle.phase_rules.specs.Equivalent.{fixes}
use Rattle.phase_rules.proofs.Classes.{some_class}
use Rattle.phase_rules.proofs.SomeMark.{some_mark}
use Rattle.tag_walks.proofs.Firsts as firsts
use Rattle.tag_walks.proofs.Whole as whole
use Rattle.reflections.specs.declared.line.ClassLine.{ClassLine}
use Rattle.reflections.specs.Boxes.{Box, IsInBox}
use Rattle.reflections.specs.ClassLists.{IsLine, IsClassList, IsOnlyLineOf, class_region, class_lines}
use Rattle.reflections.specs.Walks.{Walk, IsWalk}
use Rattle.reflections.proofs.ClassLists.{region, one_line, one_size, equivalents, full}

pub taken_first : (members : List Operator) (w : Walk) (taken lines : List ClassLine) → IsWalk members w taken → IsClassList w.pairs members w.size lines → (rest : List ClassLine) × (lines ≡ taken ++ rest)
taken_first members w taken lines walk list =
    firsts.taken_first (class_region w.pairs members w.size) (class_lines w.pairs members w.size) (region w.pairs members walk.group w.size) (one_line w.pairs members walk.group) w.place w.tags taken lines walk.tags list

-- each row has a line
pub some_line : (pairs : Pairs) (members : List Operator) (h : Row) → (line : ClassLine) × (line.index ≡ h) × IsLine pairs members line
some_line pairs members h =
    let class = some_class pairs members h in
    let mark = some_mark members h pairs in (
      record { index = h; size = length class.0; fixers = count_by (fixes h) members; mark = mark.0 },
      refl,
      record { size = λ other s. one_size pairs members h class.0 other class.1 s; fixers = refl; mark = mark.1 },
    )

module _ (pairs : Pairs) (members : List Operator) (group : IsGroup members) (box : Box) where
  pub one_line_each : (lines : List ClassLine) (h : Row) → IsClassList pairs members box lines → IsInBox box h
      → (line : ClassLine) × IsOnlyLineOf pairs members box lines h line
  one_line_each lines h list i =
      whole.one_line_each (class_region pairs members box) (class_lines pairs members box) (region pairs members group box) (equivalents pairs members box) (one_line pairs members group) lines h list i

  pub some_class_list : (lines : List ClassLine) × IsClassList pairs members box lines
  some_class_list =
      whole.some_first_list (class_region pairs members box) (class_lines pairs members box) (region pairs members group box) (equivalents pairs members box) (full pairs members box) (λ h i. some_line pairs members h)
