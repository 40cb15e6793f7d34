-- What `refl`, `table` and `grid` list: each class of reflections, or each orbit of grid points, once.
use Rattle.std.specs.Prelude.{◌≡◌, ◌++◌, ◌∷◌, List, ℕ, Option, codes}
use Rattle.std.specs.List.{All}
use Rattle.lattice_algebra.specs.Operator.{Operator}
use Rattle.phase_rules.specs.declared.pairs.Pairs.{Pairs}
use Rattle.phase_rules.specs.Rows.{Row}
use Rattle.phase_rules.specs.Equivalent.{AreEquivalent}
use Rattle.reflections.specs.declared.line.ClassLine.{ClassLine}
use Rattle.reflections.specs.Boxes.{Box, IsInBox}
use Rattle.reflections.specs.ClassLists.{IsLine}
use Rattle.grid_tags.specs.declared.line.GridLine.{GridLine}
use Rattle.grid_tags.specs.Grids.{Grid, Triple, IsInGrid, triple_of}
use Rattle.grid_tags.specs.GridLists.{AreInOneOrbit, IsGridLine}
use Rattle.page_print.specs.Lines.{AreLines, SomeText}
use Rattle.table_print.specs.Classes.{IsClassText}
use Rattle.table_print.specs.Grids.{IsOrbitText}
use Rattle.sg_cli.specs.declared.words.Name.{Name}
use Rattle.sg_cli.specs.declared.words.Name.TheVariants as named
use Rattle.sg_cli.specs.Words.{Asked, IsAsked, Given, family}
use Rattle.sg_cli.specs.Inputs.{input_for}
use Rattle.sg_cli.specs.Run.{IfKnown, IsGroupAsked}

-- this holds of the element at one place of the list, and at no other
pub record HoldsOnce {A : Type 0} (Holds : A → Type 0) (list : List A) : Type 0 where
  pub before : List A
  pub it : A
  pub after : List A
  pub whole : list ≡ before ++ it ∷ after
  pub holds : Holds it
  pub none_before : All (λ (x : A). ¬ Holds x) before
  pub none_after : All (λ (x : A). ¬ Holds x) after

-- the text has lines of indices of the box, each right, and each index of the box is equivalent to that of exactly one line
pub record ListsClasses (pairs : Pairs) (members : List Operator) (box : Box) (text : List ℕ) : Type 0 where
  pub lines : List ClassLine
  pub are_lines : AreLines IsClassText lines text
  pub right : All (IsLine pairs members) lines
  pub within : All (λ (line : ClassLine). IsInBox box line.index) lines
  pub once : (h : Row) → IsInBox box h → HoldsOnce (λ (line : ClassLine). AreEquivalent pairs members line.index h) lines

-- the text has lines of grid points of a cell, each right, and each grid point of the cell is in the orbit of exactly one of them
pub record ListsOrbits (members : List Operator) (s : Grid) (text : List ℕ) : Type 0 where
  pub lines : List GridLine
  pub are_lines : AreLines IsOrbitText lines text
  pub right : All (IsGridLine members s) lines
  pub within : All (λ (line : GridLine). IsInGrid s (triple_of line.at)) lines
  pub once : (p : Triple) → IsInGrid s p → HoldsOnce (λ (line : GridLine). AreInOneOrbit members s (triple_of line.at) p) lines

-- the text ends in such a text under this heading
pub record EndsUnder (heading : List ℕ) (IsSuch : List ℕ → Type 0) (text : List ℕ) : Type 0 where
  pub front : List ℕ
  pub end : List ℕ
  pub whole : text ≡ front ++ heading ++ end
  pub is_such : IsSuch end

-- the text lists what the command with these arguments lists, where it is one of those that list classes or orbits
abbrev pub ShowsLines : (name : Name) → Given (family name) → List Operator → List ℕ → Type 0
ShowsLines named.Refl g members text = ListsClasses g.1 members g.0 text
ShowsLines named.Table g members text = EndsUnder (codes "classes\n") (ListsClasses g.1 members g.0) text
ShowsLines named.Grid s members text = ListsOrbits members s text
ShowsLines other given members text = Unit {0}

-- the text lists this of the group that is asked about
pub record IsListed (bytes : List ℕ) (asked : Asked) (text : List ℕ) : Type 0 where
  pub members : List Operator
  pub is_group : IsGroupAsked (input_for asked) bytes members
  pub shown : ShowsLines asked.name asked.given members text

-- where the bytes are told, or the words read nothing, a text with this property lists each class or orbit asked for once
abbrev pub IfListed : List (List ℕ) → Option (List ℕ) → (List ℕ → Type 0) → Type 0
IfListed words left IsSuch = SomeText (λ text. IfKnown words left (λ bytes. (asked : Asked) → IsAsked words asked → IsListed bytes asked text)) IsSuch
