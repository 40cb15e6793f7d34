-- Printing a grid list line by line.
use Rattle.std.proofs.Common.{◌≡◌, List, ◌++◌, subst}
use Rattle.lattice_algebra.specs.Operator.{Operator}
use Rattle.grid_tags.specs.declared.line.GridLine.{GridLine}
use Rattle.grid_tags.specs.GridLists.{IsGridList}
use Rattle.grid_tags.specs.Walks.{Walk, IsWalk}
use Rattle.grid_tags.proofs.Whole.{some_grid_list, taken_first}
use Rattle.table_print.specs.Grids.{orbit_text, IsGridText}
use Rattle.page_print.proofs.WalkPages.{Listing}

module _ (members : List Operator) (first : Walk) where
  -- these lines were taken from a walk through the grid of the first
  pub record IsTaken (now : Walk) (taken : List GridLine) : Type 0 where
    pub walk : IsWalk members now taken
    pub size : now.size ≡ first.size

  pub same_list : (now : Walk) (lines : List GridLine) → now.size ≡ first.size → IsGridList members now.size lines → IsGridList members first.size lines
  same_list now lines s list = subst (λ size. IsGridList members size lines) s list

  pub later_lines : (now : Walk) (taken : List GridLine) → IsTaken now taken → (rest : List GridLine) × IsGridList members first.size (taken ++ rest)
  later_lines now taken t =
      let all = some_grid_list members now.size t.walk.group t.walk.range t.walk.kept in
      let later = taken_first members now taken all.0 t.walk all.1 in
      (later.0, same_list now (taken ++ later.0) t.size (subst (IsGridList members now.size) later.1 all.1))

  abbrev pub grid_listing : Listing
  grid_listing = record {
    Line = GridLine;
    Walk = Walk;
    text_of = orbit_text;
    IsWhole = IsGridText members first.size;
    IsList = IsGridList members first.size;
    IsTaken = IsTaken;
    whole = λ lines text list are. record { lines = lines; is_list = list; are_lines = are };
    later = later_lines;
  }
