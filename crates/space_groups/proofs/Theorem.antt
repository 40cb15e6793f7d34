-- The theorem in the words of the definitions alone: a finished search of a group gives the row list of its space group.
use Rattle.std.proofs.Common.{ℕ, ◌<◌, List}
use Rattle.std.proofs.lemmas.Map.Made.{IsDistinct-from_AllPairs}
use Rattle.lattice_algebra.specs.Operator.{Operator}
use Rattle.lattice_algebra.proofs.Operators.{operators}
use Rattle.space_groups.specs.Space.{IsMembers}
use Rattle.space_groups.specs.Rows.{Row, IsRowList}
use Rattle.space_groups.specs.Search.{Kept, IsSearch}
use Rattle.space_groups.proofs.Elements.{SpaceGroup}
use Rattle.space_groups.proofs.FinishedSearch.{search_row_list}

-- the members as a space group
abbrev pub space_group : (unit : ℕ) → 0 < unit → (members : List Operator) → IsMembers unit members → SpaceGroup
space_group unit some members m = record {
  unit = unit;
  some = some;
  members = members;
  closed = record { distinct = IsDistinct-from_AllPairs (operators unit some).same members m.once; valid = m.operators; has_one = m.identity; closed = m.products };
}

pub row_list_of_search : (unit : ℕ) → 0 < unit → (members : List Operator) → IsMembers unit members → (kept : List Kept) (rows : List Row) → IsSearch unit members kept rows → IsRowList unit members rows
row_list_of_search unit some members m kept rows s = search_row_list (space_group unit some members m) m.narrow kept rows s
