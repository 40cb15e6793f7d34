-- The table of all products of a group, by the places of its members.
use Rattle.std.specs.Prelude.{◌≡◌, ◌<◌, ℕ, Option, Some, List, length, slice_get, slice_index}
use Rattle.lattice_algebra.specs.Operator.{Operator, product, IsInverse}
use Rattle.exact_ops.specs.declared.TheConstants.{UNIT}
use Rattle.group_closure.specs.GroupList.{IsGroup}
use Rattle.group_closure.specs.Runs.{AreRunEnds, AreOpposites}

-- ranks has the places among members of the operators of made
abbrev pub AreRanks : List Operator → List Operator → List ℕ → Type 0
AreRanks made members ranks = (c : ℕ) (f : Operator) → slice_get made c ≡ Some f → slice_get members (slice_index ranks c) ≡ Some f

-- row has the places of the products of f by all members
abbrev pub IsTableRow : Operator → List Operator → List ℕ → Type 0
IsTableRow f members row = (j : ℕ) (g : Operator) → slice_get members j ≡ Some g → slice_get members (slice_index row j) ≡ Some (product UNIT f g)

-- each of the first i members has its row and the place of its inverse
pub record IsProductTable (members : List Operator) (table : List (List ℕ)) (inverses : List ℕ) (i : ℕ) : Type 0 where
  pub count : length table ≡ i
  pub rows : (k : ℕ) (f : Operator) (row : List ℕ) → slice_get members k ≡ Some f → slice_get table k ≡ Some row → IsTableRow f members row
  pub count_inverses : length inverses ≡ i
  pub inverse : (k : ℕ) (f : Operator) → k < i → slice_get members k ≡ Some f → (g : Operator) × (slice_get members (slice_index inverses k) ≡ Some g) × IsInverse UNIT f g

-- a group with its table, where its runs end, and where those with the opposite matrices begin
pub record HasProductTable (members : List Operator) (table : List (List ℕ)) (inverses ends : List ℕ) (opposites : List (Option ℕ)) : Type 0 where
  pub group : IsGroup members
  pub all : IsProductTable members table inverses (length members)
  pub runs : AreRunEnds members ends
  pub opposites_known : AreOpposites members opposites
