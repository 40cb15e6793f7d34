-- What is promised of lists of operators that generate one group.
use Rattle.std.specs.Prelude.{◌≡◌, ◌↔◌, ℕ, List}
use Rattle.std.specs.List.{All}
use Rattle.lattice_algebra.specs.Operator.{Operator, IsOperator}
use Rattle.exact_ops.specs.declared.TheConstants.{UNIT}
use Rattle.triplet_text.specs.Lines.{lines_of, AreRead}
use Rattle.group_closure.specs.Words.{Span, Closes}
use Rattle.group_closure.specs.GroupList.{IsGroupList}
use Rattle.sg_cli.specs.declared.words.Input.{Input}
use Rattle.sg_cli.specs.Inputs.{Parts, AreParts}

-- the two lists generate the same operators
abbrev pub GenerateOneGroup : List Operator → List Operator → Type 0
GenerateOneGroup list other = (f : Operator) → Span list f ↔ Span other f

-- the operators of the two inputs generate one group, and their data lines are the same
pub record HaveOneGroup (input : Input) (bytes others : List ℕ) : Type 0 where
  pub parts : Parts
  pub other_parts : Parts
  pub divided : AreParts input (lines_of bytes) parts
  pub divided_too : AreParts input (lines_of others) other_parts
  pub list : List Operator
  pub other : List Operator
  pub read : AreRead parts.head list
  pub read_too : AreRead other_parts.head other
  pub same : GenerateOneGroup list other
  pub same_data : parts.tail ≡ other_parts.tail

-- the members are the group list of operators that close
pub record AreMembersOf (list members : List Operator) : Type 0 where
  pub operators : All (IsOperator UNIT) list
  pub closes : Closes list
  pub is_list : IsGroupList list members

-- lists that generate one group have one such text at most
abbrev pub HaveOneText : (List Operator → List ℕ → Type 0) → Type 0
HaveOneText IsTextOf = (list other members more : List Operator) → GenerateOneGroup list other → AreMembersOf list members → AreMembersOf other more → (s t : List ℕ) → IsTextOf members s → IsTextOf more t → s ≡ t
