-- Printing a class list line by line.
use Rattle.std.proofs.Common.{◌≡◌, List, ◌++◌, subst}
use Rattle.lattice_algebra.specs.Operator.{Operator}
use Rattle.reflections.specs.declared.line.ClassLine.{ClassLine}
use Rattle.reflections.specs.ClassLists.{IsClassList}
use Rattle.reflections.specs.Walks.{Walk, IsWalk}
use Rattle.reflections.proofs.Whole.{some_class_list, taken_first}
use Rattle.table_print.specs.Classes.{class_text, IsBoxText}
use Rattle.page_print.proofs.WalkPages.{Listing}

module _ (members : List Operator) (first : Walk) where
  -- these lines were taken from a walk through the box of the first
  pub record IsTaken (now : Walk) (taken : List ClassLine) : Type 0 where
    pub walk : IsWalk members now taken
    pub size : now.size ≡ first.size
    pub pairs : now.pairs ≡ first.pairs

  pub same_list : (now : Walk) (lines : List ClassLine) → now.size ≡ first.size → now.pairs ≡ first.pairs → IsClassList now.pairs members now.size lines → IsClassList first.pairs members first.size lines
  same_list now lines s p list = subst (λ pairs. IsClassList pairs members first.size lines) p (subst (λ size. IsClassList now.pairs members size lines) s list)

  pub later_lines : (now : Walk) (taken : List ClassLine) → IsTaken now taken → (rest : List ClassLine) × IsClassList first.pairs members first.size (taken ++ rest)
  later_lines now taken t =
      let all = some_class_list now.pairs members t.walk.group now.size in
      let later = taken_first members now taken all.0 t.walk all.1 in
      (later.0, same_list now (taken ++ later.0) t.size t.pairs (subst (IsClassList now.pairs members now.size) later.1 all.1))

  abbrev pub class_listing : Listing
  class_listing = record {
    Line = ClassLine;
    Walk = Walk;
    text_of = class_text;
    IsWhole = IsBoxText first.pairs members first.size;
    IsList = IsClassList first.pairs members first.size;
    IsTaken = IsTaken;
    whole = λ lines text list are. record { lines = lines; is_list = list; are_lines = are };
    later = later_lines;
  }
