-- Where the words ask for a list of classes or orbits, the text of the answer has each of them once.
use Rattle.std.proofs.Common.{◌≡◌, ◌++◌, ◌∷◌, [], ◌∙◌, ℕ, List, refl, sym, ap, subst, ⊎_elim, codes, arith, Contains, AllPairs, All}
use Rattle.std.proofs.lemmas.List.Elements.{All-nil, All-cons, All-weaker, All-contains_itself}
use Rattle.std.proofs.lemmas.List.{append_assoc}
use Rattle.std.proofs.lemmas.Int.{ints}
use Rattle.finite_groups.proofs.Members as lists
use Rattle.finite_groups.proofs.Pairs.{AllPairs-first, AllPairs-rest}
use Rattle.lattice_algebra.specs.Operator.{Operator}
use Rattle.group_closure.specs.GroupList.{IsGroup}
use Rattle.phase_rules.specs.declared.pairs.Pairs.{Pairs}
use Rattle.phase_rules.specs.Rows as indices
use Rattle.phase_rules.specs.Equivalent.{AreEquivalent}
use Rattle.reflections.specs.declared.line.ClassLine.{ClassLine}
use Rattle.reflections.specs.Boxes as boxes
use Rattle.reflections.specs.Boxes.{Box, IsInBox}
use Rattle.reflections.proofs.Whole as classes
use Rattle.grid_tags.specs.declared.line.GridLine.{GridLine}
use Rattle.grid_tags.specs.Grids as grids
use Rattle.grid_tags.specs.Grids.{Grid, Triple, IsInGrid, IsGridInRange, IsKept, triple_of}
use Rattle.grid_tags.specs.GridLists.{AreInOneOrbit}
use Rattle.grid_tags.proofs.Whole as orbits
use Rattle.table_print.specs.Classes.{IsBoxText}
use Rattle.table_print.specs.Grids.{IsGridText}
use Rattle.table_print.specs.Table.{IsTableText}
use Rattle.sg_cli.specs.declared.words.Name.{Name}
use Rattle.sg_cli.specs.declared.words.Name.TheVariants as named
use Rattle.sg_cli.specs.Words.{Asked, IsAsked, Given, family, HasArguments}
use Rattle.sg_cli.specs.Inputs.{input_for, DataLines}
use Rattle.sg_cli.specs.Stages.{Gives, behind}
use Rattle.sg_cli.specs.Answering.{OverGrid, Answering}
use Rattle.sg_cli.specs.Answer.{command, IsAnswer}
use Rattle.sg_cli.specs.Listed.{HoldsOnce, ListsClasses, ListsOrbits, EndsUnder, ShowsLines, IsListed}
use Rattle.sg_cli.proofs.Commands.{one_asked}
use Rattle.sg_cli.proofs.Stages.{needed}
use Rattle.sg_cli.proofs.Tabled.{over_input}

-- what holds of each element of a list
each : {A : Type 0} (P : A → Type 0) (list : List A) → ((x : A) → Contains list x → P x) → All P list
each P list h = All-weaker (Contains list) P h list (All-contains_itself list)

-- a list in an order in which nothing stands before itself has each element at one place
module _ {A : Type 0} (Before : A → A → Type 0) (never : (x : A) → Before x x → ⊥) (P : A → Type 0) where
  once_in : (list : List A) (x : A) → AllPairs Before list → Contains list x → P x → ((y : A) → Contains list y → P y → y ≡ x) → HoldsOnce P list
  once_in [] x s c p only = lists.not_in_nil x c
  once_in (y ∷ ys) x s c p only =
      ⊎_elim
      (λ e. record {
        before = [];
        it = y;
        after = ys;
        whole = refl;
        holds = subst P (sym e) p;
        none_before = All-nil (λ (z : A). ¬ P z);
        none_after = each (λ (z : A). ¬ P z) ys (λ z d q. never y (subst (Before y) (only z (lists.Contains-later z y ys d) q ∙ sym e) (AllPairs-first Before y z ys s d)));
      })
      (λ d.
      let r = once_in ys x (AllPairs-rest Before y ys s) d p (λ z k. only z (lists.Contains-later z y ys k)) in
      record {
        before = y ∷ r.before;
        it = r.it;
        after = r.after;
        whole = ap (λ zs. y ∷ zs) r.whole;
        holds = r.holds;
        none_before = All-cons (λ (z : A). ¬ P z) y r.before (λ q. never x (subst (λ v. Before v x) (only y (lists.Contains-here y ys) q) (AllPairs-first Before y x ys s d))) r.none_before;
        none_after = r.none_after;
      })
      (lists.Contains-cases x y ys c)

-- the end of a text of four parts, of which the last has a heading
end_of : (a b c head d e x y z text : List ℕ) → text ≡ a ++ x → x ≡ b ++ y → y ≡ c ++ z → z ≡ d ++ e → d ≡ head → text ≡ (a ++ b ++ c) ++ head ++ e
end_of a b c head d e x y z text p q r s h =
    let w = head ++ e in
    let into : text ≡ a ++ (b ++ (c ++ w)) = p ∙ ap (λ v. a ++ v) (q ∙ ap (λ v. b ++ v) (r ∙ ap (λ v. c ++ v) (s ∙ ap (λ v. v ++ e) h))) in
    into ∙ sym (append_assoc (a ++ b ++ c) head e ∙ append_assoc (a ++ b) c w ∙ append_assoc a b (c ++ w))

-- ---- no element stands before itself

no_index : (h : indices.Row) → boxes.ComesBefore h h → ⊥
no_index h b = ⊎_elim (λ l. absurd (omega (arith, ints, l))) (λ r. ⊎_elim (λ l. absurd (omega (arith, ints, l))) (λ t. absurd (omega (arith, ints, t.1))) r.1) b

no_point : (p : Triple) → grids.ComesBefore p p → ⊥
no_point p b = ⊎_elim (λ l. absurd (omega (arith, l))) (λ r. ⊎_elim (λ l. absurd (omega (arith, l))) (λ t. absurd (omega (arith, t.1))) r.1) b

-- ---- the lists

module _ (members : List Operator) (g : IsGroup members) where
  lists_classes : (pairs : Pairs) (box : Box) (text : List ℕ) → IsBoxText pairs members box text → ListsClasses pairs members box text
  lists_classes pairs box text t = record {
    lines = t.lines;
    are_lines = t.are_lines;
    right = t.is_list.lines;
    within = each (λ (line : ClassLine). IsInBox box line.index) t.lines (λ line c. ((t.is_list.exactly line.index).0 (lists.Contains-map (λ (l : ClassLine). l.index) line t.lines c)).in_region);
    once = λ h i.
        let o = classes.one_line_each pairs members g box t.lines h t.is_list i in
        once_in (λ (a b : ClassLine). boxes.ComesBefore a.index b.index) (λ line. no_index line.index) (λ (line : ClassLine). AreEquivalent pairs members line.index h) t.lines o.0 t.is_list.ordered o.1.listed o.1.equivalent o.1.only;
  }

  lists_orbits : (s : Grid) (text : List ℕ) → IsGridInRange s → IsKept members s → IsGridText members s text → ListsOrbits members s text
  lists_orbits s text range kept t = record {
    lines = t.lines;
    are_lines = t.are_lines;
    right = t.is_list.lines;
    within = each (λ (line : GridLine). IsInGrid s (triple_of line.at)) t.lines (λ line c. ((t.is_list.exactly (triple_of line.at)).0 (lists.Contains-map (λ (l : GridLine). triple_of l.at) line t.lines c)).in_region);
    once = λ p i.
        let o = orbits.one_line_each members s g range kept t.lines p t.is_list i in
        once_in (λ (a b : GridLine). grids.ComesBefore (triple_of a.at) (triple_of b.at)) (λ line. no_point (triple_of line.at)) (λ (line : GridLine). AreInOneOrbit members s (triple_of line.at) p) t.lines o.0 t.is_list.ordered o.1.listed o.1.equivalent o.1.only;
  }

  -- the classes stand last in a table
  ends_in_classes : (pairs : Pairs) (rows : List _) (box : Box) (text : List ℕ) → IsTableText pairs members rows box text → EndsUnder (codes "classes\n") (ListsClasses pairs members box) text
  ends_in_classes pairs rows box text t =
      let third = t.is_later.is_later in
      let last = third.is_later in
      record {
        front = t.first ++ t.is_later.first ++ third.first;
        end = last.later;
        whole = end_of t.first t.is_later.first third.first _ last.first last.later _ _ _ text t.whole t.is_later.whole third.whole last.whole last.is_first;
        is_such = lists_classes pairs box last.later last.is_later;
      }

  over_grid : (s : Grid) (text : List ℕ) → IsGridInRange s → OverGrid members s (Gives text) → ListsOrbits members s text
  over_grid s text range (behind k t) = lists_orbits s text range (needed k) t

  shown : (name : Name) (given : Given (family name)) (arguments : List (List ℕ)) (rest : DataLines) (text : List ℕ) → HasArguments (family name) given arguments → Answering name given members rest (Gives text) → ShowsLines name given members text
  shown named.Refl given arguments rest text is h = lists_classes given.1 given.0 text h
  shown named.Table given arguments rest text is h = ends_in_classes given.1 h.rows given.0 text h.is_text
  shown named.Grid s arguments rest text is h = over_grid s text is.say.in_range h
  shown other given arguments rest text is h = tt

pub answer_listed : (words : List (List ℕ)) (bytes text : List ℕ) (asked : Asked) → IsAsked words asked → IsAnswer words bytes (Gives text) → IsListed bytes asked text
answer_listed words bytes text asked is (behind {value = other} (command was) h) =
    let o = over_input other (input_for other) bytes text h in
    subst (λ (a : Asked). IsListed bytes a text) (one_asked words other asked was is) (record { members = o.0; is_group = o.3; shown = shown o.0 o.2 other.name other.given was.arguments o.1 text was.given o.4 })
