-- The text of a class list, line by line.
use Rattle.std.proofs.Common.{◌≡◌, ℕ, List, [], ◌∷◌, ◌++◌, refl, sym, ap, subst, ◌∙◌, append_assoc}
use Rattle.lattice_algebra.specs.Operator.{Operator}
use Rattle.group_closure.specs.GroupList.{IsGroup}
use Rattle.phase_rules.specs.declared.pairs.Pairs.{Pairs}
use Rattle.phase_rules.specs.Rows.{Row}
use Rattle.reflections.specs.Boxes.{Box}
use Rattle.reflections.proofs.ClassLists.{one_line, one_class_list}
use Rattle.reflections.proofs.Whole.{some_line, some_class_list}
use Rattle.page_print.specs.Lines.{AreLines}
use Rattle.page_print.proofs.LineTexts.{some_lines, one_text}
use Rattle.table_print.specs.Classes.{class_text, IsClassText, IsIndexText, IsBoxText}
use Rattle.triplet_text.specs.Bytes.{space, line_feed}

-- ---- one text, and one only

module _ (pairs : Pairs) (members : List Operator) where
  pub some_index_text : (h : Row) → (text : List ℕ) × IsIndexText pairs members h text
  some_index_text h = let l = some_line pairs members h in (class_text l.0, record { line = l.0; index = l.1; is_line = l.2; whole = refl })

  module _ (group : IsGroup members) where
    pub one_index_text : (h : Row) (s t : List ℕ) → IsIndexText pairs members h s → IsIndexText pairs members h t → s ≡ t
    one_index_text h s t p q = p.whole ∙ ap class_text (one_line pairs members group p.line q.line p.is_line q.is_line (p.index ∙ sym q.index)) ∙ sym q.whole

    pub some_box_text : (box : Box) → (text : List ℕ) × IsBoxText pairs members box text
    some_box_text box =
        let lines = some_class_list pairs members group box in
        let text = some_lines IsClassText lines.0 (λ line m. (_, refl)) in
        (text.0, record { lines = lines.0; is_list = lines.1; are_lines = text.1 })

    pub one_box_text : (box : Box) (s t : List ℕ) → IsBoxText pairs members box s → IsBoxText pairs members box t → s ≡ t
    one_box_text box s t p q =
        let e = one_class_list pairs members group box p.lines q.lines p.is_list q.is_list in
        one_text IsClassText (λ line l m a b. a ∙ sym b) q.lines s t (subst (λ lines. AreLines IsClassText lines s) e p.are_lines) q.are_lines
