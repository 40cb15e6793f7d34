-- The line of an orbit, piece by piece, and the text of a grid list, line by line.
use Rattle.std.proofs.Common.{◌≡◌, ℕ, List, [], ◌∷◌, ◌++◌, refl, sym, ap, subst, ◌∙◌}
use Rattle.lattice_algebra.specs.Operator.{Operator}
use Rattle.group_closure.specs.GroupList.{IsGroup}
use Rattle.grid_tags.specs.Grids.{Grid, IsGridInRange, IsKept}
use Rattle.grid_tags.proofs.Whole.{some_grid_list, one_grid_list}
use Rattle.page_print.specs.Lines.{AreLines}
use Rattle.page_print.proofs.LineTexts.{some_lines, one_text}
use Rattle.table_print.specs.Grids.{IsOrbitText, IsGridText}
use Rattle.page_print.proofs.Pushed.{four_pushed}
use Rattle.triplet_text.specs.Bytes.{space, line_feed}

-- four texts that were added with spaces between them, and the end of the line
pub orbit_pushed : (l l1 l2 l3 l4 l5 l6 l7 l8 a b c d t u v w : List ℕ) → l1 ≡ l ++ a → l2 ≡ l1 ++ space ∷ [] → l3 ≡ l2 ++ b → l4 ≡ l3 ++ space ∷ [] → l5 ≡ l4 ++ c → l6 ≡ l5 ++ space ∷ [] → l7 ≡ l6 ++ d → l8 ≡ l7 ++ line_feed ∷ []
    → a ≡ t → b ≡ u → c ≡ v → d ≡ w → l8 ≡ l ++ (t ++ space ∷ u ++ space ∷ v ++ space ∷ w ++ line_feed ∷ [])
orbit_pushed l l1 l2 l3 l4 l5 l6 l7 l8 a b c d t u v w e1 e2 e3 e4 e5 e6 e7 e8 p q r s =
    four_pushed l l1 l2 l3 l4 l5 l6 l7 l8 t b c w u v (e1 ∙ ap (λ (x : List ℕ). l ++ x) p) e2 e3 e4 e5 e6 (e7 ∙ ap (λ (x : List ℕ). l6 ++ x) s) e8 q r

-- ---- one text, and one only

module _ (members : List Operator) (group : IsGroup members) (grid : Grid) (range : IsGridInRange grid) (kept : IsKept members grid) where
  pub some_grid_text : (text : List ℕ) × IsGridText members grid text
  some_grid_text =
      let lines = some_grid_list members grid group range kept in
      let text = some_lines IsOrbitText lines.0 (λ line m. (_, refl)) in
      (text.0, record { lines = lines.0; is_list = lines.1; are_lines = text.1 })

  pub one_grid_text : (s t : List ℕ) → IsGridText members grid s → IsGridText members grid t → s ≡ t
  one_grid_text s t p q =
      let e = one_grid_list members grid group range kept p.lines q.lines p.is_list q.is_list in
      one_text IsOrbitText (λ line l m a b. a ∙ sym b) q.lines s t (subst (λ lines. AreLines IsOrbitText lines s) e p.are_lines) q.are_lines
