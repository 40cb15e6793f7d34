-- What is printed of the Wyckoff positions of a group is one text, and it shows a Wyckoff table.
use Rattle.std.proofs.Common.{◌≡◌, ℕ, List, length, refl, sym, ap₂, subst, ◌∙◌}
use Rattle.lattice_algebra.specs.Operator.{Operator}
use Rattle.lattice_algebra.specs.Point.{Point, IsPoint}
use Rattle.exact_ops.specs.declared.TheConstants.{UNIT}
use Rattle.exact_ops.proofs.Narrow.{some_parts}
use Rattle.group_closure.specs.GroupList.{IsGroup}
use Rattle.space_groups.specs.Rows.{Row, IsAt, Fits, IsTable, IsRowList}
use Rattle.space_groups.proofs.Ordered.{one_row_list}
use Rattle.wyckoff_rows.proofs.Finishing.{members_of_group, table_of_rows}
use Rattle.row_lists.proofs.Theorem.{some_table}
use Rattle.phase_rules.specs.declared.pairs.Pairs.{Pairs}
use Rattle.reflections.specs.Boxes.{Box}
use Rattle.table_print.specs.Rows.{row_line, IsRowText}
use Rattle.table_print.specs.Table.{IsTableText}
use Rattle.sg_cli.specs.Wyckoff.{IsTextOfRows, IsFitText}

module _ (members : List Operator) (g : IsGroup members) where
  -- a group has a Wyckoff table that is its row list
  pub some_rows : (rows : List Row) × IsTable UNIT members rows × IsRowList UNIT members rows
  some_rows = some_table UNIT some_parts members (members_of_group members g)

  module _ (IsText : List Row → List ℕ → Type 0) where
    pub one_text_of_rows : ((rows : List Row) → IsTable UNIT members rows → (s t : List ℕ) → IsText rows s → IsText rows t → s ≡ t) → (s t : List ℕ) → IsTextOfRows members IsText s → IsTextOfRows members IsText t → s ≡ t
    one_text_of_rows one s t p q =
        let same = one_row_list UNIT members p.rows q.rows p.list q.list in
        one q.rows (table_of_rows members g q.rows q.list) s t (subst (λ rows. IsText rows s) same p.is_text) q.is_text

    pub some_text_of_rows : ((rows : List Row) → IsTable UNIT members rows → (text : List ℕ) × IsText rows text) → (text : List ℕ) × IsTextOfRows members IsText text
    some_text_of_rows some =
        let rows = some_rows in
        let text = some rows.0 rows.1 in
        (text.0, record { rows = rows.0; list = rows.2; is_text = text.1 })

  -- ---- the line of the row that a point fits

  module _ (x : Point) (point : IsPoint x) (rows : List Row) (table : IsTable UNIT members rows) where
    pub one_fit_text : (s t : List ℕ) → IsFitText members x rows s → IsFitText members x rows t → s ≡ t
    one_fit_text s t p q =
        let place = table.one x p.place q.place p.line.row q.line.row point p.line.at q.line.at p.fits q.fits in
        let there = subst (λ (k : ℕ). IsAt rows k q.line.row) (sym place) q.line.at in
        let row = sym (p.line.at.is p.line.row) ∙ there.is p.line.row in
        p.line.whole ∙ ap₂ (row_line (length members)) place row ∙ sym q.line.whole

    pub some_fit_text : (text : List ℕ) × IsFitText members x rows text
    some_fit_text =
        let e = table.every x point in
        (row_line (length members) e.0 e.1, record { place = e.0; line = record { row = e.1; at = e.2; whole = refl }; fits = e.3 })

-- the line that is printed at the place where the point fits
pub fitting_line : (members : List Operator) (x : Point) (rows : List Row) (place : ℕ) → ((k : ℕ) (row : Row) → IsAt rows k row → (k ≡ place → Fits UNIT members row x) × (Fits UNIT members row x → k ≡ place)) → (text : List ℕ) → IsRowText members rows place text → IsFitText members x rows text
fitting_line members x rows place fits text line = record { place = place; line = line; fits = (fits place line.row line.at).0 refl }

-- a walk that was begun for these pairs and this box
pub same_table_text : (members : List Operator) (rows : List Row) {pairs other : Pairs} {box size : Box} → pairs ≡ other → box ≡ size → (text : List ℕ) → IsTableText pairs members rows box text → IsTableText other members rows size text
same_table_text members rows {pairs} {other} {box} {size} p q text t = subst (λ (a : Pairs). IsTableText a members rows size text) p (subst (λ (b : Box). IsTableText pairs members rows b text) q t)
