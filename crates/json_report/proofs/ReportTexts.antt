-- A group and rows have one report.
use Rattle.std.proofs.Common.{◌≡◌, ℕ, ◌<◌, ◌++◌, ◌∷◌, [], List, length, decimal, codes, refl, sym, ap, ap₂, ◌∙◌}
use Rattle.std.proofs.lemmas.Option.{slice_get_within}
use Rattle.lattice_algebra.specs.Operator.{Operator, identity_operator}
use Rattle.exact_ops.specs.declared.TheConstants.{UNIT}
use Rattle.group_closure.specs.GroupList.{IsGroup}
use Rattle.space_groups.specs.Rows.{Row}
use Rattle.parameter_forms.proofs.SomeForm.{found_form}
use Rattle.triplet_text.specs.Printing.{affine_text}
use Rattle.triplet_text.proofs.AffineSame.{one_text_of_map}
use Rattle.table_print.specs.Rows.{numbers_of_key}
use Rattle.table_print.proofs.FormTexts.{found_gives, same_form_text}
use Rattle.json_report.specs.Report.{in_quotes, further, entries, operator_entry, row_entry, report_of, IsReportText}

pub some_members : (members : List Operator) → IsGroup members → 0 < length members
some_members members g = slice_get_within members 0 identity_operator g.first

pub some_report_text : (members : List Operator) (rows : List Row) → IsGroup members → (text : List ℕ) × IsReportText members rows text
some_report_text members rows g =
    let form = found_form UNIT (length members) in
    (report_of form members rows, record { form = form; gives = found_gives (length members) (some_members members g); whole = refl })

module _ {A : Type 0} (text other : A → List ℕ) (same : (x : A) → text x ≡ other x) where
  same_further : (xs : List A) → further text xs ≡ further other xs
  same_further [] = refl
  same_further (x ∷ xs) = ap₂ (λ (s t : List ℕ). 44 ∷ s ++ t) (same x) (same_further xs)

  same_entries : (xs : List A) → entries text xs ≡ entries other xs
  same_entries [] = refl
  same_entries (x ∷ xs) = ap₂ (λ (s t : List ℕ). codes "[" ++ s ++ t ++ codes "]") (same x) (same_further xs)

module _ (members : List Operator) (rows : List Row) (g : IsGroup members) where
  pub one_report_text : (s t : List ℕ) → IsReportText members rows s → IsReportText members rows t → s ≡ t
  one_report_text s t p q =
      let n = length members in
      let same : (row : Row) → row_entry n p.form row ≡ row_entry n q.form row =
      λ row. ap (λ (form : List ℕ). codes "{\"mult\":" ++ decimal row.mult ++ codes ",\"param\":" ++ in_quotes form ++ codes ",\"text\":" ++ in_quotes (affine_text n (numbers_of_key row.key)) ++ codes "}") (same_form_text one_text_of_map n row.key (p.form row.key) (q.form row.key) (some_members members g) (p.gives row.key) (q.gives row.key)) in
      p.whole ∙ ap (λ (u : List ℕ). codes "{\"operators\":" ++ entries operator_entry members ++ codes ",\"rows\":" ++ u ++ codes "}\n") (same_entries (row_entry n p.form) (row_entry n q.form) same rows) ∙ sym q.whole
