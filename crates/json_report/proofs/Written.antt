-- How the values of the report are written.
use Rattle.std.proofs.Common.{◌≡◌, ℕ, ◌+◌, List, [], ◌∷◌, ◌++◌, Bool, true, false, ◌||◌, decimal, codes, IsAscii, Some, slice_get, take, map, refl, sym, ap, ap₂, subst, ◌∙◌, append_assoc}
use Rattle.std.proofs.lemmas.List.{take_more, map_push}
use Rattle.std.proofs.lemmas.Option.{slice_get_within, get_or_from_slice_get}
use Rattle.parameter_forms.specs.Forms.{Form}
use Rattle.parameter_forms.specs.Finding.{IsKeptForm}
use Rattle.table_print.specs.Params.{form_text}
use Rattle.serde_json.specs.Data.{Data, string, array}
use Rattle.serde_json.specs.View.{view, items_of}
use Rattle.serde_json.specs.Written.{has_float, items_have_float, compact_text, items_text}
use Rattle.serde_json.specs.declared.value.Value.{Value}
use Rattle.serde_json.proofs.OnLiterals.{serde_json_on_literals}
use Rattle.json_report.specs.Report.{in_quotes, further, entries}
use Rattle.json_report.specs.Values.{row_data, report_data, IsWrittenAs, AreWrittenAs}
use Rattle.json_report.proofs.PlainTexts.{ArePlain, plain_kept, plain_ascii, form_plain}

-- ---- texts

string_written : (text : List ℕ) → ArePlain text → IsWrittenAs (in_quotes text) (string text)
string_written text p = record { text_is = ap (λ (t : List ℕ). 34 ∷ (t ++ 34 ∷ [])) (plain_kept text p); no_float = refl }

-- a value of which it is told that it is this text, where the text is ASCII
pub told_text : (bytes text : List ℕ) (value : Data) → bytes ≡ text → ArePlain text → (IsAscii bytes → value ≡ string bytes) → IsWrittenAs (in_quotes text) value
told_text bytes text value e p is =
    let plain : ArePlain bytes = subst ArePlain (sym e) p in
    subst (λ (t : List ℕ). IsWrittenAs (in_quotes t) value) e (subst (IsWrittenAs (in_quotes bytes)) (sym (is (plain_ascii bytes plain))) (string_written bytes plain))

-- the same of a form that was added to a page without bytes
pub told_form : (page now bytes text : List ℕ) (value : Data) → page ≡ [] → now ≡ page ++ text → (form : Form) × IsKeptForm form × (now ≡ page ++ form_text form) → bytes ≡ now → (IsAscii bytes → value ≡ string bytes) → IsWrittenAs (in_quotes text) value
told_form page now bytes text value empty e kept is told =
    let shown : now ≡ text = e ∙ ap (λ (l : List ℕ). l ++ text) empty in
    let same : now ≡ form_text kept.0 = kept.2 ∙ ap (λ (l : List ℕ). l ++ form_text kept.0) empty in
    told_text bytes text value (is ∙ shown) (subst ArePlain (sym same ∙ shown) (form_plain kept.0 kept.1)) told

-- ---- a row

abbrev row_laid : List ℕ → List ℕ → List ℕ → List ℕ
row_laid m f t = codes "{\"mult\":" ++ m ++ codes ",\"param\":" ++ f ++ codes ",\"text\":" ++ t ++ codes "}"

-- the same, each text joined to all that follows it
abbrev row_nested : List ℕ → List ℕ → List ℕ → List ℕ
row_nested m f t = codes "{\"mult\":" ++ (m ++ (codes ",\"param\":" ++ (f ++ (codes ",\"text\":" ++ (t ++ codes "}")))))

row_is_laid : (m f t : List ℕ) → row_nested m f t ≡ row_laid m f t
row_is_laid m f t = simp append_assoc

row_text_is : (mult : ℕ) (form text : Data) (f t : List ℕ) → compact_text form ≡ f → compact_text text ≡ t → compact_text (row_data mult form text) ≡ row_laid (decimal mult) f t
unfolding serde_json_on_literals
row_text_is mult form text f t p q = ap₂ (row_nested (decimal mult)) p q ∙ row_is_laid (decimal mult) f t

no_floats : (a b : Bool) → a ≡ false → b ≡ false → (a || (b || false)) ≡ false
no_floats a b p q = rw (p, q) refl

pub row_written : (value : Data) (mult : ℕ) (form text : Data) (f t : List ℕ) → value ≡ row_data mult form text → IsWrittenAs f form → IsWrittenAs t text → IsWrittenAs (row_laid (decimal mult) f t) value
row_written value mult form text f t e p q = record {
  text_is = ap compact_text e ∙ row_text_is mult form text f t p.text_is q.text_is;
  no_float = ap has_float e ∙ no_floats (has_float form) (has_float text) p.no_float q.no_float;
}

-- ---- lists

module _ {A : Type 0} (text : A → List ℕ) where
  one_more : (xs : List A) (vs : List Data) (x : A) (v : Data) → AreWrittenAs text xs vs → IsWrittenAs (text x) v → AreWrittenAs text (xs ++ x ∷ []) (vs ++ v ∷ [])
  one_more [] [] x v h p = (p, tt)
  one_more [] (w ∷ vs) x v h p = absurd h
  one_more (y ∷ xs) [] x v h p = absurd h
  one_more (y ∷ xs) (w ∷ vs) x v h p = (h.0, one_more xs vs x v h.1 p)

  further_written : (xs : List A) (vs : List Data) → AreWrittenAs text xs vs → items_text true (items_of vs) ≡ further text xs ++ codes "]"
  further_written [] [] h = refl
  further_written [] (v ∷ vs) h = absurd h
  further_written (x ∷ xs) [] h = absurd h
  further_written (x ∷ xs) (v ∷ vs) h =
      ap₂ (λ (s t : List ℕ). 44 ∷ (s ++ t)) h.0.text_is (further_written xs vs h.1) ∙ sym (append_assoc (44 ∷ text x) (further text xs) (codes "]"))

  entries_text : (xs : List A) (vs : List Data) → AreWrittenAs text xs vs → compact_text (array (items_of vs)) ≡ entries text xs
  entries_text [] [] h = refl
  entries_text [] (v ∷ vs) h = absurd h
  entries_text (x ∷ xs) [] h = absurd h
  entries_text (x ∷ xs) (v ∷ vs) h = ap₂ (λ (s t : List ℕ). 91 ∷ (s ++ t)) h.0.text_is (further_written xs vs h.1) ∙ sym (append_assoc (91 ∷ text x) (further text xs) (codes "]"))

  no_items_float : (xs : List A) (vs : List Data) → AreWrittenAs text xs vs → items_have_float (items_of vs) ≡ false
  no_items_float [] [] h = refl
  no_items_float [] (v ∷ vs) h = absurd h
  no_items_float (x ∷ xs) [] h = absurd h
  no_items_float (x ∷ xs) (v ∷ vs) h = rw (h.0.no_float, no_items_float xs vs h.1) refl

  pub array_written : (xs : List A) (vs : List Data) → AreWrittenAs text xs vs → IsWrittenAs (entries text xs) (array (items_of vs))
  array_written xs vs h = record { text_is = entries_text xs vs h; no_float = no_items_float xs vs h }

  -- the value of the next element is pushed
  pub one_pushed : (xs : List A) (k : ℕ) (x : A) (items now : List Value) (v : Value) → slice_get xs k ≡ Some x → AreWrittenAs text (take k xs) (map view items) → IsWrittenAs (text x) (view v) → now ≡ items ++ v ∷ [] → AreWrittenAs text (take (k + 1) xs) (map view now)
  one_pushed xs k x items now v is h p e =
      let front : take (k + 1) xs ≡ take k xs ++ x ∷ [] = take_more xs k x (slice_get_within xs k x is) ∙ ap (λ (y : A). take k xs ++ y ∷ []) (get_or_from_slice_get xs k x x is) in
      let values : map view now ≡ map view items ++ view v ∷ [] = ap (map view) e ∙ map_push view items v in
      subst (λ (vs : List Data). AreWrittenAs text (take (k + 1) xs) vs) (sym values) (subst (λ (ys : List A). AreWrittenAs text ys (map view items ++ view v ∷ [])) (sym front) (one_more (take k xs) (map view items) x (view v) h p))

-- ---- the report

abbrev report_laid : List ℕ → List ℕ → List ℕ
report_laid f t = codes "{\"operators\":" ++ f ++ codes ",\"rows\":" ++ t ++ codes "}"

abbrev report_nested : List ℕ → List ℕ → List ℕ
report_nested f t = codes "{\"operators\":" ++ (f ++ (codes ",\"rows\":" ++ (t ++ codes "}")))

report_is_laid : (f t : List ℕ) → report_nested f t ≡ report_laid f t
report_is_laid f t = simp append_assoc

report_text_is : (operators rows : Data) (f t : List ℕ) → compact_text operators ≡ f → compact_text rows ≡ t → compact_text (report_data operators rows) ≡ report_laid f t
unfolding serde_json_on_literals
report_text_is operators rows f t p q = ap₂ report_nested p q ∙ report_is_laid f t

pub report_written : (value operators rows : Data) (f t : List ℕ) → value ≡ report_data operators rows → IsWrittenAs f operators → IsWrittenAs t rows → IsWrittenAs (report_laid f t) value
report_written value operators rows f t e p q = record {
  text_is = ap compact_text e ∙ report_text_is operators rows f t p.text_is q.text_is;
  no_float = ap has_float e ∙ no_floats (has_float operators) (has_float rows) p.no_float q.no_float;
}

-- the report ends with a line feed
pub report_ended : (f t : List ℕ) → report_laid f t ++ codes "\n" ≡ codes "{\"operators\":" ++ f ++ codes ",\"rows\":" ++ t ++ codes "}\n"
report_ended f t = simp append_assoc
