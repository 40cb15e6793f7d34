-- The line of a row in free coordinates, piece by piece.
use Rattle.std.proofs.Common.{◌≡◌, ◌≤◌, ◌<◌, ◌*◌, ◌+◌, ◌^◌, ℕ, List, [], ◌∷◌, ◌++◌, ℤ, pos, unsigned_abs, slice_index_or, decimal, length, Result, Ok, Err, refl, sym, ap, ap₂, ◌∙◌, append_assoc, w32, w64, arith}
use Rattle.std.proofs.lemmas.Int.{ints}
use Rattle.std.proofs.lemmas.Option.{slice_get_within}
use Rattle.lattice_algebra.specs.Operator.{Operator, AreWithin, IsPart, identity_operator}
use Rattle.lattice_algebra.proofs.Machine.{back, kept}
use Rattle.exact_ops.specs.declared.TheConstants.{UNIT}
use Rattle.exact_ops.proofs.Narrow.{some_parts}
use Rattle.group_closure.specs.GroupList.{IsGroup}
use Rattle.space_groups.specs.Keys.{Key}
use Rattle.space_groups.specs.Rows.{Row}
use Rattle.parameter_forms.specs.declared.TheConstants.{MAX_OVER}
use Rattle.parameter_forms.specs.Forms.{Form, IsParameterForm, IsSameForm}
use Rattle.parameter_forms.specs.Finding.{IsKeptForm}
use Rattle.parameter_forms.proofs.OneForm.{one_form}
use Rattle.parameter_forms.proofs.SomeForm.{found_form, found_is}
use Rattle.sg_io.specs.declared.sink.SinkStop.{SinkStop}
use Rattle.sg_io.specs.Streams.{SeenSink}
use Rattle.page_print.specs.Printing.{GathersText}
use Rattle.triplet_text.specs.Bytes.{comma, space, line_feed}
use Rattle.triplet_text.specs.Printing.{component_text, with_commas, affine_text, HasPrintableComponents, IsSameMap}
use Rattle.triplet_text.proofs.AffineSame.{one_text_of_map}
use Rattle.table_print.specs.Rows.{lines_from}
use Rattle.table_print.specs.Params.{form_text, GivesForms, param_line, IsParamsText}

-- ---- pieces

-- three texts that were added with commas between them
form_added : (l a b c : List ℕ) → ((((l ++ a) ++ comma ∷ []) ++ b) ++ comma ∷ []) ++ c ≡ l ++ (a ++ comma ∷ b ++ comma ∷ c)
form_added l a b c = simp append_assoc

pub form_pushed : (l l1 l2 l3 l4 l5 a b c u v w : List ℕ) → l1 ≡ l ++ a → l2 ≡ l1 ++ comma ∷ [] → l3 ≡ l2 ++ b → l4 ≡ l3 ++ comma ∷ [] → l5 ≡ l4 ++ c → a ≡ u → b ≡ v → c ≡ w → l5 ≡ l ++ with_commas u v w
form_pushed l l1 l2 l3 l4 l5 a b c u v w e1 e2 e3 e4 e5 f g h = let all = form_added l a b c in cc

line_added : (l a b c : List ℕ) → (((((l ++ a) ++ space ∷ []) ++ b) ++ space ∷ []) ++ c) ++ line_feed ∷ [] ≡ l ++ ((a ++ space ∷ b ++ space ∷ c) ++ line_feed ∷ [])
line_added l a b c = simp append_assoc

pub line_pushed : (l l1 l2 l3 l4 l5 l6 a b u v w : List ℕ) → l1 ≡ l ++ a → l2 ≡ l1 ++ space ∷ [] → l3 ≡ l2 ++ b → l4 ≡ l3 ++ space ∷ [] → l5 ≡ l4 ++ w → l6 ≡ l5 ++ line_feed ∷ [] → a ≡ u → b ≡ v → l6 ≡ l ++ ((u ++ space ∷ v ++ space ∷ w) ++ line_feed ∷ [])
line_pushed l l1 l2 l3 l4 l5 l6 a b u v w e1 e2 e3 e4 e5 e6 f g = let all = line_added l a b w in cc

-- ---- a component

-- a number that was read from a list
abbrev read : List ℤ → ℕ → ℤ
read l i = back w32 (slice_index_or l i (pos 0))

pub component_read : (n o : ℕ) (b s : List ℤ) (i j k h : ℕ) (x y z t u : ℤ) → o ≡ n → AreWithin MAX_OVER x y z → unsigned_abs t ≤ UNIT * MAX_OVER
    → slice_index_or b i (pos 0) ≡ x → slice_index_or b j (pos 0) ≡ y → slice_index_or b k (pos 0) ≡ z → slice_index_or s h (pos 0) ≡ t → u ≡ read s h → component_text o (read b i) (read b j) (read b k) (back w64 u) ≡ component_text n x y z t
component_read n o b s i j k h x y z t u e small parts p q r m v =
    let x_is = ap (back w32) p ∙ kept w32 MAX_OVER x small.first tt in
    let y_is = ap (back w32) q ∙ kept w32 MAX_OVER y small.second tt in
    let z_is = ap (back w32) r ∙ kept w32 MAX_OVER z small.third tt in
    let t_is = ap (back w64) (v ∙ ap (back w32) m ∙ kept w32 (UNIT * MAX_OVER) t parts tt) ∙ kept w64 (UNIT * MAX_OVER) t parts tt in
    λ l. component_text (e l) (x_is l) (y_is l) (z_is l) (t_is l)

part_within : (n : ℕ) (x : ℤ) → n ≤ MAX_OVER → IsPart (UNIT * n) x → unsigned_abs x ≤ UNIT * MAX_OVER
part_within n x few p = omega (arith, ints, few, p.0, p.1)

pub shifts_within : (f : Form) → IsKeptForm f → AreWithin (UNIT * MAX_OVER) f.s.x f.s.y f.s.z
shifts_within f h = record { first = part_within f.over f.s.x h.over h.in_cell.x; second = part_within f.over f.s.y h.over h.in_cell.y; third = part_within f.over f.s.z h.over h.in_cell.z }

-- ---- forms of one key have one text

pub same_form_text : ((d e : ℕ) (f g : Operator) → 0 < d → 0 < e → IsSameMap d f e g → affine_text d f ≡ affine_text e g) → (n : ℕ) (p : Key) (f g : Form) → 0 < n → IsParameterForm UNIT n p f → IsParameterForm UNIT n p g → form_text f ≡ form_text g
same_form_text one_text n p f g some is also =
    let same = one_form UNIT n p f g some_parts some is also in
    one_text f.over g.over (record { w = f.b; t = f.s }) (record { w = g.b; t = g.s }) is.some also.some (record { matrix = same.matrix; translation = same.shift })

-- ---- a text has the numbers of one form

abbrev numbers_of_form : Form → Operator
numbers_of_form f = record { w = f.b; t = f.s }

entries_within : (x y z : ℤ) → AreWithin MAX_OVER x y z → AreWithin (2 ^ 31) x y z
entries_within x y z h = record { first = omega (arith, h.first); second = omega (arith, h.second); third = omega (arith, h.third) }

pub kept_printable : (f : Form) → IsKeptForm f → HasPrintableComponents f.over (numbers_of_form f)
kept_printable f h =
    let s = shifts_within f h in
    record {
      positive = h.some;
      over = omega (arith, h.over);
      entries = record { x = entries_within _ _ _ h.entries.x; y = entries_within _ _ _ h.entries.y; z = entries_within _ _ _ h.entries.z };
      parts = record { first = omega (arith, s.first); second = omega (arith, s.second); third = omega (arith, s.third) };
    }

pub one_form_of_text : ((d e : ℕ) (f g : Operator) → HasPrintableComponents d f → HasPrintableComponents e g → affine_text d f ≡ affine_text e g → IsSameMap d f e g) → (f g : Form) → IsKeptForm f → IsKeptForm g → form_text f ≡ form_text g → IsSameForm f g
one_form_of_text one_map f g p q same =
    let is = one_map f.over g.over (numbers_of_form f) (numbers_of_form g) (kept_printable f p) (kept_printable g q) same in
    record { matrix = is.matrix; shift = is.translation }

-- ---- the lines

pub found_gives : (n : ℕ) → 0 < n → GivesForms n (found_form UNIT n)
found_gives n some p = found_is UNIT n p some_parts some

module _ (one_text : (d e : ℕ) (f g : Operator) → 0 < d → 0 < e → IsSameMap d f e g → affine_text d f ≡ affine_text e g) (n : ℕ) (some : 0 < n) (form other : Key → Form) (gives : GivesForms n form) (also : GivesForms n other) where
  same_line : (k : ℕ) (row : Row) → param_line form k row ≡ param_line other k row
  same_line k row = ap (λ t. (decimal (k + 1) ++ space ∷ decimal row.mult ++ space ∷ t) ++ line_feed ∷ []) (same_form_text one_text n row.key (form row.key) (other row.key) some (gives row.key) (also row.key))

  pub same_lines : (k : ℕ) (rows : List Row) → lines_from (param_line form) k rows ≡ lines_from (param_line other) k rows
  same_lines k [] = refl
  same_lines k (row ∷ rest) = ap₂ (λ (s t : List ℕ). s ++ t) (same_line k row) (same_lines (k + 1) rest)

-- rows have one text of their forms
pub some_params_text : (members : List Operator) (rows : List Row) → IsGroup members → (text : List ℕ) × IsParamsText members rows text
some_params_text members rows g =
    let n = length members in
    let form = found_form UNIT n in
    (lines_from (param_line form) 0 rows, record { form = form; gives = found_gives n (slice_get_within members 0 identity_operator g.first); whole = refl })

pub one_params_text : (members : List Operator) (rows : List Row) → IsGroup members → (s t : List ℕ) → IsParamsText members rows s → IsParamsText members rows t → s ≡ t
one_params_text members rows g s t p q =
    let some : 0 < length members = slice_get_within members 0 identity_operator g.first in
    p.whole ∙ same_lines one_text_of_map (length members) some p.form q.form p.gives q.gives 0 rows ∙ sym q.whole

-- such a text was gathered, so one that is more was
module _ {K : Type 0} (sink : SeenSink K) (A B : List ℕ → Type 0) (more : (text : List ℕ) → A text → B text) (old new : K) (page now : List ℕ) where
  pub gathers_more : (result : Result (Unit {0}) SinkStop) → GathersText sink A old new page now result → GathersText sink B old new page now result
  gathers_more (Ok done) g = record { ok = (g.ok.0, more g.ok.0 g.ok.1, g.ok.2); err = tt; counts = g.counts }
  gathers_more (Err stop) g = record { ok = tt; err = (g.err.0, more g.err.0 g.err.1, g.err.2); counts = g.counts }
