-- Sites that data lines write: one line writes one at most, and each is that of an Atom.
use Rattle.std.proofs.Common.{◌≡◌, ◌⊎◌, ◌<◌, ◌≤◌, ◌∷◌, [], ℕ, zero, suc, ℤ, pos, negsuc, ◌*ℤ◌, ◌+ℤ◌, ◌<ℤ◌, true, false, List, length, inl, inr, ap, subst, sym, ◌∙◌, refl, arith}
use Rattle.std.specs.Int.{int_div_euclid}
use Rattle.std.proofs.lemmas.Int.{ints}
use Rattle.lattice_algebra.proofs.Ring.{var, con, ◌⊗◌, ◌⊕◌, ring}
use Rattle.lattice_algebra.proofs.Remainders.{quotient_is}
use Rattle.exact_ops.specs.declared.TheConstants.{UNIT}
use Rattle.exact_ops.proofs.Narrow.{some_parts}
use Rattle.std.specs.List.{AllByRecursion}
use Rattle.std.proofs.lemmas.Bool.{cases_Bool, cases_lt, false≢true}
use Rattle.lattice_algebra.specs.Matrix.{coordinates}
use Rattle.triplet_text.specs.Points.{ArePointTexts}
use Rattle.triplet_text.proofs.PointTexts.{point_of_texts, point_texts_in_range, PointOrNone, point_or_none}
use Rattle.triplet_text.specs.Lines.{end, skipped, read}
use Rattle.triplet_text.specs.Tokens.{Each}
use Rattle.lattice_algebra.specs.Point.{Point}
use Rattle.exact_ops.specs.Points.{IsPointInRange}
use Rattle.orbit_map.specs.OrderedOrbit.{IsScaled}
use Rattle.atom_expand.specs.declared.TheConstants.{LABEL_LENGTH}
use Rattle.atom_expand.specs.Labels.{is_label_byte, IsLabel}
use Rattle.atom_expand.proofs.Places.{no_site}
use Rattle.data_lines.specs.Fields.{fields_of}
use Rattle.atom_expand.specs.declared.atom.Atom.{Atom}
use Rattle.data_lines.specs.declared.read.DataFault.{DataFault}
use Rattle.data_lines.specs.declared.read.DataFault.TheVariants.{Bad, NoMemory}
use Rattle.data_lines.specs.DataLines.{IsDataFaultOf}
use Rattle.data_lines.proofs.DataLaws.{seen_bad, seen_written, WrittenOrNot}
use Rattle.atom_expand.specs.Sites.{AtomSite, IsAtomLine, AreAtomLines, IsAtomFaultOf, site_in, atom_fault}

pub atom_of : (line : List ℕ) (site : AtomSite) → IsAtomLine line site → (atom : Atom) × (site_in atom ≡ site)
atom_of line site h = (record { label = site.label; at = record { n = coordinates site.at.n; d = site.at.d; in_range = point_texts_in_range h.x h.y h.z site.at h.at } }, refl)

pub one_site : (line : List ℕ) (a b : AtomSite) → IsAtomLine line a → IsAtomLine line b → a ≡ b
one_site line a b p q =
    let same : a.label ∷ p.x ∷ p.y ∷ p.z ∷ [] ≡ b.label ∷ q.x ∷ q.y ∷ q.z ∷ [] = sym p.fields ∙ q.fields in
    let l : a.label ≡ b.label = cc in
    let x : p.x ≡ q.x = cc in
    let y : p.y ≡ q.y = cc in
    let z : p.z ≡ q.z = cc in
    let moved = subst (λ t. ArePointTexts q.x q.y t a.at) z (subst (λ t. ArePointTexts q.x t p.z a.at) y (subst (λ t. ArePointTexts t p.y p.z a.at) x p.at)) in
    let at = point_of_texts q.x q.y q.z a.at b.at moved q.at in
    λ i. record { label = l i; at = at i }

pub fault_seen : (first : ℕ) (lines : List (List ℕ)) (fault : DataFault) → IsDataFaultOf (λ line (atom : Atom). IsAtomLine line (site_in atom)) first lines fault → IsAtomFaultOf first lines (atom_fault fault)
fault_seen first lines (Bad k) f = seen_bad IsAtomLine site_in atom_of first lines k f
fault_seen first lines NoMemory f = (f.0, seen_written IsAtomLine site_in atom_of first lines f.0 f.1)

-- ---- whether a line writes a site

label_bytes_or_not : (text : List ℕ) → Each is_label_byte text ⊎ (Each is_label_byte text → ⊥)
label_bytes_or_not [] = inl tt
label_bytes_or_not (byte ∷ text) = by (cases_Bool (is_label_byte byte)) (label_bytes_or_not text)
  where
    by : (is_label_byte byte ≡ true) ⊎ (is_label_byte byte ≡ false) → Each is_label_byte text ⊎ (Each is_label_byte text → ⊥) → Each is_label_byte (byte ∷ text) ⊎ (Each is_label_byte (byte ∷ text) → ⊥)
    by (inl t) (inl e) = inl (t, e)
    by (inl t) (inr n) = inr (λ h. n h.1)
    by (inr f) rest = inr (λ h. false≢true (sym f ∙ h.0))

label_or_not : (text : List ℕ) → IsLabel text ⊎ (IsLabel text → ⊥)
label_or_not text = by (cases_lt 0 (length text)) (cases_lt LABEL_LENGTH (length text)) (label_bytes_or_not text)
  where
    by : (0 < length text) ⊎ (length text ≤ 0) → (LABEL_LENGTH < length text) ⊎ (length text ≤ LABEL_LENGTH) → Each is_label_byte text ⊎ (Each is_label_byte text → ⊥) → IsLabel text ⊎ (IsLabel text → ⊥)
    by (inr none) l b = inr (λ h. let s = h.some in omega (arith, s, none))
    by (inl some) (inl long) b = inr (λ h. let s = h.short in omega (arith, s, long))
    by (inl some) (inr short) (inr n) = inr (λ h. n h.bytes)
    by (inl some) (inr short) (inl b) = inl (record { some = some; short = short; bytes = b })

four_or_not : (line : List ℕ) (fields : List (List ℕ)) → fields_of line ≡ fields → WrittenOrNot IsAtomLine line
four_or_not line (label ∷ x ∷ y ∷ z ∷ []) e = by (label_or_not label) (point_or_none x y z)
  where
    fields_same : (site : AtomSite) → (h : IsAtomLine line site) → site.label ∷ h.x ∷ h.y ∷ h.z ∷ [] ≡ label ∷ x ∷ y ∷ z ∷ []
    fields_same site h = sym h.fields ∙ e

    by : IsLabel label ⊎ (IsLabel label → ⊥) → PointOrNone x y z → WrittenOrNot IsAtomLine line
    by (inl l) (inl p) = inl (record { label = label; at = p.0 }, record { x = x; y = y; z = z; fields = e; label = l; at = p.1 })
    by (inr n) p = inr (λ site h. let f = fields_same site h in let same : site.label ≡ label = cc in n (subst IsLabel same h.label))
    by (inl l) (inr n) = inr (no_site line label x y z e n)
four_or_not line [] e = inr (λ site h. let f = sym h.fields ∙ e in absurd cc)
four_or_not line (a ∷ []) e = inr (λ site h. let f = sym h.fields ∙ e in absurd cc)
four_or_not line (a ∷ b ∷ []) e = inr (λ site h. let f = sym h.fields ∙ e in absurd cc)
four_or_not line (a ∷ b ∷ c ∷ []) e = inr (λ site h. let f = sym h.fields ∙ e in absurd cc)
four_or_not line (a ∷ b ∷ c ∷ d ∷ f ∷ more) e = inr (λ site h. let g = sym h.fields ∙ e in absurd cc)

pub site_or_not : (line : List ℕ) → WrittenOrNot IsAtomLine line
site_or_not line = four_or_not line (fields_of line) refl

-- ---- sites that lines write are at points over multiples of UNIT

whole_times : (q : ℤ) → pos 0 <ℤ (pos UNIT *ℤ q) → (k : ℕ) × (0 < k) × (q ≡ pos k)
whole_times (pos zero) h = absurd (omega (arith, ints))
whole_times (pos (suc k)) h = (suc k, omega arith, refl)
whole_times (negsuc k) h = absurd (omega (arith, ints))

pub scaled_of_range : (p : Point) → IsPointInRange p → IsScaled p
scaled_of_range p r =
    let q = int_div_euclid p.d (pos UNIT) in
    let whole : p.d ≡ pos UNIT *ℤ q =
    quotient_is UNIT some_parts p.d ∙ ap (λ v. v +ℤ pos UNIT *ℤ q) r.multiple ∙ ring (q ∷ []) (con (pos 0) ⊕ con (pos UNIT) ⊗ var 0) (con (pos UNIT) ⊗ var 0) tt in
    let k = whole_times q (subst (λ v. pos 0 <ℤ v) whole r.positive) in
    (record { n = p.n; d = k.0; some = k.1 }, λ i. record { n = p.n; d = (whole ∙ ap (λ v. pos UNIT *ℤ v) k.2) i })

pub written_scaled : {lines : List (List ℕ)} {sites : List AtomSite} → AreAtomLines lines sites → AllByRecursion (λ (site : AtomSite). IsScaled site.at) sites
written_scaled end = tt
written_scaled (skipped s rest) = written_scaled rest
written_scaled (read {line = line} {x = site} d rest) = (scaled_of_range site.at (point_texts_in_range d.written.x d.written.y d.written.z site.at d.written.at), written_scaled rest)
