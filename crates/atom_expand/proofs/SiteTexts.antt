-- The text of expanded sites: it is one, and there is one.
use Rattle.std.proofs.Common.{◌≡◌, ℕ, ◌+◌, ◌≤◌, List, [], ◌∷◌, ◌++◌, length, drop, slice_get, Some, refl, sym, ap, ap₂, subst, ◌∙◌, append_assoc}
use Rattle.std.proofs.lemmas.List.{drop_all, drop_more}
use Rattle.std.proofs.lemmas.Option.{slice_get_within, get_or_from_slice_get}
use Rattle.lattice_algebra.specs.Point.{Point}
use Rattle.triplet_text.specs.Bytes.{space, line_feed}
use Rattle.page_print.specs.Lines.{AreLines}
use Rattle.page_print.proofs.LineTexts.{some_lines, one_text}
use Rattle.page_print.proofs.PartTexts.{some_then, one_under}
use Rattle.atom_expand.specs.declared.expansion.Expanded.{Expanded}
use Rattle.atom_expand.specs.declared.expansion.Expanded.TheVariants.{First, Same}
use Rattle.atom_expand.specs.Sites.{AtomSite}
use Rattle.atom_expand.specs.Printing.{IsPointLine, IsEntryText, Numbered, IsAtomText, numbered, IsAtomsText}

-- four texts that were added behind a word with spaces between them, and the end of the line
point_added : (l word k x y z : List ℕ) → ((((((((l ++ word) ++ k) ++ space ∷ []) ++ x) ++ space ∷ []) ++ y) ++ space ∷ []) ++ z) ++ line_feed ∷ [] ≡ l ++ (word ++ k ++ space ∷ x ++ space ∷ y ++ space ∷ z ++ line_feed ∷ [])
point_added l word k x y z = simp append_assoc

pub point_pushed : (l l1 l2 l3 l4 l5 l6 l7 l8 l9 word k x y z j u v w : List ℕ) → l1 ≡ l ++ word → l2 ≡ l1 ++ k → l3 ≡ l2 ++ space ∷ [] → l4 ≡ l3 ++ x → l5 ≡ l4 ++ space ∷ [] → l6 ≡ l5 ++ y → l7 ≡ l6 ++ space ∷ [] → l8 ≡ l7 ++ z → l9 ≡ l8 ++ line_feed ∷ []
    → k ≡ j → x ≡ u → y ≡ v → z ≡ w → l9 ≡ l ++ (word ++ j ++ space ∷ u ++ space ∷ v ++ space ∷ w ++ line_feed ∷ [])
point_pushed l l1 l2 l3 l4 l5 l6 l7 l8 l9 word k x y z j u v w e1 e2 e3 e4 e5 e6 e7 e8 e9 h f g i = let all = point_added l word k x y z in cc

-- ---- one text, and one only

pub some_points : (number : ℕ) (points : List Point) → (text : List ℕ) × AreLines (IsPointLine number) points text
some_points number points = some_lines (IsPointLine number) points (λ p m. (_, refl))

pub some_site_text : (n : Numbered) → (text : List ℕ) × IsAtomText n text
some_site_text n = by n.entry
  where
    by : (entry : Expanded) → (text : List ℕ) × IsEntryText n.number n.site.label entry text
    by (First points) = some_then (_, refl) (some_points n.number points)
    by (Same j) = (_, refl)

pub some_text : (sites : List Numbered) → (text : List ℕ) × AreLines IsAtomText sites text
some_text sites = some_lines IsAtomText sites (λ n m. some_site_text n)

pub some_atoms_text : (sites : List AtomSite) (entries : List Expanded) → (text : List ℕ) × IsAtomsText sites entries text
some_atoms_text sites entries = some_text (numbered 1 sites entries)

one_site_text : (n : Numbered) (s t : List ℕ) → IsAtomText n s → IsAtomText n t → s ≡ t
one_site_text n = by n.entry
  where
    by : (entry : Expanded) (s t : List ℕ) → IsEntryText n.number n.site.label entry s → IsEntryText n.number n.site.label entry t → s ≡ t
    by (First points) = one_under {Q = AreLines (IsPointLine n.number) points} (one_text (IsPointLine n.number) (λ p l m a b. a ∙ sym b) points)
    by (Same j) = λ s t p q. p ∙ sym q

pub one_atoms_text : (sites : List AtomSite) (entries : List Expanded) (s t : List ℕ) → IsAtomsText sites entries s → IsAtomsText sites entries t → s ≡ t
one_atoms_text sites entries = one_text IsAtomText one_site_text (numbered 1 sites entries)

-- ---- the sites from a place on

pub numbered_cut : (sites : List AtomSite) (entries : List Expanded) (k number : ℕ) (site : AtomSite) (entry : Expanded) → slice_get sites k ≡ Some site → slice_get entries k ≡ Some entry
    → numbered number (drop k sites) (drop k entries) ≡ record { number = number; site = site; entry = entry } ∷ numbered (number + 1) (drop (k + 1) sites) (drop (k + 1) entries)
numbered_cut sites entries k number site entry s e =
    let one = drop_more sites k site (slice_get_within sites k site s) ∙ ap (λ y. y ∷ drop (k + 1) sites) (get_or_from_slice_get sites k site site s) in
    let two = drop_more entries k entry (slice_get_within entries k entry e) ∙ ap (λ y. y ∷ drop (k + 1) entries) (get_or_from_slice_get entries k entry entry e) in
    ap₂ (numbered number) one two

pub none_left : (sites : List AtomSite) (entries : List Expanded) (k number : ℕ) → length sites ≤ k → AreLines IsAtomText (numbered number (drop k sites) (drop k entries)) []
none_left sites entries k number l = subst (λ xs. AreLines IsAtomText (numbered number xs (drop k entries)) []) (sym (drop_all k sites l)) AreLines.end

-- the text of a site stands before that of those behind it
pub site_before : (sites : List AtomSite) (entries : List Expanded) (k number : ℕ) (site : AtomSite) (entry : Expanded) → slice_get sites k ≡ Some site → slice_get entries k ≡ Some entry
    → (text rest : List ℕ) → IsEntryText number site.label entry text → AreLines IsAtomText (numbered (number + 1) (drop (k + 1) sites) (drop (k + 1) entries)) rest → AreLines IsAtomText (numbered number (drop k sites) (drop k entries)) (text ++ rest)
site_before sites entries k number site entry s e text rest t r = subst (λ xs. AreLines IsAtomText xs (text ++ rest)) (sym (numbered_cut sites entries k number site entry s e)) (AreLines.line t r)
