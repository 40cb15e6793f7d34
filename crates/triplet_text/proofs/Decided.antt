-- Which texts are coordinates or triplets, and which lines are good, is decided: so lines are read, or one of them is the first bad one.
use Rattle.std.proofs.Common.{◌≡◌, ◌⊎◌, ◌+◌, ◌≤◌, ℕ, ℤ, pos, negsuc, List, [], ◌∷◌, length, Option, Some, None, int_eq, refl, sym, ◌∙◌, inl, inr, ⊎_elim}
use Rattle.std.specs.Cmp.{signed_Decides}
use Rattle.std.proofs.lemmas.Bool.{cases_Bool, cases_lt, false≢true}
use Rattle.lattice_algebra.specs.Matrix.{Matrix, IsUnimodular, det}
use Rattle.lattice_algebra.specs.Operator.{Operator}
use Rattle.lattice_algebra.proofs.Matrices.{IsUnimodular-det, det-IsUnimodular}
use Rattle.triplet_text.specs.declared.coordinate.TheConstants.{COORDINATE_LENGTH}
use Rattle.triplet_text.specs.Coordinates.{IsCoordinate, signed_of}
use Rattle.triplet_text.specs.Pieces.{is_skipped}
use Rattle.triplet_text.specs.Triplets.{triplet_of}
use Rattle.triplet_text.specs.Grammar.{IsTriplet}
use Rattle.triplet_text.specs.Lines.{IsSkipped, IsGood, IsRead, AreRead, end, IsFirstBad, IsUnreadable, IsNotUnimodular}
use Rattle.triplet_text.proofs.CoordinateLaw.{coordinate_to, coordinate_from, too_long}
use Rattle.triplet_text.proofs.GrammarLaw.{triplet_to, triplet_from}
use Rattle.triplet_text.proofs.LineSteps.{skipped_from, not_skipped}
use Rattle.triplet_text.proofs.SaidLines.{bad_at_once, bad_later, more_said}

-- ---- coordinates

abbrev pub CoordinateOrNone : List ℕ → Type 0
CoordinateOrNone text = ((c : ℤ × ℤ) × IsCoordinate text c.0 c.1) ⊎ ((n d : ℤ) → IsCoordinate text n d → ⊥)

found_or_none : (text : List ℕ) (o : Option (ℤ × ℤ)) → length text ≤ COORDINATE_LENGTH → signed_of text ≡ o → CoordinateOrNone text
found_or_none text (Some c) short e = inl (c, coordinate_from text c short e)
found_or_none text None short e = inr (λ n d h. let k = coordinate_to text n d h in absurd cc)

pub coordinate_or_none : (text : List ℕ) → CoordinateOrNone text
coordinate_or_none text = ⊎_elim (λ long. inr (λ n d h. too_long text long (n, d, h))) (λ short. found_or_none text (signed_of text) short refl) (cases_lt COORDINATE_LENGTH (length text))

-- ---- triplets

abbrev pub TripletOrNone : List ℕ → Type 0
TripletOrNone text = ((f : Operator) × IsTriplet text f) ⊎ ((f : Operator) → IsTriplet text f → ⊥)

pub triplet_or_none : (text : List ℕ) → TripletOrNone text
triplet_or_none text = by (triplet_of text) refl
  where
    by : (o : Option Operator) → triplet_of text ≡ o → TripletOrNone text
    by (Some f) e = inl (f, triplet_from text f e)
    by None e = inr (λ f t. let k = triplet_to text f t in absurd cc)

-- ---- lines

pub unimodular_or_not : (m : Matrix) → IsUnimodular m ⊎ (IsUnimodular m → ⊥)
unimodular_or_not m = by (is (pos 1)) (is (negsuc 0))
  where
    is : (d : ℤ) → (det m ≡ d) ⊎ (det m ≡ d → ⊥)
    is d = ⊎_elim (λ t. inl ((signed_Decides (det m) d).0 t)) (λ f. inr (λ e. false≢true (sym f ∙ (signed_Decides (det m) d).1 e))) (cases_Bool (int_eq (det m) d))

    by : (det m ≡ pos 1) ⊎ (det m ≡ pos 1 → ⊥) → (det m ≡ negsuc 0) ⊎ (det m ≡ negsuc 0 → ⊥) → IsUnimodular m ⊎ (IsUnimodular m → ⊥)
    by (inl e) q = inl (det-IsUnimodular m (inl e))
    by (inr n) (inl e) = inl (det-IsUnimodular m (inr e))
    by (inr n) (inr k) = inr (λ u. ⊎_elim n k (IsUnimodular-det m u))

abbrev GoodOrBad : List ℕ → Type 0
GoodOrBad line = IsGood line ⊎ (IsUnreadable line ⊎ IsNotUnimodular line)

kept_line : (line : List ℕ) (o : Option Operator) → (IsSkipped line → ⊥) → triplet_of line ≡ o → GoodOrBad line
kept_line line (Some f) kept e =
    let t = triplet_from line f e in
    ⊎_elim (λ u. inl (inr (f, record { kept = kept; triplet = t; unimodular = u }))) (λ n. inr (inr (record { kept = kept; operator = f; triplet = t; not_unimodular = n }))) (unimodular_or_not f.w)
kept_line line None kept e = inr (inl (record { kept = kept; no_triplet = λ f t. let k = triplet_to line f t in absurd cc }))

good_or_bad : (line : List ℕ) → GoodOrBad line
good_or_bad line = ⊎_elim (λ s. inl (inl (skipped_from line s))) (λ k. kept_line line (triplet_of line) (not_skipped line (is_skipped line) refl k) refl) (cases_Bool (is_skipped line))

-- the lines are read, or one of them is the first bad one
abbrev pub ReadOrBad : List (List ℕ) → Type 0
ReadOrBad lines = ((list : List Operator) × AreRead lines list) ⊎ (((k : ℕ) × IsFirstBad IsUnreadable lines k) ⊎ ((k : ℕ) × IsFirstBad IsNotUnimodular lines k))

one_more_line : (line : List ℕ) (lines : List (List ℕ)) → GoodOrBad line → ReadOrBad lines → ReadOrBad (line ∷ lines)
one_more_line line lines (inl g) (inl r) = inl (more_said IsRead line lines g r)
one_more_line line lines (inl g) (inr (inl b)) = inr (inl (b.0 + 1, bad_later IsRead IsUnreadable 1 line lines b.0 g b.1))
one_more_line line lines (inl g) (inr (inr b)) = inr (inr (b.0 + 1, bad_later IsRead IsNotUnimodular 1 line lines b.0 g b.1))
one_more_line line lines (inr (inl u)) rest = inr (inl (1, bad_at_once IsRead IsUnreadable 1 line lines u))
one_more_line line lines (inr (inr n)) rest = inr (inr (1, bad_at_once IsRead IsNotUnimodular 1 line lines n))

pub read_or_bad : (lines : List (List ℕ)) → ReadOrBad lines
read_or_bad [] = inl ([], end)
read_or_bad (line ∷ lines) = one_more_line line lines (good_or_bad line) (read_or_bad lines)
