-- Data lines decide what is read: their values are one list, or one of them is the first bad one.
use Rattle.std.proofs.Common.{◌≡◌, ◌⊎◌, ◌+◌, ◌≤◌, ◌==◌, arith, length, ℕ, false, List, [], ◌∷◌, map, get_or, refl, sym, subst, inl, inr, ⊎_elim}
use Rattle.std.proofs.lemmas.Bool.{cases_Bool}
use Rattle.std.proofs.lemmas.List.Splits.{length-slice_split}
use Rattle.std.proofs.lemmas.List.Sums.{count_by-le-length}
use Rattle.triplet_text.specs.Bytes.{line_feed}
use Rattle.triplet_text.specs.Pieces.{is_skipped}
use Rattle.triplet_text.specs.Lines.{lines_of, end, skipped, read}
use Rattle.triplet_text.proofs.LineSteps.{skipped_from, not_skipped}
use Rattle.triplet_text.proofs.SaidLines as said
use Rattle.triplet_text.proofs.SaidLines.{IsGoodLine, AreBadLines, SayOneThing}
use Rattle.data_lines.specs.DataLines.{IsDataLine, IsWrittenLine, IsBadLine, AreWritten, IsFirstSuch}

module _ {A : Type 0} (IsWritten : List ℕ → A → Type 0) where
  abbrev IsSaid : List ℕ → A → Type 0
  IsSaid = IsDataLine IsWritten

  bad_are_bad : AreBadLines IsSaid (IsBadLine IsWritten)
  bad_are_bad line (inl s) b = absurd (b.kept s)
  bad_are_bad line (inr w) b = b.unwritten w.0 w.1.written

  -- where all lines are good, none is the first bad one
  pub no_bad_line : (first : ℕ) (lines : List (List ℕ)) (list : List A) (k : ℕ) → AreWritten IsWritten lines list → IsFirstSuch IsWritten (IsBadLine IsWritten) first lines k → ⊥
  no_bad_line first lines list k = said.none_bad IsSaid (IsBadLine IsWritten) first lines list k bad_are_bad

  -- there is one first bad line
  pub one_bad_line : (first : ℕ) (lines : List (List ℕ)) (j k : ℕ) → IsFirstSuch IsWritten (IsBadLine IsWritten) first lines j → IsFirstSuch IsWritten (IsBadLine IsWritten) first lines k → j ≡ k
  one_bad_line first lines j k f g = (said.same_place IsSaid (IsBadLine IsWritten) (IsBadLine IsWritten) first lines j k bad_are_bad bad_are_bad f g).0

  -- where a line writes one value at most, the values are one list
  pub same_values : ((line : List ℕ) (x y : A) → IsWritten line x → IsWritten line y → x ≡ y) → (lines : List (List ℕ)) (a b : List A) → AreWritten IsWritten lines a → AreWritten IsWritten lines b → a ≡ b
  same_values one = said.same_list IsSaid (record { kept = λ line x d. d.kept; one = λ line x y d e. one line x y d.written e.written })

  -- whether a line writes a value
  abbrev pub WrittenOrNot : List ℕ → Type 0
  WrittenOrNot line = ((x : A) × IsWritten line x) ⊎ ((x : A) → IsWritten line x → ⊥)

  abbrev pub WrittenOrBad : ℕ → List (List ℕ) → Type 0
  WrittenOrBad first lines = ((list : List A) × AreWritten IsWritten lines list) ⊎ ((k : ℕ) × IsFirstSuch IsWritten (IsBadLine IsWritten) first lines k)

  kept_line : (line : List ℕ) → is_skipped line ≡ false → WrittenOrNot line → IsGoodLine IsSaid line ⊎ IsBadLine IsWritten line
  kept_line line k (inl w) = inl (inr (w.0, record { kept = not_skipped line false (sym k) refl; written = w.1 }))
  kept_line line k (inr n) = inr (record { kept = not_skipped line false (sym k) refl; unwritten = n })

  good_or_bad : (line : List ℕ) → WrittenOrNot line → IsGoodLine IsSaid line ⊎ IsBadLine IsWritten line
  good_or_bad line w = ⊎_elim (λ s. inl (inl (skipped_from line s))) (λ k. kept_line line k w) (cases_Bool (is_skipped line))

  one_more_line : (first : ℕ) (line : List ℕ) (lines : List (List ℕ)) → IsGoodLine IsSaid line ⊎ IsBadLine IsWritten line → WrittenOrBad first lines → WrittenOrBad first (line ∷ lines)
  one_more_line first line lines (inr b) rest = inr (first, said.bad_at_once IsSaid (IsBadLine IsWritten) first line lines b)
  one_more_line first line lines (inl g) (inl r) = inl (said.more_said IsSaid line lines g r)
  one_more_line first line lines (inl g) (inr b) = inr (b.0 + 1, said.bad_later IsSaid (IsBadLine IsWritten) first line lines b.0 g b.1)

  -- where it is decided what a line writes, all are written or one is the first bad one
  pub written_or_bad : ((line : List ℕ) → WrittenOrNot line) → (first : ℕ) (lines : List (List ℕ)) → WrittenOrBad first lines
  written_or_bad decide first [] = inl ([], end)
  written_or_bad decide first (line ∷ lines) = one_more_line first line lines (good_or_bad line (decide line)) (written_or_bad decide first lines)

-- no more values are written than there are lines, and no more lines than bytes, and one
module _ {A : Type 0} {IsWritten : List ℕ → A → Type 0} where
  few_written : {lines : List (List ℕ)} {list : List A} → AreWritten IsWritten lines list → length list ≤ length lines
  few_written end = omega arith
  few_written (skipped s rest) = let l = few_written rest in omega (arith, l)
  few_written (read d rest) = let l = few_written rest in omega (arith, l)

  pub few_values : (bytes : List ℕ) (list : List A) → AreWritten IsWritten (lines_of bytes) list → length list ≤ length bytes + 1
  few_values bytes list w =
      let l = few_written w in
      let n = length-slice_split (λ byte. byte == line_feed) bytes in
      let c = count_by-le-length (λ byte. byte == line_feed) bytes in
      omega (arith, l, n, c)

-- values that are seen as others
module _ {A B : Type 0} (IsWritten : List ℕ → B → Type 0) (view : A → B) where
  abbrev IsSeenAs : List ℕ → A → Type 0
  IsSeenAs line x = IsWritten line (view x)

  pub seen_values : {lines : List (List ℕ)} {list : List A} → AreWritten IsSeenAs lines list → AreWritten IsWritten lines (map view list)
  seen_values end = end
  seen_values (skipped s rest) = skipped s (seen_values rest)
  seen_values (read d rest) = read (record { kept = d.kept; written = d.written }) (seen_values rest)

  -- where each value that a line writes is seen of one of the others
  module _ (onto : (line : List ℕ) (y : B) → IsWritten line y → (x : A) × (view x ≡ y)) where
    seen_good : (line : List ℕ) → IsGoodLine (IsDataLine IsSeenAs) line → IsGoodLine (IsDataLine IsWritten) line
    seen_good line (inl s) = inl s
    seen_good line (inr d) = inr (view d.0, record { kept = d.1.kept; written = d.1.written })

    seen_first : (IsSuch Such : List ℕ → Type 0) → ((line : List ℕ) → IsSuch line → Such line) → (first : ℕ) (lines : List (List ℕ)) (k : ℕ) → IsFirstSuch IsSeenAs IsSuch first lines k → IsFirstSuch IsWritten Such first lines k
    seen_first IsSuch Such to first lines k f = record {
      before = f.before;
      line = f.line;
      after = f.after;
      cut = f.cut;
      good = λ j d l. seen_good (get_or f.before j d) (f.good j d l);
      number = f.number;
      bad = to f.line f.bad;
    }

    pub seen_bad : (first : ℕ) (lines : List (List ℕ)) (k : ℕ) → IsFirstSuch IsSeenAs (IsBadLine IsSeenAs) first lines k → IsFirstSuch IsWritten (IsBadLine IsWritten) first lines k
    seen_bad =
        seen_first (IsBadLine IsSeenAs) (IsBadLine IsWritten)
        (λ line b. record { kept = b.kept; unwritten = λ y w. let o = onto line y w in b.unwritten o.0 (subst (IsWritten line) (sym o.1) w) })

    pub seen_written : (first : ℕ) (lines : List (List ℕ)) (k : ℕ) → IsFirstSuch IsSeenAs (IsWrittenLine IsSeenAs) first lines k → IsFirstSuch IsWritten (IsWrittenLine IsWritten) first lines k
    seen_written = seen_first (IsWrittenLine IsSeenAs) (IsWrittenLine IsWritten) (λ line w. record { kept = w.kept; value = view w.value; written = w.written })
