-- A line cut at its first field.
use Rattle.std.proofs.Common.{◌≡◌, ◌==◌, ℕ, ◌+◌, ◌-◌, ◌<◌, Bool, true, false, List, [], ◌∷◌, length, take, drop, Some, None, refl, sym, ap, subst, ◌∙◌, arith, length-take}
use Rattle.std.specs.List.{slice_split, onto_first, position, filter}
use Rattle.std.proofs.lemmas.Bool.{lt-ltb}
use Rattle.std.proofs.lemmas.List.Splits.{slice_split-cons_yes, slice_split-cons_no}
use Rattle.std.specs.Prelude.{nat_lt}
use Rattle.triplet_text.specs.Bytes.{is_blank}
use Rattle.triplet_text.specs.Pieces.{trim_start}
use Rattle.triplet_text.proofs.Cuts.{cut_some, cut_none}
use Rattle.data_lines.specs.Fields.{fields_of}

abbrev with_bytes : List (List ℕ) → List (List ℕ)
with_bytes pieces = filter (λ field. nat_lt 0 (length field)) pieces

-- a blank before the text makes no field
blank_before : (byte : ℕ) (text : List ℕ) → is_blank byte ≡ true → fields_of (byte ∷ text) ≡ fields_of text
blank_before byte text h = ap with_bytes (slice_split-cons_yes is_blank byte text h)

kept_by : (b : Bool) (byte : ℕ) (text : List ℕ) → is_blank byte ≡ b → fields_of (trim_start text) ≡ fields_of text → fields_of (trim_start (byte ∷ text)) ≡ fields_of (byte ∷ text)
kept_by true byte text h i = ap fields_of (trimmed_more byte text h) ∙ i ∙ sym (blank_before byte text h)
  where
    trimmed_more : (byte : ℕ) (text : List ℕ) → is_blank byte ≡ true → trim_start (byte ∷ text) ≡ trim_start text
    trimmed_more byte text h = rw h refl
kept_by false byte text h i = ap fields_of (trimmed_none byte text h)
  where
    trimmed_none : (byte : ℕ) (text : List ℕ) → is_blank byte ≡ false → trim_start (byte ∷ text) ≡ byte ∷ text
    trimmed_none byte text h = rw h refl

start_trimmed : (text : List ℕ) → fields_of (trim_start text) ≡ fields_of text
start_trimmed [] = refl
start_trimmed (byte ∷ text) = kept_by (is_blank byte) byte text refl (start_trimmed text)

-- ---- the first piece of a text that begins with no blank

begins : (byte : ℕ) (parts : List (List ℕ)) (first : List ℕ) (more : List (List ℕ)) → onto_first byte parts ≡ first ∷ more → 0 < length first
begins byte [] first more e = let is : byte ∷ [] ≡ first = cc in omega (arith, ap length is)
begins byte (part ∷ parts) first more e = let is : byte ∷ part ≡ first = cc in omega (arith, ap length is)

begins_by : (b : Bool) (byte : ℕ) (text first : List ℕ) (more : List (List ℕ)) → is_blank byte ≡ b → (slice_split is_blank (trim_start text) ≡ first ∷ more → 0 < length (trim_start text) → 0 < length first) → slice_split is_blank (trim_start (byte ∷ text)) ≡ first ∷ more → 0 < length (trim_start (byte ∷ text))
    → 0 < length first
begins_by true byte text first more h i e l = i (rw h at e) (rw h at l)
begins_by false byte text first more h i e l = let f : slice_split is_blank (byte ∷ text) ≡ first ∷ more = rw h at e in begins byte (slice_split is_blank text) first more (sym (slice_split-cons_no is_blank byte text h) ∙ f)

some_bytes : (text first : List ℕ) (more : List (List ℕ)) → slice_split is_blank (trim_start text) ≡ first ∷ more → 0 < length (trim_start text) → 0 < length first
some_bytes [] first more e l = absurd (omega arith)
some_bytes (byte ∷ text) first more e l = begins_by (is_blank byte) byte text first more refl (some_bytes text first more) e l

with_first : (first : List ℕ) (more : List (List ℕ)) → 0 < length first → with_bytes (first ∷ more) ≡ first ∷ with_bytes more
with_first first more l = rw (lt-ltb 0 (length first) l) refl

pub some_left : (text : List ℕ) → (length text == 0) ≡ false → 0 < length text
some_left [] e = absurd cc
some_left (byte ∷ text) e = omega arith

module _ (text trimmed : List ℕ) (is : trimmed ≡ trim_start text) where
  pub no_field : length trimmed ≡ 0 → fields_of text ≡ []
  no_field e = sym (start_trimmed text) ∙ empty (trim_start text) (sym (ap length is) ∙ e)
    where
      empty : (t : List ℕ) → length t ≡ 0 → fields_of t ≡ []
      empty [] e = refl
      empty (byte ∷ t) e = absurd (omega arith)

  cut_first : 0 < length trimmed → (first : List ℕ) (more : List (List ℕ)) → slice_split is_blank trimmed ≡ first ∷ more → fields_of text ≡ first ∷ with_bytes more
  cut_first l first more e =
      let some = some_bytes text first more (ap (slice_split is_blank) (sym is) ∙ e) (subst (λ t. 0 < length t) is l) in
      sym (start_trimmed text) ∙ ap fields_of (sym is) ∙ ap with_bytes e ∙ with_first first more some

  pub last_field : 0 < length trimmed → position is_blank trimmed ≡ None → fields_of text ≡ trimmed ∷ fields_of (take (length trimmed - length trimmed) (drop (length trimmed) trimmed))
  last_field l e = cut_first l trimmed [] (cut_none is_blank trimmed e) ∙ ap (λ (fields : List (List ℕ)). trimmed ∷ fields) (sym (ap fields_of (nothing trimmed)))
    where
      empty : (t : List ℕ) → length t ≡ 0 → t ≡ []
      empty [] e = refl
      empty (byte ∷ t) e = absurd (omega arith)

      nothing : (t : List ℕ) → take (length t - length t) (drop (length t) t) ≡ []
      nothing t = empty _ (omega (arith, length-take (length t - length t) (drop (length t) t)))

  pub next_field : 0 < length trimmed → (at : ℕ) → position is_blank trimmed ≡ Some at → fields_of text ≡ take at trimmed ∷ fields_of (take (length trimmed - (at + 1)) (drop (at + 1) trimmed))
  next_field l at e = cut_first l (take at trimmed) _ (cut_some is_blank trimmed at e)
