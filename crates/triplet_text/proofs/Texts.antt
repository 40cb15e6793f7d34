-- Bytes of a text that all pass or all fail, blanks at its ends, and its first byte that passes.
use Rattle.std.proofs.Common.{◌≡◌, ◌⊎◌, inl, inr, ℕ, ◌+◌, Bool, true, false, List, [], ◌∷◌, ◌++◌, length, take, drop, Some, None, refl, sym, ap, ◌∙◌, arith, length-append, append_assoc, ltb}
use Rattle.std.specs.List.{AllByRecursion, position_or_len}
use Rattle.std.proofs.lemmas.List.{take_at, drop_at, append-nil}
use Rattle.std.proofs.lemmas.Bool.{lt-ltb}
use Rattle.std.proofs.lemmas.Bool.Decides.{nat_tests}
use Rattle.triplet_text.specs.Bytes.{is_blank}
use Rattle.triplet_text.specs.Pieces.{onto, trim_start, trim_end, trim, cut}
use Rattle.triplet_text.specs.Tokens.{Each}

-- no byte passes
abbrev pub Lacks : (ℕ → Bool) → List ℕ → Type 0
Lacks passes text = AllByRecursion (λ byte. passes byte ≡ false) text

module _ (P : ℕ → Type 0) where
  pub all_joined : (xs ys : List ℕ) → AllByRecursion P xs → AllByRecursion P ys → AllByRecursion P (xs ++ ys)
  all_joined [] ys p q = q
  all_joined (x ∷ xs) ys p q = (p.0, all_joined xs ys p.1 q)

  pub all_front : (xs ys : List ℕ) → AllByRecursion P (xs ++ ys) → AllByRecursion P xs
  all_front [] ys p = tt
  all_front (x ∷ xs) ys p = (p.0, all_front xs ys p.1)

  pub all_back : (xs ys : List ℕ) → AllByRecursion P (xs ++ ys) → AllByRecursion P ys
  all_back [] ys p = p
  all_back (x ∷ xs) ys p = all_back xs ys p.1

  pub all_mapped : (Q : ℕ → Type 0) → ((x : ℕ) → P x → Q x) → (xs : List ℕ) → AllByRecursion P xs → AllByRecursion Q xs
  all_mapped Q f [] p = tt
  all_mapped Q f (x ∷ xs) p = (f x p.0, all_mapped Q f xs p.1)

-- ---- blanks at the ends

start_dropped : (blanks text : List ℕ) → Each is_blank blanks → trim_start (blanks ++ text) ≡ trim_start text
start_dropped [] text h = refl
start_dropped (byte ∷ blanks) text h = rw h.0 (start_dropped blanks text h.1)

pub blanks_dropped : (blanks : List ℕ) → Each is_blank blanks → trim_end blanks ≡ []
blanks_dropped [] h = refl
blanks_dropped (byte ∷ blanks) h = ap (onto byte) (blanks_dropped blanks h.1) ∙ rw h.0 refl

end_dropped : (text blanks : List ℕ) → Each is_blank blanks → trim_end (text ++ blanks) ≡ trim_end text
end_dropped [] blanks h = blanks_dropped blanks h
end_dropped (byte ∷ text) blanks h = ap (onto byte) (end_dropped text blanks h)

pub start_kept : (byte : ℕ) (text : List ℕ) → is_blank byte ≡ false → trim_start (byte ∷ text) ≡ byte ∷ text
start_kept byte text h = rw h refl

pub solid_kept : (text : List ℕ) → Lacks is_blank text → trim_end text ≡ text
solid_kept [] h = refl
solid_kept (byte ∷ []) h = rw h.0 refl
solid_kept (byte ∷ next ∷ text) h = ap (onto byte) (solid_kept (next ∷ text) h.1)

-- further bytes before the last ones
pub end_behind : (front : List ℕ) (byte : ℕ) (text : List ℕ) → trim_end (byte ∷ text) ≡ byte ∷ text → trim_end (front ++ byte ∷ text) ≡ front ++ byte ∷ text
end_behind [] byte text h = h
end_behind (first ∷ []) byte text h = ap (onto first) (end_behind [] byte text h)
end_behind (first ∷ second ∷ front) byte text h = ap (onto first) (end_behind (second ∷ front) byte text h)

pub trim_start_is : (before : List ℕ) (byte : ℕ) (text : List ℕ) → Each is_blank before → is_blank byte ≡ false → trim_start (before ++ byte ∷ text) ≡ byte ∷ text
trim_start_is before byte text h solid = start_dropped before (byte ∷ text) h ∙ start_kept byte text solid

pub trim_end_is : (text after : List ℕ) → Each is_blank after → trim_end text ≡ text → trim_end (text ++ after) ≡ text
trim_end_is text after h kept = end_dropped text after h ∙ kept

-- a text between blanks, which begins and ends with none
pub trim_is : (before : List ℕ) (byte : ℕ) (text after : List ℕ) → Each is_blank before → Each is_blank after → is_blank byte ≡ false → trim_end (byte ∷ text) ≡ byte ∷ text → trim (before ++ byte ∷ (text ++ after)) ≡ byte ∷ text
trim_is before byte text after h g solid kept = ap trim_end (trim_start_is before byte (text ++ after) h solid) ∙ trim_end_is (byte ∷ text) after g kept

pub trim_blanks : (blanks : List ℕ) → Each is_blank blanks → trim blanks ≡ []
trim_blanks blanks h = ap (λ (text : List ℕ). trim_end (trim_start text)) (sym (append-nil blanks)) ∙ ap trim_end (start_dropped blanks [] h)

start_cut_by : (b : Bool) (byte : ℕ) (text : List ℕ) → is_blank byte ≡ b → (before : List ℕ) → text ≡ before ++ trim_start text → Each is_blank before → (all : List ℕ) × (byte ∷ text ≡ all ++ trim_start (byte ∷ text)) × Each is_blank all
start_cut_by true byte text e before cut h = (byte ∷ before, rw e (ap (λ (t : List ℕ). byte ∷ t) cut), (e, h))
start_cut_by false byte text e before cut h = ([], rw e refl, tt)

pub start_cut : (text : List ℕ) → (before : List ℕ) × (text ≡ before ++ trim_start text) × Each is_blank before
start_cut [] = ([], refl, tt)
start_cut (byte ∷ text) = let i = start_cut text in start_cut_by (is_blank byte) byte text refl i.0 i.1 i.2

end_cut_by : (b : Bool) (byte : ℕ) (text trimmed : List ℕ) → is_blank byte ≡ b → (after : List ℕ) → text ≡ trimmed ++ after → Each is_blank after → (all : List ℕ) × (byte ∷ text ≡ onto byte trimmed ++ all) × Each is_blank all
end_cut_by true byte text [] e after cut h = (byte ∷ after, rw e (ap (λ (t : List ℕ). byte ∷ t) cut), (e, h))
end_cut_by false byte text [] e after cut h = (after, rw e (ap (λ (t : List ℕ). byte ∷ t) cut), h)
end_cut_by b byte text (next ∷ trimmed) e after cut h = (after, ap (λ (t : List ℕ). byte ∷ t) cut, h)

pub end_cut : (text : List ℕ) → (after : List ℕ) × (text ≡ trim_end text ++ after) × Each is_blank after
end_cut [] = ([], refl, tt)
end_cut (byte ∷ text) = let i = end_cut text in end_cut_by (is_blank byte) byte text (trim_end text) refl i.0 i.1 i.2

-- a text is what it is trimmed to, between blanks
pub record IsTrimmed (text trimmed : List ℕ) : Type 0 where
  pub before : List ℕ
  pub after : List ℕ
  pub cut : text ≡ before ++ (trimmed ++ after)
  pub blank_before : Each is_blank before
  pub blank_after : Each is_blank after

pub is_trimmed : (text : List ℕ) → IsTrimmed text (trim text)
is_trimmed text =
    let s = start_cut text in
    let e = end_cut (trim_start text) in
    record { before = s.0; after = e.0; cut = s.1 ∙ ap (λ (t : List ℕ). s.0 ++ t) e.1; blank_before = s.2; blank_after = e.2 }

-- ---- the first byte that passes

module _ (passes : ℕ → Bool) where
  place : (front : List ℕ) (byte : ℕ) (back : List ℕ) → Lacks passes front → passes byte ≡ true → position_or_len passes (front ++ byte ∷ back) ≡ length front
  place [] byte back h p = rw p refl
  place (first ∷ front) byte back h p = rw (h.0, place front byte back h.1 p) (omega arith)

  no_place : (text : List ℕ) → Lacks passes text → position_or_len passes text ≡ length text
  no_place [] h = refl
  no_place (byte ∷ text) h = rw (h.0, no_place text h.1) (omega arith)

  pub cut_first : (front : List ℕ) (byte : ℕ) (back : List ℕ) → Lacks passes front → passes byte ≡ true → cut passes (front ++ byte ∷ back) ≡ Some (front, back)
  cut_first front byte back h p =
      let at = place front byte back h p in
      let lt : ltb (length front) (length (front ++ byte ∷ back)) ≡ true = lt-ltb _ _ (omega (arith, length-append front (byte ∷ back))) in
      let one : take (length front) (front ++ byte ∷ back) ≡ front = take_at front (byte ∷ back) (length front) refl in
      let two : drop (length front + 1) (front ++ byte ∷ back) ≡ back = ap (drop (length front + 1)) (sym (append_assoc front (byte ∷ []) back)) ∙ drop_at (front ++ byte ∷ []) back (length front + 1) (omega (arith, length-append front (byte ∷ []))) in
      rw (at, lt, one, two) refl

  pub cut_nowhere : (text : List ℕ) → Lacks passes text → cut passes text ≡ None
  cut_nowhere text h =
      let end : ltb (length text) (length text) ≡ false = grind (arith, nat_tests) in
      rw (no_place text h, end) refl

  -- a text with its first byte that passes
  pub record HasFirst (text : List ℕ) : Type 0 where
    pub front : List ℕ
    pub byte : ℕ
    pub back : List ℕ
    pub cut : text ≡ front ++ byte ∷ back
    pub passed : passes byte ≡ true
    pub lacks : Lacks passes front

  pub first_or_none : (text : List ℕ) → HasFirst text ⊎ Lacks passes text
  first_or_none [] = inr tt
  first_or_none (byte ∷ text) = by (passes byte) refl (first_or_none text)
    where
      by : (b : Bool) → passes byte ≡ b → HasFirst text ⊎ Lacks passes text → HasFirst (byte ∷ text) ⊎ Lacks passes (byte ∷ text)
      by true e i = inl (record { front = []; byte = byte; back = text; cut = refl; passed = e; lacks = tt })
      by false e (inl f) = inl (record { front = byte ∷ f.front; byte = f.byte; back = f.back; cut = ap (λ (t : List ℕ). byte ∷ t) f.cut; passed = f.passed; lacks = (e, f.lacks) })
      by false e (inr l) = inr (e, l)
