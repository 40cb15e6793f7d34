-- Lines that say something of any kind: how they are read one by one, and that they decide what is read and which is the first bad one.
use Rattle.std.proofs.Common.{◌≡◌, ℕ, suc, ◌+◌, List, [], ◌∷◌, ◌++◌, length, inl, inr, sym, ap, subst, ◌∙◌, refl, arith, length-append, append_assoc}
use Rattle.std.proofs.lemmas.List.{append-nil}
use Rattle.std.specs.List.{AllByRecursion}
use Rattle.std.proofs.lemmas.List.Elements.{All-from_recursion, recursion_from_All, All-nil, All-cons}
use Rattle.triplet_text.specs.Lines.{IsSkipped, IsGoodFor, AreSaid, end, skipped, read, AddsSaid, IsFirstBadFrom}

module _ {A : Type 0} (Says : List ℕ → A → Type 0) where
  abbrev pub IsGoodLine : List ℕ → Type 0
  IsGoodLine = IsGoodFor Says

  -- ---- one by one

  pub joined : {xs : List (List ℕ)} {a : List A} → AreSaid Says xs a → (ys : List (List ℕ)) (b : List A) → AreSaid Says ys b → AreSaid Says (xs ++ ys) (a ++ b)
  joined end ys b r = r
  joined (skipped s rest) ys b r = skipped s (joined rest ys b r)
  joined (read f rest) ys b r = read f (joined rest ys b r)

  pub good_lines : {lines : List (List ℕ)} {list : List A} → AreSaid Says lines list → AllByRecursion IsGoodLine lines
  good_lines end = tt
  good_lines (skipped s rest) = (inl s, good_lines rest)
  good_lines (read {x = x} r rest) = (inr (x, r), good_lines rest)

  -- the lines before line k are read, counted from first on, and what they say is listed; the further ones are left
  pub record AreSaidBefore (first : ℕ) (lines left : List (List ℕ)) (k : ℕ) (list : List A) : Type 0 where
    pub before : List (List ℕ)
    pub cut : lines ≡ before ++ left
    pub number : k ≡ length before + first
    pub read : AreSaid Says before list

  pub none_said : (first : ℕ) (lines : List (List ℕ)) → AreSaidBefore first lines lines first []
  none_said first lines = record { before = []; cut = refl; number = omega arith; read = end }

  pub one_more : (first : ℕ) (lines left : List (List ℕ)) (line : List ℕ) (k : ℕ) (old new : List A) → AreSaidBefore first lines (line ∷ left) k old → AddsSaid Says (line ∷ []) old new → AreSaidBefore first lines left (k + 1) new
  one_more first lines left line k old new h a = record {
    before = h.before ++ line ∷ [];
    cut = h.cut ∙ sym (append_assoc h.before (line ∷ []) left);
    number = omega (arith, length-append h.before (line ∷ []), h.number);
    read = subst (AreSaid Says (h.before ++ line ∷ [])) (sym a.grown) (joined h.read (line ∷ []) a.added a.read);
  }

  pub all_read : (first : ℕ) (lines : List (List ℕ)) (k : ℕ) (list : List A) → AreSaidBefore first lines [] k list → AreSaid Says lines list
  all_read first lines k list h = subst (λ l. AreSaid Says l list) (sym (h.cut ∙ append-nil h.before)) h.read

  pub first_bad : (Bad : List ℕ → Type 0) (first : ℕ) (lines left : List (List ℕ)) (line : List ℕ) (k n : ℕ) (list : List A) → AreSaidBefore first lines (line ∷ left) k list → n ≡ k → Bad line → IsFirstBadFrom first IsGoodLine Bad lines n
  first_bad Bad first lines left line k n list h e b = record { before = h.before; line = line; after = left; cut = h.cut; good = All-from_recursion IsGoodLine h.before (good_lines h.read); number = e ∙ h.number; bad = b }

  -- ---- there is one first bad line

  -- no good line is one of these
  abbrev pub AreBadLines : (List ℕ → Type 0) → Type 0
  AreBadLines Bad = (line : List ℕ) → IsGoodLine line → Bad line → ⊥

  bad_among : (Bad : List ℕ → Type 0) (before after : List (List ℕ)) (line : List ℕ) → AreBadLines Bad → AllByRecursion IsGoodLine (before ++ line ∷ after) → Bad line → ⊥
  bad_among Bad [] after line bad g b = bad line g.0 b
  bad_among Bad (first ∷ before) after line bad g b = bad_among Bad before after line bad g.1 b

  where_bad : (Bad Other : List ℕ → Type 0) (xs ys after rest : List (List ℕ)) (a b : List ℕ) → AreBadLines Bad → AreBadLines Other → xs ++ a ∷ after ≡ ys ++ b ∷ rest → AllByRecursion IsGoodLine xs → AllByRecursion IsGoodLine ys → Bad a → Other b
      → (length xs ≡ length ys) × (a ≡ b)
  where_bad Bad Other [] [] after rest a b bad other e g h p q = (refl, cc)
  where_bad Bad Other [] (first ∷ ys) after rest a b bad other e g h p q = let d : first ≡ a = cc in absurd (bad a (subst IsGoodLine d h.0) p)
  where_bad Bad Other (first ∷ xs) [] after rest a b bad other e g h p q = let d : first ≡ b = cc in absurd (other b (subst IsGoodLine d g.0) q)
  where_bad Bad Other (first ∷ xs) (second ∷ ys) after rest a b bad other e g h p q =
      let d : xs ++ a ∷ after ≡ ys ++ b ∷ rest = cc in
      let k = where_bad Bad Other xs ys after rest a b bad other d g.1 h.1 p q in
      (ap suc k.0, k.1)

  -- where every line is good, none is the first bad one
  pub none_bad : (Bad : List ℕ → Type 0) (first : ℕ) (lines : List (List ℕ)) (list : List A) (k : ℕ) → AreBadLines Bad → AreSaid Says lines list → IsFirstBadFrom first IsGoodLine Bad lines k → ⊥
  none_bad Bad first lines list k bad r f = bad_among Bad f.before f.after f.line bad (subst (AllByRecursion IsGoodLine) f.cut (good_lines r)) f.bad

  -- two first bad lines have one number, and are one line
  pub same_place : (Bad Other : List ℕ → Type 0) (first : ℕ) (lines : List (List ℕ)) (j k : ℕ) → AreBadLines Bad → AreBadLines Other → (f : IsFirstBadFrom first IsGoodLine Bad lines j) → (g : IsFirstBadFrom first IsGoodLine Other lines k) → (j ≡ k) × (f.line ≡ g.line)
  same_place Bad Other first lines j k bad other f g =
      let e = where_bad Bad Other f.before g.before f.after g.after f.line g.line bad other (sym f.cut ∙ g.cut) (recursion_from_All IsGoodLine f.before f.good) (recursion_from_All IsGoodLine g.before g.good) f.bad g.bad in
      (f.number ∙ ap (λ n. n + first) e.0 ∙ sym g.number, e.1)

  -- ---- so the answer is one

  -- a line that is skipped says nothing, and another one thing at most
  pub record SayOneThing : Type 0 where
    pub kept : (line : List ℕ) (x : A) → Says line x → ¬ IsSkipped line
    pub one : (line : List ℕ) (x y : A) → Says line x → Says line y → x ≡ y

  pub same_list : SayOneThing → (lines : List (List ℕ)) (a b : List A) → AreSaid Says lines a → AreSaid Says lines b → a ≡ b
  same_list o [] a b end end = refl
  same_list o (line ∷ lines) a b (skipped s p) (skipped t q) = same_list o lines a b p q
  same_list o (line ∷ lines) a b (skipped s p) (read {x = y} r q) = absurd (o.kept line y r s)
  same_list o (line ∷ lines) a b (read {x = x} r p) (skipped s q) = absurd (o.kept line x r s)
  same_list o (line ∷ lines) a b (read {x = x} {list = list} r p) (read {x = y} {list = other} s q) =
      let head = o.one line x y r s in
      let tail = same_list o lines list other p q in
      λ i. head i ∷ tail i

  -- ---- and there is one

  pub bad_at_once : (Bad : List ℕ → Type 0) (first : ℕ) (line : List ℕ) (lines : List (List ℕ)) → Bad line → IsFirstBadFrom first IsGoodLine Bad (line ∷ lines) first
  bad_at_once Bad first line lines b = record { before = []; line = line; after = lines; cut = refl; good = All-nil IsGoodLine; number = omega arith; bad = b }

  pub bad_later : (Bad : List ℕ → Type 0) (first : ℕ) (line : List ℕ) (lines : List (List ℕ)) (k : ℕ) → IsGoodLine line → IsFirstBadFrom first IsGoodLine Bad lines k → IsFirstBadFrom first IsGoodLine Bad (line ∷ lines) (k + 1)
  bad_later Bad first line lines k g f = record {
    before = line ∷ f.before;
    line = f.line;
    after = f.after;
    cut = ap (λ (l : List (List ℕ)). line ∷ l) f.cut;
    good = All-cons IsGoodLine line f.before g f.good;
    number = omega (arith, f.number);
    bad = f.bad;
  }

  pub more_said : (line : List ℕ) (lines : List (List ℕ)) → IsGoodLine line → ((list : List A) × AreSaid Says lines list) → (list : List A) × AreSaid Says (line ∷ lines) list
  more_said line lines (inl s) r = (r.0, skipped s r.1)
  more_said line lines (inr g) r = (g.0 ∷ r.0, read g.1 r.1)
