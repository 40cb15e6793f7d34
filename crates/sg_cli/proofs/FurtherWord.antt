-- Arguments of one length, behind which a further word may stand: they are one at most, and whether they stand is decided.
use Rattle.std.specs.Prelude.{if◌then◌else◌}
use Rattle.std.proofs.Common.{◌≡◌, ◌⊎◌, ℕ, Bool, true, false, List, [], ◌∷◌, ◌++◌, length, take, drop, inl, inr, ⊎_elim, refl, sym, ap, subst, ◌∙◌, take-append-drop}
use Rattle.std.specs.Str.{bytes_eq}
use Rattle.std.proofs.lemmas.Slice.Eq.{bytes_eq-Decides}
use Rattle.std.proofs.lemmas.Bool.{cases_Bool, false≢true}
use Rattle.std.proofs.lemmas.List.{take_at}
use Rattle.std.proofs.Math.Seq.{drop-append_seam}
use Rattle.sg_cli.specs.Words.{MayEndWith}

pub is_alone : (word : List ℕ) (words : List (List ℕ)) → (words ≡ word ∷ []) ⊎ (words ≡ word ∷ [] → ⊥)
is_alone word [] = inr (λ e. absurd cc)
is_alone word (first ∷ []) =
    ⊎_elim
    (λ t. inl (ap (λ (w : List ℕ). w ∷ []) ((bytes_eq-Decides first word).0 t)))
    (λ f. inr (λ e. let same : first ≡ word = cc in false≢true (sym f ∙ (bytes_eq-Decides first word).1 same)))
    (cases_Bool (bytes_eq first word))
is_alone word (first ∷ second ∷ more) = inr (λ e. absurd cc)

module _ {A : Type 0} (word : List ℕ) (n : ℕ) (Are : A → List (List ℕ) → Type 0) (long : (a : A) (words : List (List ℕ)) → Are a words → length words ≡ n) where
  abbrev tail : Bool → List (List ℕ)
  tail further = if further then word ∷ [] else []

  front : (a : A) (c : Bool) (words : List (List ℕ)) → MayEndWith word (Are a) words c → Are a (take n words)
  front a c words p = subst (Are a) (sym (ap (take n) p.words_are ∙ take_at p.arguments (tail c) n (long a p.arguments p.are))) p.are

  back : (a : A) (c : Bool) (words : List (List ℕ)) → MayEndWith word (Are a) words c → drop n words ≡ tail c
  back a c words p = ap (drop n) p.words_are ∙ subst (λ k. drop k (p.arguments ++ tail c) ≡ tail c) (long a p.arguments p.are) (drop-append_seam p.arguments (tail c))

  one_tail : (c d : Bool) (words : List (List ℕ)) → words ≡ tail c → words ≡ tail d → c ≡ d
  one_tail true true words p q = refl
  one_tail true false words p q = let e = sym p ∙ q in absurd cc
  one_tail false true words p q = let e = sym p ∙ q in absurd cc
  one_tail false false words p q = refl

  pub one_may_end : ((a b : A) (words : List (List ℕ)) → Are a words → Are b words → a ≡ b) → (g h : A × Bool) (words : List (List ℕ)) → MayEndWith word (Are g.0) words g.1 → MayEndWith word (Are h.0) words h.1 → g ≡ h
  one_may_end one g h words p q =
      let same = one g.0 h.0 (take n words) (front g.0 g.1 words p) (front h.0 h.1 words q) in
      let further = one_tail g.1 h.1 (drop n words) (back g.0 g.1 words p) (back h.0 h.1 words q) in
      λ i. (same i, further i)

  abbrev MayEndOrNot : List (List ℕ) → Type 0
  MayEndOrNot words = ((g : A × Bool) × MayEndWith word (Are g.0) words g.1) ⊎ ((g : A × Bool) → MayEndWith word (Are g.0) words g.1 → ⊥)

  pub may_end_or_not : ((words : List (List ℕ)) → ((a : A) × Are a words) ⊎ ((a : A) → Are a words → ⊥)) → (words : List (List ℕ)) → MayEndOrNot words
  may_end_or_not which words = by (which (take n words)) (is_tail (drop n words))
    where
      is_tail : (rest : List (List ℕ)) → ((c : Bool) × (rest ≡ tail c)) ⊎ ((c : Bool) → rest ≡ tail c → ⊥)
      is_tail [] = inl (false, refl)
      is_tail (first ∷ more) = ⊎_elim (λ e. inl (true, e)) (λ n. inr (λ c. no c n)) (is_alone word (first ∷ more))
        where
          no : (c : Bool) → (first ∷ more ≡ word ∷ [] → ⊥) → first ∷ more ≡ tail c → ⊥
          no true n e = n e
          no false n e = absurd cc

      by : ((a : A) × Are a (take n words)) ⊎ ((a : A) → Are a (take n words) → ⊥) → ((c : Bool) × (drop n words ≡ tail c)) ⊎ ((c : Bool) → drop n words ≡ tail c → ⊥) → MayEndOrNot words
      by (inl a) (inl c) = inl ((a.0, c.0), record { arguments = take n words; are = a.1; words_are = sym (take-append-drop n words) ∙ ap (λ (t : List (List ℕ)). take n words ++ t) c.1 })
      by (inl a) (inr none) = inr (λ g p. none g.1 (back g.0 g.1 words p))
      by (inr none) c = inr (λ g p. none g.0 (front g.0 g.1 words p))
