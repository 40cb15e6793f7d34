-- Three words are what they say at most once, and whether they say it is decided, where this is so of their texts.
use Rattle.std.proofs.Common.{◌≡◌, ◌⊎◌, ◌∷◌, [], List, ℕ, Bool, codes, length, inl, inr, ap, sym, ◌∙◌, subst, arith}
use Rattle.sg_cli.specs.Words.{AreThree, MayEndWith, three_with}

same_texts : (x y z u v t : List ℕ) → x ∷ y ∷ z ∷ [] ≡ u ∷ v ∷ t ∷ [] → (x ≡ u) × (y ≡ v) × (z ≡ t)
same_texts x y z u v t e = (cc, cc, cc)

module _ {A : Type 0} (Say : List ℕ → List ℕ → List ℕ → A → Type 0) where
  -- what is said of three texts is said of the three that they are
  pub moved_texts : (x y z u v t : List ℕ) (a : A) → x ∷ y ∷ z ∷ [] ≡ u ∷ v ∷ t ∷ [] → Say x y z a → Say u v t a
  moved_texts x y z u v t a e h =
      let s = same_texts x y z u v t e in
      subst (λ r. Say u v r a) s.2 (subst (λ r. Say u r z a) s.1 (subst (λ r. Say r y z a) s.0 h))

  -- what is said of no three such texts is said of no three words that they are
  pub not_three : (words : List (List ℕ)) (x y z u v t : List ℕ) → words ≡ x ∷ y ∷ z ∷ [] → u ≡ x → v ≡ y → t ≡ z → ((a : A) → Say u v t a → ⊥) → (a : A) → AreThree Say words a → ⊥
  not_three words x y z u v t e p q r none a h = none a (moved_texts h.x h.y h.z u v t a (sym h.words_are ∙ e ∙ λ i. sym p i ∷ sym q i ∷ sym r i ∷ []) h.say)

  -- three words that say this, and Friedel pairs apart or not
  pub three_and_further : (words : List (List ℕ)) (x y z : List ℕ) (apart : Bool) (a : A) → words ≡ three_with x y z apart → Say x y z a → MayEndWith (codes "anomalous") (λ three. AreThree Say three a) words apart
  three_and_further words x y z apart a e said = record {
    arguments = x ∷ y ∷ z ∷ [];
    are = record { x = x; y = y; z = z; words_are = λ _. x ∷ y ∷ z ∷ []; say = said };
    words_are = e;
  }

  pub three_long : (a : A) (words : List (List ℕ)) → AreThree Say words a → length words ≡ 3
  three_long a words h = ap length h.words_are

  pub one_of_three : ((x y z : List ℕ) (a b : A) → Say x y z a → Say x y z b → a ≡ b) → (a b : A) (words : List (List ℕ)) → AreThree Say words a → AreThree Say words b → a ≡ b
  one_of_three one a b words h k = one k.x k.y k.z a b (moved_texts h.x h.y h.z k.x k.y k.z a (sym h.words_are ∙ k.words_are) h.say) k.say

  abbrev pub SaidOrNone : List ℕ → List ℕ → List ℕ → Type 0
  SaidOrNone x y z = ((a : A) × Say x y z a) ⊎ ((a : A) → Say x y z a → ⊥)

  abbrev pub ThreeOrNone : List (List ℕ) → Type 0
  ThreeOrNone words = ((a : A) × AreThree Say words a) ⊎ ((a : A) → AreThree Say words a → ⊥)

  no_three : (words : List (List ℕ)) → (length words ≡ 3 → ⊥) → (a : A) → AreThree Say words a → ⊥
  no_three words n a h = n (three_long a words h)

  these_three : (x y z : List ℕ) → SaidOrNone x y z → ThreeOrNone (x ∷ y ∷ z ∷ [])
  these_three x y z (inl s) = inl (s.0, record { x = x; y = y; z = z; words_are = λ _. x ∷ y ∷ z ∷ []; say = s.1 })
  these_three x y z (inr n) = inr (λ a h. n a (moved_texts h.x h.y h.z x y z a (sym h.words_are) h.say))

  pub three_or_none : ((x y z : List ℕ) → SaidOrNone x y z) → (words : List (List ℕ)) → ThreeOrNone words
  three_or_none each [] = inr (no_three [] (λ e. omega arith))
  three_or_none each (x ∷ []) = inr (no_three (x ∷ []) (λ e. omega arith))
  three_or_none each (x ∷ y ∷ []) = inr (no_three (x ∷ y ∷ []) (λ e. omega arith))
  three_or_none each (x ∷ y ∷ z ∷ []) = these_three x y z (each x y z)
  three_or_none each (x ∷ y ∷ z ∷ more ∷ rest) = inr (no_three (x ∷ y ∷ z ∷ more ∷ rest) (λ e. omega arith))
