-- One word or two are what they say at most once, and whether they say it is decided, where this is so of their texts.
use Rattle.std.proofs.Common.{◌≡◌, ◌⊎◌, ◌∷◌, [], List, ℕ, inl, inr, sym, subst, ◌∙◌}
use Rattle.sg_cli.specs.Words.{IsOne, AreTwo}

module _ {A : Type 0} (Say : List ℕ → A → Type 0) where
  moved_text : (x u : List ℕ) (a : A) → x ∷ [] ≡ u ∷ [] → Say x a → Say u a
  moved_text x u a e h = let same : x ≡ u = cc in subst (λ r. Say r a) same h

  -- what is said by no such text is said by no word that it is
  pub not_one : (words : List (List ℕ)) (x u : List ℕ) → words ≡ x ∷ [] → u ≡ x → ((a : A) → Say u a → ⊥) → (a : A) → IsOne Say words a → ⊥
  not_one words x u e p none a h = none a (moved_text h.text u a (sym h.words_are ∙ e ∙ λ i. sym p i ∷ []) h.say)

  pub one_of_one : ((x : List ℕ) (a b : A) → Say x a → Say x b → a ≡ b) → (a b : A) (words : List (List ℕ)) → IsOne Say words a → IsOne Say words b → a ≡ b
  one_of_one one a b words h k = one k.text a b (moved_text h.text k.text a (sym h.words_are ∙ k.words_are) h.say) k.say

  pub one_or_none : ((x : List ℕ) → ((a : A) × Say x a) ⊎ ((a : A) → Say x a → ⊥)) → (words : List (List ℕ)) → ((a : A) × IsOne Say words a) ⊎ ((a : A) → IsOne Say words a → ⊥)
  one_or_none each [] = inr (λ a h. let e = h.words_are in absurd cc)
  one_or_none each (x ∷ []) = by (each x)
    where
      by : ((a : A) × Say x a) ⊎ ((a : A) → Say x a → ⊥) → ((a : A) × IsOne Say (x ∷ []) a) ⊎ ((a : A) → IsOne Say (x ∷ []) a → ⊥)
      by (inl s) = inl (s.0, record { text = x; words_are = λ _. x ∷ []; say = s.1 })
      by (inr n) = inr (not_one (x ∷ []) x x (λ _. x ∷ []) (λ _. x) n)
  one_or_none each (x ∷ y ∷ rest) = inr (λ a h. let e = h.words_are in absurd cc)

module _ {A : Type 0} (Say : List ℕ → List ℕ → A → Type 0) where
  moved_texts : (x y u v : List ℕ) (a : A) → x ∷ y ∷ [] ≡ u ∷ v ∷ [] → Say x y a → Say u v a
  moved_texts x y u v a e h =
      let first : x ≡ u = cc in
      let second : y ≡ v = cc in
      subst (λ r. Say u r a) second (subst (λ r. Say r y a) first h)

  pub not_two : (words : List (List ℕ)) (x y u v : List ℕ) → words ≡ x ∷ y ∷ [] → u ≡ x → v ≡ y → ((a : A) → Say u v a → ⊥) → (a : A) → AreTwo Say words a → ⊥
  not_two words x y u v e p q none a h = none a (moved_texts h.x h.y u v a (sym h.words_are ∙ e ∙ λ i. sym p i ∷ sym q i ∷ []) h.say)

  pub one_of_two : ((x y : List ℕ) (a b : A) → Say x y a → Say x y b → a ≡ b) → (a b : A) (words : List (List ℕ)) → AreTwo Say words a → AreTwo Say words b → a ≡ b
  one_of_two one a b words h k = one k.x k.y a b (moved_texts h.x h.y k.x k.y a (sym h.words_are ∙ k.words_are) h.say) k.say

  pub two_or_none : ((x y : List ℕ) → ((a : A) × Say x y a) ⊎ ((a : A) → Say x y a → ⊥)) → (words : List (List ℕ)) → ((a : A) × AreTwo Say words a) ⊎ ((a : A) → AreTwo Say words a → ⊥)
  two_or_none each [] = inr (λ a h. let e = h.words_are in absurd cc)
  two_or_none each (x ∷ []) = inr (λ a h. let e = h.words_are in absurd cc)
  two_or_none each (x ∷ y ∷ []) = by (each x y)
    where
      by : ((a : A) × Say x y a) ⊎ ((a : A) → Say x y a → ⊥) → ((a : A) × AreTwo Say (x ∷ y ∷ []) a) ⊎ ((a : A) → AreTwo Say (x ∷ y ∷ []) a → ⊥)
      by (inl s) = inl (s.0, record { x = x; y = y; words_are = λ _. x ∷ y ∷ []; say = s.1 })
      by (inr n) = inr (not_two (x ∷ y ∷ []) x y x y (λ _. x ∷ y ∷ []) (λ _. x) (λ _. y) n)
  two_or_none each (x ∷ y ∷ z ∷ rest) = inr (λ a h. let e = h.words_are in absurd cc)
