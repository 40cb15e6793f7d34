-- Three texts are one triple of numbers at most, and whether they are one in range is decided, where this is so of each text.
use Rattle.std.proofs.Common.{◌≡◌, ◌⊎◌, List, ℕ, inl, inr, sym, ap, subst, ◌∙◌}
use Rattle.sg_cli.specs.Words.{AreNumbersOf}
use Rattle.sg_cli.proofs.ThreeWords.{SaidOrNone}

module _ {N A : Type 0} (Is : List ℕ → N → Type 0) (numbers : A → N × N × N) (IsInRange : A → Type 0) (one : (text : List ℕ) (m n : N) → Is text m → Is text n → m ≡ n) (of : N × N × N → A) (of_numbers : (a : A) → of (numbers a) ≡ a) where
  abbrev Are : List ℕ → List ℕ → List ℕ → A → Type 0
  Are = AreNumbersOf Is numbers IsInRange

  same_numbers : (x y z : List ℕ) (a : A) (n : N × N × N) → Are x y z a → Is x n.0 → Is y n.1 → Is z n.2 → of n ≡ a
  same_numbers x y z a n h p q r =
      let e = one x n.0 (numbers a).0 p h.first in
      let f = one y n.1 (numbers a).1 q h.second in
      let g = one z n.2 (numbers a).2 r h.third in
      ap of (λ i. (e i, f i, g i)) ∙ of_numbers a

  pub one_of_numbers : (x y z : List ℕ) (a b : A) → Are x y z a → Are x y z b → a ≡ b
  one_of_numbers x y z a b p q = sym (same_numbers x y z a (numbers b) p q.first q.second q.third) ∙ of_numbers b

  module _ (numbers_of : (n : N × N × N) → numbers (of n) ≡ n) (which : (text : List ℕ) → ((n : N) × Is text n) ⊎ ((n : N) → Is text n → ⊥)) (range : (a : A) → IsInRange a ⊎ (IsInRange a → ⊥)) where
    said : (x y z : List ℕ) (n : N × N × N) → Is x n.0 → Is y n.1 → Is z n.2 → IsInRange (of n) ⊎ (IsInRange (of n) → ⊥) → SaidOrNone Are x y z
    said x y z n p q r (inl in_range) =
        let e = sym (numbers_of n) in
        inl (of n, record { first = subst (λ (m : N × N × N). Is x m.0) e p; second = subst (λ (m : N × N × N). Is y m.1) e q; third = subst (λ (m : N × N × N). Is z m.2) e r; in_range = in_range })
    said x y z n p q r (inr none) = inr (λ a h. none (subst IsInRange (sym (same_numbers x y z a n h p q r)) h.in_range))

    pub numbers_or_none : (x y z : List ℕ) → SaidOrNone Are x y z
    numbers_or_none x y z = by (which x) (which y) (which z)
      where
        by : ((n : N) × Is x n) ⊎ ((n : N) → Is x n → ⊥) → ((n : N) × Is y n) ⊎ ((n : N) → Is y n → ⊥) → ((n : N) × Is z n) ⊎ ((n : N) → Is z n → ⊥) → SaidOrNone Are x y z
        by (inl a) (inl b) (inl c) = let n : N × N × N = (a.0, b.0, c.0) in said x y z n a.1 b.1 c.1 (range (of n))
        by (inr none) b c = inr (λ a h. none (numbers a).0 h.first)
        by (inl a) (inr none) c = inr (λ a h. none (numbers a).1 h.second)
        by (inl a) (inl b) (inr none) = inr (λ a h. none (numbers a).2 h.third)
