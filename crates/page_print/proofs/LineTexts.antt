-- Laws of texts with a line for each element.
use Rattle.std.proofs.Common.{◌≡◌, ℕ, suc, List, [], ◌∷◌, ◌++◌, Contains, refl, ap₂, subst, arith}
use Rattle.std.proofs.lemmas.List.{append-nil}
use Rattle.page_print.specs.Lines.{AreLines}

module _ {A : Type 0} (IsLine : A → List ℕ → Type 0) where
  -- the lines of one element
  pub one_line : (x : A) (line : List ℕ) → IsLine x line → AreLines IsLine (x ∷ []) line
  one_line x line p = subst (AreLines IsLine (x ∷ [])) (append-nil line) (AreLines.line p AreLines.end)

  -- where each element has a line, there is such a text
  pub some_lines : (xs : List A) → ((x : A) → Contains xs x → (line : List ℕ) × IsLine x line) → (text : List ℕ) × AreLines IsLine xs text
  some_lines [] each = ([], AreLines.end)
  some_lines (x ∷ xs) each =
      let first = each x (0, omega arith, refl) in
      let later = some_lines xs (λ y c. each y (suc c.0, omega (arith, c.1), c.2)) in
      (first.0 ++ later.0, AreLines.line first.1 later.1)

  -- where each element has one line at most, there is one such text at most
  pub one_text : ((x : A) (l m : List ℕ) → IsLine x l → IsLine x m → l ≡ m) → (xs : List A) (s t : List ℕ) → AreLines IsLine xs s → AreLines IsLine xs t → s ≡ t
  one_text same [] s t AreLines.end AreLines.end = refl
  one_text same (x ∷ xs) s t (AreLines.line {first = l} {text = a} p more) (AreLines.line {first = m} {text = b} q others) = ap₂ (λ u v. u ++ v) (same x l m p q) (one_text same xs a b more others)
