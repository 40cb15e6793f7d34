-- Whether two keys are one.
use Rattle.std.proofs.Common.{◌≡◌, ◌↔◌, ◌&&◌, ℕ, Bool, true, false, IsTrue, ap, sym, ◌∙◌, refl}
use Rattle.std.proofs.lemmas.Bool.{false≢true}
use Rattle.lattice_algebra.specs.Matrix.{Matrix, Column}
use Rattle.lattice_algebra.specs.Operator.{Operator}
use Rattle.lattice_algebra.proofs.Equality.{matrix_eq, matrix_eq-is, column_eq, operator_eq, operator_eq-is}
use Rattle.affine_sets.specs.Averages.{KeyOver}

abbrev made : Matrix → Column → ℕ → KeyOver
made m t n = record { key = record { m = m; t = t }; over = n }

pub matrix_differs : (p q : KeyOver) (m n : Matrix) (t u : Column) (a b : ℕ) → made m t a ≡ p → made n u b ≡ q → matrix_eq m n ≡ false → IsTrue false ↔ (p ≡ q)
matrix_differs p q m n t u a b e f d = (
  (λ x. absurd (false≢true x)),
  (λ x. absurd (false≢true (sym d ∙ (matrix_eq-is m n (matrix_eq m n) refl).1 (ap (λ (k : KeyOver). k.key.m) (e ∙ x ∙ sym f))))),
)

pub column_decides : (p q : KeyOver) (m n : Matrix) (t u : Column) (a b : ℕ) (r : Bool) → made m t a ≡ p → made n u b ≡ q → a ≡ b → matrix_eq m n ≡ true → r ≡ column_eq t u → IsTrue r ↔ (p ≡ q)
column_decides p q m n t u a b r e f o d c = ((λ x. sym e ∙ both ((matrix_eq-is m n (matrix_eq m n) refl).0 d) (columns (sym c ∙ x)) ∙ f), (λ x. c ∙ back (ap (λ (k : KeyOver). k.key.t) (e ∙ x ∙ sym f))))
  where
    both : m ≡ n → t ≡ u → made m t a ≡ made n u b
    both g h = λ i. made (g i) (h i) (o i)

    -- columns by way of operators with one matrix
    f0 : Column → Operator
    f0 c = record { w = m; t = c }

    test : (c d : Column) → column_eq c d ≡ operator_eq (f0 c) (f0 d)
    test c d = ap (λ b. b && column_eq c d) (sym ((matrix_eq-is m m (matrix_eq m m) refl).1 refl))

    columns : column_eq t u ≡ true → t ≡ u
    columns x = ap (λ (g : Operator). g.t) ((operator_eq-is (f0 t) (f0 u) (operator_eq (f0 t) (f0 u)) refl).0 (sym (test t u) ∙ x))

    back : t ≡ u → column_eq t u ≡ true
    back x = test t u ∙ (operator_eq-is (f0 t) (f0 u) (operator_eq (f0 t) (f0 u)) refl).1 (ap f0 x)
