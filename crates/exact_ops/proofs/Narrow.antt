-- When an operator that was computed is narrow.
use Rattle.std.proofs.Common.{◌≡◌, ◌<◌, ◌-◌, ap, sym, ◌∙◌, subst, arith, Bool, IsTrue, ◌↔◌, ◌++◌, ℤ, w32, to_z, of_z, FitsSigned}
use Rattle.std.proofs.lemmas.Int.{ints}
use Rattle.lattice_algebra.specs.Matrix.{Matrix, Column, entries, coordinates, ◌·◌, ◌·ᶜ◌, ◌+ᶜ◌, neg_column, origin, IsUnimodular, det, adjugate, scaled, inverse_matrix}
use Rattle.lattice_algebra.specs.Operator.{Operator, product, modulo, IsOperator, IsInverse, AreParts, AreWithin, HasEntriesWithin}
use Rattle.lattice_algebra.proofs.Matrices.{inverse_unique, inverse_matrix-·, ·-inverse_matrix}
use Rattle.lattice_algebra.proofs.MatrixRing.{matrix_at, column_at, ◌·ˢᶜ◌, ◌+ˢᶜ◌, sym_neg, sym_origin, column_ring}
use Rattle.lattice_algebra.proofs.Machine.{read}
use Rattle.lattice_algebra.proofs.Remainders.{modulo_parts}
use Rattle.lattice_algebra.proofs.Maps.{operator_path}
use Rattle.lattice_algebra.proofs.Operators.{IsOperator-product}
use Rattle.exact_ops.specs.declared.TheConstants.{UNIT, MAX_ENTRY}
use Rattle.exact_ops.specs.Narrow.{IsNarrow}

-- a cell has parts
pub some_parts : 0 < UNIT
some_parts = omega arith

-- numbers in the cell are below UNIT in size
pub AreWithin-parts : (c : Column) → AreParts UNIT c → AreWithin (UNIT - 1) c.x c.y c.z
AreWithin-parts c p =
    let x = p.x in
    let y = p.y in
    let z = p.z in
    record { first = omega (arith, ints); second = omega (arith, ints); third = omega (arith, ints) }

pub wider : (m : Matrix) → HasEntriesWithin 2 m → HasEntriesWithin MAX_ENTRY m
wider m h = omega arith

-- the operator with the numbers w and t, where they are those of f
pub narrow : (f : Operator) (w : Matrix) (t : Column) → w ≡ f.w → t ≡ f.t → IsOperator UNIT f → HasEntriesWithin 2 w → IsNarrow (record { w = w; t = t })
narrow f w t e d o s = record { is_operator = subst (IsOperator UNIT) (sym (operator_path (record { w = w; t = t }) f e d)) o; within_two = s }

pub IsNarrow-product : (f g : Operator) (w : Matrix) (t : Column) → IsOperator UNIT f → IsOperator UNIT g → w ≡ f.w · g.w → t ≡ modulo UNIT (f.w ·ᶜ g.t +ᶜ f.t) → HasEntriesWithin 2 w → IsNarrow (record { w = w; t = t })
unfolding product
IsNarrow-product f g w t p q e d s = narrow (product UNIT f g) w t e d (IsOperator-product UNIT some_parts f g p q) s

-- ---- what the code computes for the inverse

turned : (v : Matrix) (t : Column) → v ·ᶜ neg_column t +ᶜ origin ≡ neg_column (v ·ᶜ t)
unfolding ◌·ᶜ◌ ◌+ᶜ◌ neg_column
turned v t =
    column_ring (entries v ++ coordinates t) (matrix_at 0 ·ˢᶜ sym_neg (column_at 9) +ˢᶜ sym_origin) (sym_neg (matrix_at 0 ·ˢᶜ column_at 9)) tt

pub inverted : (f : Operator) (v : Matrix) (t : Column) → IsUnimodular f.w → v ≡ inverse_matrix f.w → t ≡ modulo UNIT (v ·ᶜ neg_column f.t +ᶜ origin) → IsInverse UNIT f (record { w = v; t = t })
inverted f v t u e d = record {
  left = ap (λ m. m · f.w) e ∙ inverse_matrix-· f.w u;
  right = ap (λ m. f.w · m) e ∙ ·-inverse_matrix f.w u;
  translation = d ∙ ap (modulo UNIT) (turned v f.t);
}

pub IsNarrow-inverse : (f : Operator) (w : Matrix) (t : Column) → IsInverse UNIT f (record { w = w; t = t }) → HasEntriesWithin 2 w → IsNarrow (record { w = w; t = t })
IsNarrow-inverse f w t i n = record {
  is_operator = record { unimodular = (f.w, i.left, i.right); in_cell = subst (AreParts UNIT) (sym i.translation) (modulo_parts UNIT some_parts (neg_column (w ·ᶜ f.t))) };
  within_two = n;
}

-- the test of the computed matrix is that of each inverse
pub inverse_test : (f : Operator) (v : Matrix) (r : Bool) → IsUnimodular f.w → v ≡ inverse_matrix f.w → IsTrue r ↔ HasEntriesWithin 2 v → (g : Operator) → IsInverse UNIT f g → IsTrue r ↔ HasEntriesWithin 2 g.w
inverse_test f v r u e k g i =
    let same : v ≡ g.w = e ∙ inverse_unique f.w (inverse_matrix f.w) g.w (inverse_matrix-· f.w u) i.right in
    (λ t. subst (HasEntriesWithin 2) same (k.0 t), λ n. k.1 (subst (HasEntriesWithin 2) (sym same) n))

-- the adjugate, scaled by a determinant that was passed on
pub inverse_matrix_is : (m v : Matrix) (s : ℤ) → FitsSigned w32 s → s ≡ det m → v ≡ scaled (to_z w32 (of_z w32 s)) (adjugate m) → v ≡ inverse_matrix m
inverse_matrix_is m v s f d e = e ∙ ap (λ k. scaled k (adjugate m)) (read w32 _ _ f d)

pub negated_is : (v : Matrix) (t n u : Column) → n ≡ neg_column t → u ≡ modulo UNIT (v ·ᶜ n +ᶜ origin) → u ≡ modulo UNIT (v ·ᶜ neg_column t +ᶜ origin)
negated_is v t n u e d = d ∙ ap (λ c. modulo UNIT (v ·ᶜ c +ᶜ origin)) e
