-- The laws of rows.
use Rattle.std.proofs.Common.{◌≡◌, ℕ, ◌+◌, ◌-◌, ◌≤◌, ◌^◌, ltb, unsigned_abs, ◌∷◌, [], ◌++◌, Bool, ◌&&◌, List, ℤ, ◌+ℤ◌, ◌*ℤ◌, neg_ℤ, T, w32, FitsSigned, ap, ◌∙◌, Decides, int_eq, pos, refl}
use Rattle.std.specs.Cmp.{signed_Decides}
use Rattle.std.proofs.lemmas.Bool.Decides.{Decides-and}
use Rattle.lattice_algebra.specs.Matrix.{Matrix, Column, neg_column, entries, coordinates, sum_of_products, ◌·◌, ◌·ᶜ◌, ◌+ᶜ◌, times, identity}
use Rattle.lattice_algebra.proofs.Ring.{Expr, var, con, ◌⊕◌, ◌⊗◌, neg, value, both, ring}
use Rattle.lattice_algebra.proofs.Machine.{back, read, kept}
use Rattle.lattice_algebra.proofs.MatrixRing.{sym_neg, SymMatrix, SymColumn, matrix_at, column_at, ◌·ˢ◌, ◌·ˢᶜ◌, ◌+ˢᶜ◌, sym_times, sym_identity, agree}
use Rattle.lattice_algebra.specs.Operator.{AreWithin, HasEntriesWithin, AreParts}
use Rattle.exact_ops.specs.declared.TheConstants.{UNIT}
use Rattle.exact_ops.proofs.Narrow.{AreWithin-parts}
use Rattle.phase_rules.specs.declared.TheConstants.{MAX_INDEX}
use Rattle.phase_rules.specs.Rows.{Row, origin_row, row_of, ◌·ʳ◌, ◌·ʳᶜ◌, neg_row, row_eq}

-- ---- equations between rows, by `Ring`

pub record SymRow : Type 0 where
  pub h : Expr
  pub k : Expr
  pub l : Expr

abbrev pub numbers : Row → List ℤ
numbers r = r.h ∷ r.k ∷ r.l ∷ []

abbrev pub row_at : ℕ → SymRow
row_at n = record { h = var n; k = var (n + 1); l = var (n + 2) }

abbrev sum_of : Expr → Expr → Expr → Expr → Expr → Expr → Expr
sum_of a b c x y z = a ⊗ x ⊕ b ⊗ y ⊕ c ⊗ z

infixl 70 ◌·ˢʳ◌ ◌·ˢʳᶜ◌
abbrev pub ◌·ˢʳ◌ : SymRow → SymMatrix → SymRow
r ·ˢʳ m = record {
  h = sum_of r.h r.k r.l m.xx m.yx m.zx;
  k = sum_of r.h r.k r.l m.xy m.yy m.zy;
  l = sum_of r.h r.k r.l m.xz m.yz m.zz;
}

abbrev pub ◌·ˢʳᶜ◌ : SymRow → SymColumn → Expr
r ·ˢʳᶜ c = sum_of r.h r.k r.l c.x c.y c.z

abbrev pub sym_neg_row : SymRow → SymRow
sym_neg_row r = record { h = neg r.h; k = neg r.k; l = neg r.l }

abbrev pub row_value : List ℤ → SymRow → Row
row_value r x = record { h = value r x.h; k = value r x.k; l = value r x.l }

abbrev pub rows_agree : SymRow → SymRow → Bool
rows_agree a b = agree a.h b.h && (agree a.k b.k && agree a.l b.l)

pub row_ring : (r : List ℤ) (a b : SymRow) → T (rows_agree a b) → row_value r a ≡ row_value r b
row_ring r a b t =
    let u = both _ _ t in
    let v = both _ _ u.1 in
    λ i. record { h = ring r a.h b.h u.0 i; k = ring r a.k b.k v.0 i; l = ring r a.l b.l v.1 i }

pub ·ʳ_assoc : (r : Row) (a b : Matrix) → (r ·ʳ a) ·ʳ b ≡ r ·ʳ (a · b)
unfolding ◌·ʳ◌ ◌·◌
·ʳ_assoc r a b =
    let x = row_at 0 in
    row_ring (numbers r ++ (entries a ++ entries b)) ((x ·ˢʳ matrix_at 3) ·ˢʳ matrix_at 12) (x ·ˢʳ (matrix_at 3 ·ˢ matrix_at 12)) tt

pub ·ʳ-identity : (r : Row) → r ·ʳ identity ≡ r
unfolding ◌·ʳ◌
·ʳ-identity r = row_ring (numbers r) (row_at 0 ·ˢʳ sym_identity) (row_at 0) tt

pub neg_row-·ʳ : (r : Row) (a : Matrix) → neg_row r ·ʳ a ≡ neg_row (r ·ʳ a)
unfolding ◌·ʳ◌ neg_row
neg_row-·ʳ r a = row_ring (numbers r ++ entries a) (sym_neg_row (row_at 0) ·ˢʳ matrix_at 3) (sym_neg_row (row_at 0 ·ˢʳ matrix_at 3)) tt

pub neg_row-neg_row : (r : Row) → neg_row (neg_row r) ≡ r
unfolding neg_row
neg_row-neg_row r = row_ring (numbers r) (sym_neg_row (sym_neg_row (row_at 0))) (row_at 0) tt

-- (h W).t = h.(W t)
pub ·ʳᶜ_assoc : (r : Row) (a : Matrix) (c : Column) → (r ·ʳ a) ·ʳᶜ c ≡ r ·ʳᶜ (a ·ᶜ c)
unfolding ◌·ʳ◌ ◌·ʳᶜ◌ ◌·ᶜ◌
·ʳᶜ_assoc r a c = ring (numbers r ++ (entries a ++ coordinates c)) ((row_at 0 ·ˢʳ matrix_at 3) ·ˢʳᶜ column_at 12) (row_at 0 ·ˢʳᶜ (matrix_at 3 ·ˢᶜ column_at 12)) tt

pub ·ʳᶜ-+ᶜ : (r : Row) (c d : Column) → r ·ʳᶜ (c +ᶜ d) ≡ r ·ʳᶜ c +ℤ r ·ʳᶜ d
unfolding ◌·ʳᶜ◌ ◌+ᶜ◌
·ʳᶜ-+ᶜ r c d = ring (numbers r ++ (coordinates c ++ coordinates d)) (row_at 0 ·ˢʳᶜ (column_at 3 +ˢᶜ column_at 6)) (row_at 0 ·ˢʳᶜ column_at 3 ⊕ row_at 0 ·ˢʳᶜ column_at 6) tt

pub ·ʳᶜ-times : (r : Row) (n : ℤ) (c : Column) → r ·ʳᶜ times n c ≡ n *ℤ (r ·ʳᶜ c)
unfolding ◌·ʳᶜ◌ times
·ʳᶜ-times r n c = ring (n ∷ (numbers r ++ coordinates c)) (row_at 1 ·ˢʳᶜ sym_times (var 0) (column_at 4)) (var 0 ⊗ (row_at 1 ·ˢʳᶜ column_at 4)) tt

pub neg_row-·ʳᶜ : (r : Row) (c : Column) → neg_row r ·ʳᶜ c ≡ neg_ℤ (r ·ʳᶜ c)
unfolding ◌·ʳᶜ◌ neg_row
neg_row-·ʳᶜ r c = ring (numbers r ++ coordinates c) (sym_neg_row (row_at 0) ·ˢʳᶜ column_at 3) (neg (row_at 0 ·ˢʳᶜ column_at 3)) tt

pub ·ʳᶜ-neg_column : (r : Row) (c : Column) → r ·ʳᶜ neg_column c ≡ neg_ℤ (r ·ʳᶜ c)
unfolding ◌·ʳᶜ◌ neg_column
·ʳᶜ-neg_column r c = ring (numbers r ++ coordinates c) (row_at 0 ·ˢʳᶜ sym_neg (column_at 3)) (neg (row_at 0 ·ˢʳᶜ column_at 3)) tt

pub origin_row-·ʳᶜ : (c : Column) → origin_row ·ʳᶜ c ≡ pos 0
unfolding ◌·ʳᶜ◌
origin_row-·ʳᶜ c = let o = con (pos 0) in ring (coordinates c) (record { h = o; k = o; l = o } ·ˢʳᶜ column_at 0) o tt

pub neg_row-origin_row : neg_row origin_row ≡ origin_row
unfolding neg_row
neg_row-origin_row = refl

-- ---- what the machine computes

kept_sum : (n m : ℕ) (a b c x y z : ℤ) → AreWithin n a b c → AreWithin m x y z → T (ltb n (2 ^ 31)) → T (ltb m (2 ^ 31))
    → sum_of_products (back w32 a) (back w32 b) (back w32 c) (back w32 x) (back w32 y) (back w32 z) ≡ sum_of_products a b c x y z
kept_sum n m a b c x y z p q s t =
    λ i. sum_of_products (kept w32 n a p.first s i) (kept w32 n b p.second s i) (kept w32 n c p.third s i) (kept w32 m x q.first t i) (kept w32 m y q.second t i) (kept w32 m z q.third t i)

abbrev kept_products : ℤ → ℤ → ℤ → ℤ → ℤ → ℤ → ℤ
kept_products a b c x y z = sum_of_products (back w32 a) (back w32 b) (back w32 c) (back w32 x) (back w32 y) (back w32 z)

pub row_computed : (x r : Row) (m : Matrix) (a b c : ℤ) → r ≡ x → AreWithin MAX_INDEX r.h r.k r.l → HasEntriesWithin 2 m → FitsSigned w32 a → FitsSigned w32 b → FitsSigned w32 c
    → a ≡ kept_products r.h r.k r.l m.xx m.yx m.zx → b ≡ kept_products r.h r.k r.l m.xy m.yy m.zy → c ≡ kept_products r.h r.k r.l m.xz m.yz m.zz
    → row_of (back w32 a ∷ back w32 b ∷ back w32 c ∷ []) ≡ x ·ʳ m
unfolding ◌·ʳ◌
row_computed x r m a b c v n w f g h p q s =
    let col : (u v t : ℤ) → unsigned_abs u ≤ 2 → unsigned_abs v ≤ 2 → unsigned_abs t ≤ 2 → kept_products r.h r.k r.l u v t ≡ sum_of_products r.h r.k r.l u v t = λ u v t d e k. kept_sum MAX_INDEX 2 r.h r.k r.l u v t n (record { first = d; second = e; third = k }) tt tt in
    let e : row_of (back w32 a ∷ back w32 b ∷ back w32 c ∷ []) ≡ r ·ʳ m = λ i. record {
      h = read w32 a _ f (p ∙ col m.xx m.yx m.zx w.x.first w.y.first w.z.first) i;
      k = read w32 b _ g (q ∙ col m.xy m.yy m.zy w.x.second w.y.second w.z.second) i;
      l = read w32 c _ h (s ∙ col m.xz m.yz m.zz w.x.third w.y.third w.z.third) i;
    } in
    e ∙ ap (λ y. y ·ʳ m) v

pub first_computed : (x r : Row) (m : Matrix) (a : ℤ) → r ≡ x → AreWithin MAX_INDEX r.h r.k r.l → HasEntriesWithin 2 m → FitsSigned w32 a → a ≡ kept_products r.h r.k r.l m.xx m.yx m.zx → back w32 a ≡ (x ·ʳ m).h
unfolding ◌·ʳ◌
first_computed x r m a v n w f p = read w32 a _ f (p ∙ kept_sum MAX_INDEX 2 r.h r.k r.l m.xx m.yx m.zx n (record { first = w.x.first; second = w.y.first; third = w.z.first }) tt tt) ∙ ap (λ y. sum_of_products y.h y.k y.l m.xx m.yx m.zx) v

pub dot_computed : (x r : Row) (c : Column) (a : ℤ) → r ≡ x → AreWithin MAX_INDEX r.h r.k r.l → AreParts UNIT c → FitsSigned w32 a → a ≡ kept_products r.h r.k r.l c.x c.y c.z → back w32 a ≡ x ·ʳᶜ c
unfolding ◌·ʳᶜ◌
dot_computed x r c a v n w f p = read w32 a _ f (p ∙ kept_sum MAX_INDEX (UNIT - 1) r.h r.k r.l c.x c.y c.z n (AreWithin-parts c w) tt tt) ∙ ap (λ y. y ·ʳᶜ c) v

-- ---- equality

pub row_path : (a b : Row) → a.h ≡ b.h → a.k ≡ b.k → a.l ≡ b.l → a ≡ b
row_path a b p q r = λ i. record { h = p i; k = q i; l = r i }

pub row_eq-is : (a b : Row) → Decides (row_eq a b) (a ≡ b)
row_eq-is a b =
    let kl = Decides-and (int_eq a.k b.k) (int_eq a.l b.l) (signed_Decides a.k b.k) (signed_Decides a.l b.l) in
    let d = Decides-and (int_eq a.h b.h) (int_eq a.k b.k && int_eq a.l b.l) (signed_Decides a.h b.h) kl in
    ((λ t. let e = d.0 t in row_path a b e.0 e.1.0 e.1.1), (λ e. d.1 (ap (λ (r : Row). r.h) e, (ap (λ (r : Row). r.k) e, ap (λ (r : Row). r.l) e))))
