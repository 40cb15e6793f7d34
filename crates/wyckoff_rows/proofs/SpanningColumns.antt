-- Columns of an idempotent matrix that are combinations of the others can be left out. With m m = n m the columns of n I - m say how
-- those of m depend on one another: m (n I - m) = 0. Where unit columns stand in it in place of those that are taken, m times it has
-- the taken columns of m alone; so its determinant times m is a combination of these.
use Rattle.std.proofs.Common.{◌≡◌, ◌≢◌, ◌++◌, ◌∷◌, [], ◌<◌, ◌≤◌, ◌*◌, ℕ, ℤ, pos, negsuc, ◌+ℤ◌, ◌*ℤ◌, Bool, true, false, cond, w32, ap, ap₂, sym, ◌∙◌, subst, arith, refl}
use Rattle.std.proofs.lemmas.Int.{ints}
use lib.IntN.{*ℤ-zero}
use Rattle.std.specs.Int.{from_bool}
use Rattle.lattice_algebra.specs.Matrix.{Matrix, Column, entries, coordinates, identity, no_matrix, det, adjugate, ◌·◌, ◌+ᵐ◌, scaled}
use Rattle.lattice_algebra.proofs.Ring.{var, con, ◌⊕◌, ◌⊗◌, ring}
use Rattle.lattice_algebra.proofs.Matrices.{·_assoc, ·-adjugate}
use Rattle.lattice_algebra.proofs.MatrixRing.{SymColumn, matrix_at, column_at, ◌·ˢ◌, ◌+ˢ◌, sym_scaled, sym_identity, sym_diagonal, sym_nothing, matrix_ring}
use Rattle.lattice_algebra.proofs.Numbers.{cancel_some}
use Rattle.lattice_algebra.proofs.Machine.{back, kept}
use Rattle.lattice_algebra.specs.Operator.{AreWithin, HasEntriesWithin}
use Rattle.group_closure.specs.declared.TheConstants.{MAX_OPERATORS}
use Rattle.space_groups.specs.Regions.{diagonal}
use Rattle.space_groups.proofs.FirstCell.{sym_diagonals}
use Rattle.affine_sets.specs.declared.keys.Sizes.{Sizes}
use Rattle.affine_sets.specs.Conjugates.{AreSizes, AreWholeFor}
use Rattle.wyckoff_rows.specs.declared.spans.Taken.{Taken}
use Rattle.wyckoff_rows.specs.Spanning.{AreFew, AreEnough, size_column, rest_of, taken_column, with_units}

-- m (n I - m) = 0
rest_nothing : (m : Matrix) (n : ℤ) → m · m ≡ scaled n m → m · rest_of n m ≡ no_matrix
unfolding ◌·◌ ◌+ᵐ◌ scaled diagonal
rest_nothing m n two =
    let N = var 0 in
    let M = matrix_at 1 in
    let v = n ∷ entries m in
    let o = con (negsuc 0) in
    matrix_ring v (M ·ˢ (sym_diagonal N +ˢ sym_scaled o M)) (sym_scaled N M +ˢ sym_scaled o (M ·ˢ M)) tt
    ∙ ap (λ x. scaled n m +ᵐ scaled (negsuc 0) x) two
    ∙ matrix_ring v (sym_scaled N M +ˢ sym_scaled o (sym_scaled N M)) sym_nothing tt

nothing : (a c d : ℤ) → pos 0 ≡ a *ℤ pos 0 +ℤ c *ℤ pos 0 +ℤ d *ℤ pos 0
nothing a c d = let o = con (pos 0) in ring (a ∷ c ∷ d ∷ []) o (var 0 ⊗ o ⊕ var 1 ⊗ o ⊕ var 2 ⊗ o) tt

-- one entry, in each of the columns
at_x : (b : Bool) (a c d x y z : ℤ) → a *ℤ x +ℤ c *ℤ y +ℤ d *ℤ z ≡ pos 0 → a *ℤ cond b (pos 1) x +ℤ c *ℤ cond b (pos 0) y +ℤ d *ℤ cond b (pos 0) z ≡ a *ℤ pos (from_bool b) +ℤ c *ℤ pos 0 +ℤ d *ℤ pos 0
at_x true a c d x y z e = refl
at_x false a c d x y z e = e ∙ nothing a c d

at_y : (b : Bool) (a c d x y z : ℤ) → a *ℤ x +ℤ c *ℤ y +ℤ d *ℤ z ≡ pos 0 → a *ℤ cond b (pos 0) x +ℤ c *ℤ cond b (pos 1) y +ℤ d *ℤ cond b (pos 0) z ≡ a *ℤ pos 0 +ℤ c *ℤ pos (from_bool b) +ℤ d *ℤ pos 0
at_y true a c d x y z e = refl
at_y false a c d x y z e = e ∙ nothing a c d

at_z : (b : Bool) (a c d x y z : ℤ) → a *ℤ x +ℤ c *ℤ y +ℤ d *ℤ z ≡ pos 0 → a *ℤ cond b (pos 0) x +ℤ c *ℤ cond b (pos 0) y +ℤ d *ℤ cond b (pos 1) z ≡ a *ℤ pos 0 +ℤ c *ℤ pos 0 +ℤ d *ℤ pos (from_bool b)
at_z true a c d x y z e = refl
at_z false a c d x y z e = e ∙ nothing a c d

-- where m k = 0, m times k with unit columns has the taken columns of m alone
left_columns : (m k : Matrix) (t : Taken) → m · k ≡ no_matrix → m · with_units k t ≡ m · diagonal (taken_column t)
unfolding ◌·◌ diagonal
left_columns m k t e = λ i. record {
  xx = at_x t.x m.xx m.xy m.xz k.xx k.yx k.zx (ap (λ (v : Matrix). v.xx) e) i;
  xy = at_y t.y m.xx m.xy m.xz k.xy k.yy k.zy (ap (λ (v : Matrix). v.xy) e) i;
  xz = at_z t.z m.xx m.xy m.xz k.xz k.yz k.zz (ap (λ (v : Matrix). v.xz) e) i;
  yx = at_x t.x m.yx m.yy m.yz k.xx k.yx k.zx (ap (λ (v : Matrix). v.yx) e) i;
  yy = at_y t.y m.yx m.yy m.yz k.xy k.yy k.zy (ap (λ (v : Matrix). v.yy) e) i;
  yz = at_z t.z m.yx m.yy m.yz k.xz k.yz k.zz (ap (λ (v : Matrix). v.yz) e) i;
  zx = at_x t.x m.zx m.zy m.zz k.xx k.yx k.zx (ap (λ (v : Matrix). v.zx) e) i;
  zy = at_y t.y m.zx m.zy m.zz k.xy k.yy k.zy (ap (λ (v : Matrix). v.zy) e) i;
  zz = at_z t.z m.zx m.zy m.zz k.xz k.yz k.zz (ap (λ (v : Matrix). v.zz) e) i;
}

times_identity : (d : ℤ) (m : Matrix) → scaled d m ≡ m · scaled d identity
unfolding ◌·◌ scaled
times_identity d m = matrix_ring (d ∷ entries m) (sym_scaled (var 0) (matrix_at 1)) (matrix_at 1 ·ˢ sym_scaled (var 0) sym_identity) tt

-- the determinant of p times m is a combination of the columns of m p
combined : (m p e : Matrix) → m · p ≡ m · e → scaled (pos 1 *ℤ det p) m ≡ (m · e) · scaled (pos 1) (adjugate p)
combined m p e h =
    let a = scaled (pos 1) (adjugate p) in
    times_identity (pos 1 *ℤ det p) m ∙ ap (λ x. m · x) (sym (·-adjugate (pos 1) p)) ∙ sym (·_assoc m p a) ∙ ap (λ x. x · a) h

-- the products of two of three numbers
abbrev others : Column → Column
others q = record { x = q.y *ℤ q.z; y = q.x *ℤ q.z; z = q.x *ℤ q.y }

abbrev sym_others : SymColumn → SymColumn
sym_others q = record { x = q.y ⊗ q.z; y = q.x ⊗ q.z; z = q.x ⊗ q.y }

abbrev both : Column → Column → Column
both q t = record { x = q.x *ℤ t.x; y = q.y *ℤ t.y; z = q.z *ℤ t.z }

abbrev sym_both : SymColumn → SymColumn → SymColumn
sym_both q t = record { x = q.x ⊗ t.x; y = q.y ⊗ t.y; z = q.z ⊗ t.z }

-- so of multiples of these columns
multiples_combine : (m a : Matrix) (q t : Column) (d : ℤ) → scaled d m ≡ (m · diagonal t) · a → scaled (q.x *ℤ q.y *ℤ q.z *ℤ d) m ≡ (m · diagonal (both q t)) · (diagonal (others q) · a)
unfolding ◌·◌ scaled diagonal
multiples_combine m a q t d h =
    let D = var 0 in
    let Q = column_at 1 in
    let T = column_at 4 in
    let M = matrix_at 7 in
    let A = matrix_at 16 in
    let v = d ∷ (coordinates q ++ (coordinates t ++ (entries m ++ entries a))) in
    let P = Q.x ⊗ Q.y ⊗ Q.z in
    matrix_ring v (sym_scaled (P ⊗ D) M) (sym_scaled P (sym_scaled D M)) tt ∙ ap (scaled (q.x *ℤ q.y *ℤ q.z)) h
    ∙ matrix_ring v (sym_scaled P ((M ·ˢ sym_diagonals T) ·ˢ A)) ((M ·ˢ sym_diagonals (sym_both Q T)) ·ˢ (sym_diagonals (sym_others Q) ·ˢ A)) tt

all_combine : (m : Matrix) (q : Column) → scaled (q.x *ℤ q.y *ℤ q.z) m ≡ (m · diagonal q) · diagonal (others q)
unfolding ◌·◌ scaled diagonal
all_combine m q =
    let Q = column_at 0 in
    let M = matrix_at 3 in
    matrix_ring (coordinates q ++ entries m) (sym_scaled (Q.x ⊗ Q.y ⊗ Q.z) M) ((M ·ˢ sym_diagonals Q) ·ˢ sym_diagonals (sym_others Q)) tt

multiples_whole : (m r : Matrix) (q t : Column) (n : ℤ) → m · diagonal q ≡ scaled n r → m · diagonal (both q t) ≡ scaled n (r · diagonal t)
unfolding ◌·◌ scaled diagonal
multiples_whole m r q t n h =
    let N = var 0 in
    let Q = column_at 1 in
    let T = column_at 4 in
    let M = matrix_at 7 in
    let R = matrix_at 16 in
    let v = n ∷ (coordinates q ++ (coordinates t ++ (entries m ++ entries r))) in
    matrix_ring v (M ·ˢ sym_diagonals (sym_both Q T)) ((M ·ˢ sym_diagonals Q) ·ˢ sym_diagonals T) tt ∙ ap (λ x. x · diagonal t) h
    ∙ matrix_ring v (sym_scaled N R ·ˢ sym_diagonals T) (sym_scaled N (R ·ˢ sym_diagonals T)) tt

-- ---- the sizes

some_product : (a b : ℤ) → a ≢ pos 0 → b ≢ pos 0 → a *ℤ b ≢ pos 0
some_product a b p q e = q (cancel_some a b (pos 0) p (e ∙ sym (*ℤ-zero a)))

some_pos : (n : ℕ) → 0 < n → pos n ≢ pos 0
some_pos n h e = omega (arith, ints, h, e)

some_sizes : (q : Sizes) → AreSizes q → pos q.x *ℤ pos q.y *ℤ pos q.z ≢ pos 0
some_sizes q s = some_product (pos q.x *ℤ pos q.y) (pos q.z) (some_product (pos q.x) (pos q.y) (some_pos q.x s.some_x) (some_pos q.y s.some_y)) (some_pos q.z s.some_z)

once : (d : ℤ) → d ≡ pos 1 *ℤ d
once d = ring (d ∷ []) (var 0) (con (pos 1) ⊗ var 0) tt

pub all_enough : (m : Matrix) (q : Sizes) → AreSizes q → AreEnough m q
all_enough m q s = record { number = pos q.x *ℤ pos q.y *ℤ pos q.z; some = some_sizes q s; weights = diagonal (others (size_column q)); combines = all_combine m (size_column q) }

-- r has the sizes of the columns that are taken
module _ (m : Matrix) (q r : Sizes) (t : Taken) (x : r.x ≡ q.x * from_bool t.x) (y : r.y ≡ q.y * from_bool t.y) (z : r.z ≡ q.z * from_bool t.z) where
  same_column : size_column r ≡ both (size_column q) (taken_column t)
  same_column = λ i. record { x = pos (x i); y = pos (y i); z = pos (z i) }

  pub taken_enough : (n : ℤ) (p k : Matrix) → m · m ≡ scaled n m → p ≡ with_units k t → k ≡ rest_of n m → det p ≢ pos 0 → AreSizes q → AreEnough m r
  taken_enough n p k two is rest some s =
      let d : ℤ = pos 1 *ℤ det p in
      let h = combined m p (diagonal (taken_column t)) (ap (λ v. m · v) is ∙ left_columns m k t (ap (λ v. m · v) rest ∙ rest_nothing m n two)) in
      let c = size_column q in
      record {
        number = c.x *ℤ c.y *ℤ c.z *ℤ d;
        some = some_product (c.x *ℤ c.y *ℤ c.z) d (some_sizes q s) (λ e. some (once (det p) ∙ e));
        weights = diagonal (others c) · scaled (pos 1) (adjugate p);
        combines = multiples_combine m (scaled (pos 1) (adjugate p)) c (taken_column t) d h ∙ ap (λ v. (m · diagonal v) · (diagonal (others c) · scaled (pos 1) (adjugate p))) (sym same_column);
      }

  pub taken_whole : (n : ℕ) → AreWholeFor q m n → AreWholeFor r m n
  taken_whole n h = (h.0 · diagonal (taken_column t), ap (λ v. m · diagonal v) same_column ∙ multiples_whole m h.0 (size_column q) (taken_column t) (pos n) h.1)

  pub taken_few : AreSizes q → AreFew r
  taken_few s = record { x = at q.x r.x t.x x s.x; y = at q.y r.y t.y y s.y; z = at q.z r.z t.z z s.z }
    where
      at : (a b : ℕ) (u : Bool) → b ≡ a * from_bool u → a ≤ MAX_OPERATORS → b ≤ MAX_OPERATORS
      at a b true e l = omega (arith, e, l)
      at a b false e l = omega (arith, e, l)

pub all_few : (q : Sizes) → AreSizes q → AreFew q
all_few q s = record { x = s.x; y = s.y; z = s.z }

diagonal_within : (k : ℕ) (x y z : ℤ) → AreWithin k x y z → HasEntriesWithin k (diagonal (record { x = x; y = y; z = z }))
unfolding diagonal
diagonal_within k x y z w = record {
  x = record { first = w.first; second = omega arith; third = omega arith };
  y = record { first = omega arith; second = w.second; third = omega arith };
  z = record { first = omega arith; second = omega arith; third = w.third };
}

-- ---- n I - m, from n as it was passed on

module _ (x : ℤ) (n : ℕ) (d : Matrix) (is : x ≡ pos n) (few : n ≤ MAX_OPERATORS) (made : d ≡ diagonal (record { x = back w32 x; y = back w32 x; z = back w32 x })) where
  passed : back w32 x ≡ pos n
  passed = ap (back w32) is ∙ kept w32 MAX_OPERATORS (pos n) few tt

  same_diagonal : d ≡ diagonal (record { x = pos n; y = pos n; z = pos n })
  same_diagonal = made ∙ ap (λ v. diagonal (record { x = v; y = v; z = v })) passed

  pub diagonal_size : HasEntriesWithin MAX_OPERATORS d
  diagonal_size = subst (HasEntriesWithin MAX_OPERATORS) (sym same_diagonal) (diagonal_within MAX_OPERATORS (pos n) (pos n) (pos n) (record { first = few; second = few; third = few }))

  pub rest_made : (m o r : Matrix) → o ≡ scaled (negsuc 0) m → r ≡ d +ᵐ o → r ≡ rest_of (pos n) m
  rest_made m o r e f = f ∙ ap₂ (λ a b. a +ᵐ b) same_diagonal e
