-- The laws of maps, and of their operators modulo the cell.
use Rattle.std.proofs.Common.{◌≡◌, ◌++◌, ◌∷◌, ℕ, ◌<◌, ℤ, pos, Bool, Decides, ap, sym, subst, ◌∙◌, refl, arith}
use Rattle.std.proofs.lemmas.Int.{ints}
use Rattle.lattice_algebra.specs.Matrix.{Matrix, Column, entries, coordinates, ◌·◌, ◌·ᶜ◌, ◌+ᶜ◌, neg_column, times, identity, origin, IsUnimodular, inverse_matrix}
use Rattle.lattice_algebra.specs.Operator.{Operator, product, modulo, IsOperator, identity_operator, IsPart}
use Rattle.lattice_algebra.specs.Map.{Map, ◌∘◌, identity_map, undo, operator_of, map_of, IsShift}
use Rattle.lattice_algebra.proofs.Ring.{var}
use Rattle.lattice_algebra.proofs.Numbers.{above}
use Rattle.lattice_algebra.proofs.Columns.{cancel_column, same_right, swap_columns}
use Rattle.lattice_algebra.proofs.MatrixRing.{matrix_at, column_at, ◌·ˢ◌, ◌·ˢᶜ◌, ◌+ˢᶜ◌, sym_times, sym_neg, sym_identity, sym_origin, column_ring}
use Rattle.lattice_algebra.proofs.Matrices.{·_assoc, identity-·, ·-identity, inverse_matrix-·, ·-inverse_matrix, IsUnimodular-identity}
use Rattle.lattice_algebra.proofs.Remainders.{modulo_is, modulo_same, modulo_part, modulo_parts, whole_part}
use Rattle.lattice_algebra.proofs.Equality.{operator_eq, operator_eq-is}

pub map_path : (f g : Map) → f.w ≡ g.w → f.s ≡ g.s → f ≡ g
map_path f g p q = λ i. record { w = p i; s = q i }

pub operator_path : (f g : Operator) → f.w ≡ g.w → f.t ≡ g.t → f ≡ g
operator_path f g p q = λ i. record { w = p i; t = q i }

abbrev pub map_eq : Map → Map → Bool
map_eq f g = operator_eq (record { w = f.w; t = f.s }) (record { w = g.w; t = g.s })

pub map_eq-is : (f g : Map) → Decides (map_eq f g) (f ≡ g)
map_eq-is f g =
    let r = operator_eq-is (record { w = f.w; t = f.s }) (record { w = g.w; t = g.s }) (map_eq f g) refl in (
      (λ t. let e = r.0 t in λ i. record { w = (e i).w; s = (e i).t }),
      (λ p. r.1 (λ i. record { w = (p i).w; t = (p i).s })),
    )

-- ---- maps

∘_assoc-columns : (v w : Matrix) (t s u : Column) → (v · w) ·ᶜ t +ᶜ (v ·ᶜ s +ᶜ u) ≡ v ·ᶜ (w ·ᶜ t +ᶜ s) +ᶜ u
unfolding ◌·◌ ◌·ᶜ◌ ◌+ᶜ◌
∘_assoc-columns v w t s u =
    let V = matrix_at 0 in
    let W = matrix_at 9 in
    let T = column_at 18 in
    let S = column_at 21 in
    let U = column_at 24 in
    column_ring (entries v ++ (entries w ++ (coordinates t ++ (coordinates s ++ coordinates u)))) ((V ·ˢ W) ·ˢᶜ T +ˢᶜ (V ·ˢᶜ S +ˢᶜ U)) (V ·ˢᶜ (W ·ˢᶜ T +ˢᶜ S) +ˢᶜ U) tt

pub ∘_assoc : (h g f : Map) → (h ∘ g) ∘ f ≡ h ∘ (g ∘ f)
unfolding ◌∘◌
∘_assoc h g f = map_path _ _ (·_assoc h.w g.w f.w) (∘_assoc-columns h.w g.w f.s g.s h.s)

identity-∘-column : (t : Column) → identity ·ᶜ t +ᶜ origin ≡ t
unfolding ◌·ᶜ◌ ◌+ᶜ◌
identity-∘-column t = column_ring (coordinates t) (sym_identity ·ˢᶜ column_at 0 +ˢᶜ sym_origin) (column_at 0) tt

pub identity-∘ : (f : Map) → identity_map ∘ f ≡ f
unfolding ◌∘◌
identity-∘ f = map_path _ _ (identity-· f.w) (identity-∘-column f.s)

∘-identity-column : (w : Matrix) (t : Column) → w ·ᶜ origin +ᶜ t ≡ t
unfolding ◌·ᶜ◌ ◌+ᶜ◌
∘-identity-column w t = column_ring (entries w ++ coordinates t) (matrix_at 0 ·ˢᶜ sym_origin +ˢᶜ column_at 9) (column_at 9) tt

pub ∘-identity : (f : Map) → f ∘ identity_map ≡ f
unfolding ◌∘◌
∘-identity f = map_path _ _ (·-identity f.w) (∘-identity-column f.w f.s)

undo-∘-column : (v : Matrix) (t : Column) → v ·ᶜ t +ᶜ neg_column (v ·ᶜ t) ≡ origin
unfolding ◌·ᶜ◌ ◌+ᶜ◌ neg_column
undo-∘-column v t = let S = matrix_at 0 ·ˢᶜ column_at 9 in column_ring (entries v ++ coordinates t) (S +ˢᶜ sym_neg S) sym_origin tt

pub undo-∘ : (f : Map) → IsUnimodular f.w → undo f ∘ f ≡ identity_map
unfolding ◌∘◌ undo
undo-∘ f u = map_path _ _ (inverse_matrix-· f.w u) (undo-∘-column (inverse_matrix f.w) f.s)

∘-undo-column : (w v : Matrix) (t : Column) → w ·ᶜ neg_column (v ·ᶜ t) +ᶜ t ≡ neg_column ((w · v) ·ᶜ t) +ᶜ t
unfolding ◌·◌ ◌·ᶜ◌ ◌+ᶜ◌ neg_column
∘-undo-column w v t = let W = matrix_at 0 in let V = matrix_at 9 in let T = column_at 18 in
    column_ring (entries w ++ (entries v ++ coordinates t)) (W ·ˢᶜ sym_neg (V ·ˢᶜ T) +ˢᶜ T) (sym_neg ((W ·ˢ V) ·ˢᶜ T) +ˢᶜ T) tt

∘-undo-back : (t : Column) → neg_column (identity ·ᶜ t) +ᶜ t ≡ origin
unfolding ◌·ᶜ◌ ◌+ᶜ◌ neg_column
∘-undo-back t = column_ring (coordinates t) (sym_neg (sym_identity ·ˢᶜ column_at 0) +ˢᶜ column_at 0) sym_origin tt

pub ∘-undo : (f : Map) → IsUnimodular f.w → f ∘ undo f ≡ identity_map
unfolding ◌∘◌ undo
∘-undo f u = map_path _ _ (·-inverse_matrix f.w u) (∘-undo-column f.w (inverse_matrix f.w) f.s ∙ ap (λ m. neg_column (m ·ᶜ f.s) +ᶜ f.s) (·-inverse_matrix f.w u) ∙ ∘-undo-back f.s)

-- ---- operators modulo the cell

-- whole shifts of a summand
add_shift : (u : ℤ) (a b k : Column) → a +ᶜ (b +ᶜ times u k) ≡ a +ᶜ b +ᶜ times u k
unfolding ◌+ᶜ◌ times
add_shift u a b k = let A = column_at 1 in let B = column_at 4 in let K = sym_times (var 0) (column_at 7) in column_ring (u ∷ (coordinates a ++ (coordinates b ++ coordinates k))) (A +ˢᶜ (B +ˢᶜ K)) (A +ˢᶜ B +ˢᶜ K) tt

-- and of a column that is turned
pub turn_shift : (u : ℤ) (w : Matrix) (t s k : Column) → w ·ᶜ (s +ᶜ times u k) +ᶜ t ≡ w ·ᶜ s +ᶜ t +ᶜ times u (w ·ᶜ k)
unfolding ◌·ᶜ◌ ◌+ᶜ◌ times
turn_shift u w t s k =
    let W = matrix_at 1 in
    let T = column_at 10 in
    let S = column_at 13 in
    let K = column_at 16 in
    column_ring (u ∷ (entries w ++ (coordinates t ++ (coordinates s ++ coordinates k)))) (W ·ˢᶜ (S +ˢᶜ sym_times (var 0) K) +ˢᶜ T) (W ·ˢᶜ S +ˢᶜ T +ˢᶜ sym_times (var 0) (W ·ˢᶜ K)) tt

module _ (unit : ℕ) (some : 0 < unit) where
  pub absorb_left : (x y : Map) → operator_of unit (map_of (operator_of unit x) ∘ y) ≡ operator_of unit (x ∘ y)
  unfolding operator_of ◌∘◌
  absorb_left x y =
      let k = modulo_is unit some x.s in
      operator_path _ _ refl (modulo_same unit some _ _ k.0 (ap (λ c. x.w ·ᶜ y.s +ᶜ c) k.1 ∙ add_shift (pos unit) (x.w ·ᶜ y.s) x.s k.0))

  pub absorb_right : (x y : Map) → operator_of unit (x ∘ map_of (operator_of unit y)) ≡ operator_of unit (x ∘ y)
  unfolding operator_of ◌∘◌
  absorb_right x y =
      let k = modulo_is unit some y.s in
      operator_path _ _ refl (modulo_same unit some _ _ (x.w ·ᶜ k.0) (ap (λ c. x.w ·ᶜ c +ᶜ x.s) k.1 ∙ turn_shift (pos unit) x.w x.s y.s k.0))

  pub product_is : (g f : Operator) → product unit g f ≡ operator_of unit (map_of g ∘ map_of f)
  unfolding product operator_of ◌∘◌
  product_is g f = refl

  -- the operator of a product is the product of the operators
  pub operator_of-∘ : (g f : Map) → product unit (operator_of unit g) (operator_of unit f) ≡ operator_of unit (g ∘ f)
  operator_of-∘ g f = product_is (operator_of unit g) (operator_of unit f) ∙ absorb_left g (map_of (operator_of unit f)) ∙ absorb_right g f

  pub operator_of-map : (f : Operator) → IsOperator unit f → operator_of unit (map_of f) ≡ f
  unfolding operator_of
  operator_of-map f h = operator_path _ _ refl (modulo_part unit some f.t h.in_cell)

  pub IsOperator-of : (g : Map) → IsUnimodular g.w → IsOperator unit (operator_of unit g)
  unfolding operator_of
  IsOperator-of g u = record { unimodular = u; in_cell = modulo_parts unit some g.s }

  pub IsOperator-identity : IsOperator unit identity_operator
  IsOperator-identity = let z : IsPart unit (pos 0) = omega (arith, ints) in record { unimodular = IsUnimodular-identity; in_cell = record { x = z; y = z; z = z } }

-- ---- the whole shift of a map

pub join_shifts : (u : ℤ) (c j k : Column) → c +ᶜ times u j +ᶜ times u k ≡ c +ᶜ times u (j +ᶜ k)
unfolding ◌+ᶜ◌ times
join_shifts u c j k =
    let U = var 0 in
    let C = column_at 1 in
    let J = column_at 4 in
    let K = column_at 7 in
    column_ring (u ∷ (coordinates c ++ (coordinates j ++ coordinates k))) (C +ˢᶜ sym_times U J +ˢᶜ sym_times U K) (C +ˢᶜ sym_times U (J +ˢᶜ K)) tt

shift_first : (u : ℤ) (w : Matrix) (t s j k : Column) → w ·ᶜ (s +ᶜ times u k) +ᶜ (t +ᶜ times u j) ≡ w ·ᶜ s +ᶜ t +ᶜ times u (w ·ᶜ k +ᶜ j)
shift_first u w t s j k = add_shift u (w ·ᶜ (s +ᶜ times u k)) t j ∙ ap (λ c. c +ᶜ times u j) (turn_shift u w t s k) ∙ join_shifts u (w ·ᶜ s +ᶜ t) (w ·ᶜ k) j

-- the map of an operator with whole shifts
abbrev pub shifted : ℕ → Operator → Column → Map
shifted unit f k = record { w = f.w; s = f.t +ᶜ times (pos unit) k }

module _ (unit : ℕ) (some : 0 < unit) where
  pub one_shift : (g : Map) (j k : Column) → IsShift unit g j → IsShift unit g k → j ≡ k
  one_shift g j k p q = cancel_column (pos unit) j k (above unit some) (same_right (modulo unit g.s) (times (pos unit) j) (times (pos unit) k) (sym p ∙ q))

  -- two maps that differ by a whole shift
  pub IsShift-more : (g h : Map) (j k : Column) → h.s ≡ g.s +ᶜ times (pos unit) k → IsShift unit g j → IsShift unit h (j +ᶜ k)
  IsShift-more g h j k e p =
      e ∙ ap (λ c. c +ᶜ times (pos unit) k) p ∙ join_shifts (pos unit) (modulo unit g.s) j k
      ∙ ap (λ c. c +ᶜ times (pos unit) (j +ᶜ k)) (sym (modulo_same unit some h.s g.s k e))

  -- whole shifts of the first map are turned, and those of the next are added
  pub IsShift-first : (g : Map) (f : Operator) (j k : Column) → IsShift unit (g ∘ map_of f) j → IsShift unit (g ∘ shifted unit f k) (g.w ·ᶜ k +ᶜ j)
  unfolding ◌∘◌
  IsShift-first g f j k p = subst (IsShift unit (g ∘ shifted unit f k)) (swap_columns j (g.w ·ᶜ k)) (IsShift-more (g ∘ map_of f) (g ∘ shifted unit f k) j (g.w ·ᶜ k) (turn_shift (pos unit) g.w g.s f.t k) p)

  pub IsShift-next : (f : Map) (g : Operator) (j k : Column) → IsShift unit (map_of g ∘ f) j → IsShift unit (shifted unit g k ∘ f) (j +ᶜ k)
  unfolding ◌∘◌
  IsShift-next f g j k p = IsShift-more (map_of g ∘ f) (shifted unit g k ∘ f) j k (add_shift (pos unit) (g.w ·ᶜ f.s) g.t k) p

  -- the product of two operators with whole shifts
  pub product-shifted : (g f : Operator) (j k l : Column) → IsShift unit (shifted unit g j ∘ shifted unit f k) l → shifted unit (product unit g f) l ≡ shifted unit g j ∘ shifted unit f k
  unfolding ◌∘◌ product
  product-shifted g f j k l p =
      let same = modulo_same unit some _ _ (g.w ·ᶜ k +ᶜ j) (shift_first (pos unit) g.w g.t f.t j k) in
      map_path _ _ refl (ap (λ c. c +ᶜ times (pos unit) l) (sym same) ∙ sym p)

  -- the maps of an operator
  pub operator_of-shifted : (f : Operator) (k : Column) → IsOperator unit f → operator_of unit (shifted unit f k) ≡ f
  unfolding operator_of
  operator_of-shifted f k h = operator_path _ _ refl (modulo_same unit some _ f.t k refl ∙ modulo_part unit some f.t h.in_cell)

  pub shift_of : (f : Operator) (g : Map) → operator_of unit g ≡ f → (k : Column) × (g ≡ shifted unit f k)
  unfolding operator_of
  shift_of f g e =
      let k = whole_part unit some g.s in
      (k.0, map_path g (shifted unit f k.0) (ap (λ (h : Operator). h.w) e) (k.1 ∙ ap (λ (h : Operator). h.t +ᶜ times (pos unit) k.0) e))
