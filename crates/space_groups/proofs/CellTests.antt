-- What a program tests of a change of the cell: products with the adjugate that leave no remainder, of the members and of one cell along each axis.
use Rattle.std.proofs.Common.{◌≡◌, ◌≢◌, ◌++◌, ◌∷◌, ◌↔◌, ℤ, pos, ◌*ℤ◌, Contains, ap, sym, ◌∙◌, refl, subst}
use Rattle.std.proofs.lemmas.List.Elements.{All-contains}
use Rattle.lattice_algebra.specs.Matrix.{Matrix, Column, entries, coordinates, ◌·◌, ◌·ᶜ◌, ◌+ᶜ◌, neg_column, times, scaled, identity}
use Rattle.lattice_algebra.specs.Operator.{Operator, IsOperator}
use Rattle.lattice_algebra.specs.Map.{Map, ◌∘◌, identity_map, undo, operator_of, map_of}
use Rattle.lattice_algebra.proofs.Ring.{var, ◌⊗◌}
use Rattle.lattice_algebra.proofs.MatrixRing.{matrix_at, column_at, ◌·ˢ◌, ◌·ˢᶜ◌, ◌+ˢᶜ◌, sym_times, sym_scaled, sym_neg, sym_identity, matrix_ring, column_ring}
use Rattle.lattice_algebra.proofs.Matrices.{·_assoc, ·ᶜ_assoc, identity-·, ·-identity}
use Rattle.lattice_algebra.proofs.Columns.{cancel_times, swap_times, ·ᶜ-times, same_left}
use Rattle.lattice_algebra.proofs.Maps.{map_path, operator_of-map}
use Rattle.space_groups.specs.Space.{IsElement}
use Rattle.space_groups.specs.Regions.{shift_by}
use Rattle.space_groups.specs.Bases.{CoordinateChange, IsInvertible, IsChange, IsChanged, IsInChanged, AreInParts, x_cell, y_cell, z_cell}
use Rattle.space_groups.proofs.Elements.{SpaceGroup, unimodular}
use Rattle.space_groups.proofs.Regions.{shift_in}
use Rattle.space_groups.proofs.Changes.{cancel_matrix_front, scaled-column, changed-identity, changed-∘}
use Rattle.space_groups.proofs.ChangedLists.{shift_between}
use Rattle.space_groups.proofs.ChangedCells.{all_columns, shift_sum, no_shift, undo_shift, changed_undo}

-- ---- the matrix: k m = W F V, where V over k is the inverse of W

times_scaled : (k : ℤ) (m : Matrix) → m · scaled k identity ≡ scaled k m
unfolding ◌·◌ scaled
times_scaled k m = matrix_ring (k ∷ entries m) (matrix_at 1 ·ˢ sym_scaled (var 0) sym_identity) (sym_scaled (var 0) (matrix_at 1)) tt

scaled_times : (k : ℤ) (m : Matrix) → scaled k identity · m ≡ scaled k m
unfolding ◌·◌ scaled
scaled_times k m = matrix_ring (k ∷ entries m) (sym_scaled (var 0) sym_identity ·ˢ matrix_at 1) (sym_scaled (var 0) (matrix_at 1)) tt

scaled_front : (k : ℤ) (m n : Matrix) → scaled k m · n ≡ scaled k (m · n)
unfolding ◌·◌ scaled
scaled_front k m n = matrix_ring (k ∷ (entries m ++ entries n)) (sym_scaled (var 0) (matrix_at 1) ·ˢ matrix_at 10) (sym_scaled (var 0) (matrix_at 1 ·ˢ matrix_at 10)) tt

cancel_scaled : (k : ℤ) (m n : Matrix) → k ≢ pos 0 → scaled k m ≡ scaled k n → m ≡ n
cancel_scaled k m n some e =
    let i : IsInvertible (scaled k identity) = record { v = identity; k = k; some = some; right = ·-identity (scaled k identity); left = identity-· (scaled k identity) } in
    cancel_matrix_front (scaled k identity) i m n (scaled_times k m ∙ e ∙ sym (scaled_times k n))

pub matrix_test : (w : Matrix) (i : IsInvertible w) (f m : Matrix) → (m · w ≡ w · f) ↔ (scaled i.k m ≡ w · f · i.v)
matrix_test w i f m = (
  (λ e. sym (times_scaled i.k m) ∙ ap (λ x. m · x) (sym i.right) ∙ sym (·_assoc m w i.v) ∙ ap (λ x. x · i.v) e),
  (λ e. cancel_scaled i.k (m · w) (w · f) i.some
      (sym (scaled_front i.k m w) ∙ ap (λ x. x · w) e ∙ ·_assoc (w · f) i.v w ∙ ap (λ x. w · f · x) i.left ∙ times_scaled i.k (w · f))),
)

-- ---- the translation: d q = W s

kept_sum : (d : ℤ) (a q t : Column) → times d (a +ᶜ (q +ᶜ t +ᶜ neg_column a)) ≡ times d q +ᶜ times d t
unfolding ◌+ᶜ◌ times neg_column
kept_sum d a q t =
    let A = column_at 1 in
    let Q = column_at 4 in
    let T = column_at 7 in
    column_ring (d ∷ (coordinates a ++ (coordinates q ++ coordinates t))) (sym_times (var 0) (A +ˢᶜ (Q +ˢᶜ T +ˢᶜ sym_neg A))) (sym_times (var 0) Q +ˢᶜ sym_times (var 0) T) tt

-- where q is whole, so is the translation
pub translation_found : (c : CoordinateChange) (g : Map) (m : Matrix) (q : Column) → m · c.w ≡ c.w · g.w → times c.d q ≡ c.w ·ᶜ g.s → IsChanged c g (record { w = m; s = q +ᶜ c.t +ᶜ neg_column (m ·ᶜ c.t) })
translation_found c g m q e p = record { rotation = e; translation = kept_sum c.d (m ·ᶜ c.t) q c.t ∙ ap (λ v. v +ᶜ times c.d c.t) p }

rest_sum : (d : ℤ) (a s t : Column) → times d (a +ᶜ s +ᶜ neg_column t) +ᶜ times d t ≡ times d (a +ᶜ s)
unfolding ◌+ᶜ◌ times neg_column
rest_sum d a s t =
    let A = column_at 1 in
    let S = column_at 4 in
    let T = column_at 7 in
    column_ring (d ∷ (coordinates a ++ (coordinates s ++ coordinates t))) (sym_times (var 0) (A +ˢᶜ S +ˢᶜ sym_neg T) +ˢᶜ sym_times (var 0) T) (sym_times (var 0) (A +ˢᶜ S)) tt

-- and only there
pub translation_needs : (c : CoordinateChange) (g h : Map) → IsChanged c g h → (q : Column) × (times c.d q ≡ c.w ·ᶜ g.s)
translation_needs c g h e =
    let a = h.w ·ᶜ c.t in
    (a +ᶜ h.s +ᶜ neg_column c.t, same_left (times c.d c.t) _ _ (rest_sum c.d a h.s c.t ∙ e.translation))

-- ---- one cell along an axis: k s = d unit V e, and the translation by s is an element

sum_shift : (d u : ℤ) (t e : Column) → times d (identity ·ᶜ t +ᶜ times u e) ≡ times (d *ℤ u) e +ᶜ times d t
unfolding ◌·ᶜ◌ ◌+ᶜ◌ times
sum_shift d u t e =
    let T = column_at 2 in
    let E = column_at 5 in
    column_ring (d ∷ u ∷ (coordinates t ++ coordinates e)) (sym_times (var 0) (sym_identity ·ˢᶜ T +ˢᶜ sym_times (var 1) E)) (sym_times (var 0 ⊗ var 1) E +ˢᶜ sym_times (var 0) T) tt

module _ (L : SpaceGroup) (c : CoordinateChange) (i : IsChange c) where
  open L use {unit, some, members, closed}

  cell_needs : (e : Column) → IsInChanged unit members c (shift_by unit e) → (s : Column) × (times i.invertible.k s ≡ times (c.d *ℤ pos unit) (i.invertible.v ·ᶜ e)) × IsElement unit members (record { w = identity; s = s })
  cell_needs e r =
      let g : Map = r.from in
      let w : g.w ≡ identity = sym (cancel_matrix_front c.w i.invertible identity g.w (·-identity c.w ∙ sym (identity-· c.w) ∙ r.changed.rotation)) in
      let over : c.w ·ᶜ g.s ≡ times (c.d *ℤ pos unit) e = same_left (times c.d c.t) _ _ (sym r.changed.translation ∙ sum_shift c.d (pos unit) c.t e) in
      let V = i.invertible.v in (
        g.s,
        sym (scaled-column i.invertible.k g.s) ∙ ap (λ m. m ·ᶜ g.s) (sym i.invertible.left) ∙ ·ᶜ_assoc V c.w g.s ∙ ap (λ v. V ·ᶜ v) over ∙ ·ᶜ-times V (c.d *ℤ pos unit) e,
        subst (IsElement unit members) (map_path g (record { w = identity; s = g.s }) w refl) r.element,
      )

  cell_found : (e s : Column) → times i.invertible.k s ≡ times (c.d *ℤ pos unit) (i.invertible.v ·ᶜ e) → IsElement unit members (record { w = identity; s = s }) → IsInChanged unit members c (shift_by unit e)
  cell_found e s p m =
      let k = i.invertible.k in
      let V = i.invertible.v in
      let du = c.d *ℤ pos unit in
      let over : c.w ·ᶜ s ≡ times du e = cancel_times k (c.w ·ᶜ s) (times du e) i.invertible.some
      (sym (·ᶜ-times c.w k s) ∙ ap (λ v. c.w ·ᶜ v) p ∙ ·ᶜ-times c.w du (V ·ᶜ e) ∙ ap (times du) (sym (·ᶜ_assoc c.w V e) ∙ ap (λ m. m ·ᶜ e) i.invertible.right ∙ scaled-column k e) ∙ swap_times du k e) in
      record {
        from = record { w = identity; s = s };
        element = m;
        changed = record { rotation = identity-· c.w ∙ sym (·-identity c.w); translation = sum_shift c.d (pos unit) c.t e ∙ ap (λ v. v +ᶜ times c.d c.t) (sym over) };
      }

  pub cell_test : (e : Column) → IsInChanged unit members c (shift_by unit e) ↔ ((s : Column) × (times i.invertible.k s ≡ times (c.d *ℤ pos unit) (i.invertible.v ·ᶜ e)) × IsElement unit members (record { w = identity; s = s }))
  cell_test e = ((λ r. cell_needs e r), (λ r. cell_found e r.0 r.1 r.2))

  -- ---- all elements have a changed map, where the members and one cell along each axis have

  abbrev pub HasMap : Map → Type 0
  HasMap g = (h : Map) × IsChanged c g h

  has_product : (f g : Map) → HasMap f → HasMap g → HasMap (f ∘ g)
  has_product f g p q = (p.0 ∘ q.0, changed-∘ c f g p.0 q.0 p.1 q.1)

  shifts_have : HasMap (shift_by unit x_cell) → HasMap (shift_by unit y_cell) → HasMap (shift_by unit z_cell) → (k : Column) → HasMap (shift_by unit k)
  shifts_have x y z =
      let both : (e : Column) → HasMap (shift_by unit e) → HasMap (shift_by unit e) × HasMap (shift_by unit (neg_column e)) =
      λ e p. (p, subst HasMap (undo_shift L c i e) (undo p.0, changed_undo L c i (shift_by unit e) p.0 p.1 (unimodular L (shift_by unit e) (shift_in L e)))) in
      all_columns (λ k. HasMap (shift_by unit k)) (subst HasMap (sym (no_shift unit)) (identity_map, changed-identity c))
      (λ j k p q. subst HasMap (sym (shift_sum unit j k)) (has_product (shift_by unit j) (shift_by unit k) p q))
      (both x_cell x) (both y_cell y) (both z_cell z)

  pub in_parts : HasMap (shift_by unit x_cell) → HasMap (shift_by unit y_cell) → HasMap (shift_by unit z_cell) → ((f : Operator) → Contains members f → HasMap (map_of f)) → AreInParts unit members c
  in_parts x y z each g m =
      let f : Operator = operator_of unit g in
      let k = shift_between unit some g (map_of f) (sym (operator_of-map unit some f (All-contains (IsOperator unit) members f closed.valid m))) in
      subst HasMap (sym k.1) (has_product (shift_by unit k.0) (map_of f) (shifts_have x y z k.0) (each f m))
