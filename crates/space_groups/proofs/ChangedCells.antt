-- A change of the volume of the cell: the changed operators and the changed translations by one cell generate the changed group.
use Rattle.std.proofs.Common.{◌≡◌, ◌≢◌, ◌++◌, [], ◌∷◌, ℕ, zero, suc, ◌↔◌, inl, inr, ⊎_elim, List, get_or, fold, ℤ, pos, negsuc, neg_ℤ, ◌+ℤ◌, ◌*ℤ◌, Contains, All, ap, ap₂, sym, ◌∙◌, refl, subst}
use Rattle.std.proofs.lemmas.List.Elements.{All-contains, All-head, All-tail, Contains-get_or}
use lib.IntN.{*ℤ_comm}
use Rattle.lattice_algebra.specs.Matrix.{Matrix, Column, coordinates, ◌·◌, ◌·ᶜ◌, ◌+ᶜ◌, neg_column, times, scaled, identity, origin, det, IsUnimodular}
use Rattle.lattice_algebra.specs.Operator.{Operator, IsOperator, product, identity_operator}
use Rattle.lattice_algebra.specs.Map.{Map, ◌∘◌, identity_map, undo, operator_of, map_of, AreInverse}
use Rattle.lattice_algebra.proofs.Ring.{var, con, neg, ◌⊕◌, ◌⊗◌, ring}
use Rattle.lattice_algebra.proofs.MatrixRing.{column_at, ◌·ˢᶜ◌, ◌+ˢᶜ◌, sym_times, sym_neg, sym_scaled, sym_identity, sym_origin, sym_det, column_ring}
use Rattle.lattice_algebra.proofs.Numbers.{cancel_some, one_more}
use Rattle.lattice_algebra.proofs.Matrices.{det-·, IsUnimodular-det, det-IsUnimodular}
use Rattle.lattice_algebra.proofs.Maps.{map_path, undo-∘, ∘-undo, operator_of-∘, operator_of-map, IsOperator-of}
use Rattle.lattice_algebra.proofs.Operators.{operators, one_is, unimodular-undo}
use Rattle.finite_groups.specs.Groups.{Group}
use Rattle.finite_groups.specs.Words.{IsLetter, Span}
use Rattle.finite_groups.proofs.Basics as basics
use Rattle.finite_groups.proofs.Closing as closing
use Rattle.space_groups.specs.Space.{IsElement}
use Rattle.space_groups.specs.Regions.{shift_by}
use Rattle.space_groups.specs.Bases.{CoordinateChange, IsInvertible, IsChange, IsChanged, IsInChanged, IsChangedGroup, x_cell, y_cell, z_cell, IsCell, HasChanged, AreGenerators}
use Rattle.space_groups.proofs.Elements.{SpaceGroup, space, unimodular}
use Rattle.space_groups.proofs.Regions.{shift_in}
use Rattle.space_groups.proofs.Points.{one_inverse}
use Rattle.space_groups.proofs.Changes.{changed-identity, changed-∘, changed-inverse}
use Rattle.space_groups.proofs.ChangedLists.{shift_between}

-- ---- what holds of all columns

more_column : (n : ℤ) (e : Column) → times (pos 1 +ℤ n) e ≡ e +ᶜ times n e
unfolding ◌+ᶜ◌ times
more_column n e = column_ring (n ∷ coordinates e) (sym_times (con (pos 1) ⊕ var 0) (column_at 1)) (column_at 1 +ˢᶜ sym_times (var 0) (column_at 1)) tt

no_column : (e : Column) → origin ≡ times (pos 0) e
unfolding times
no_column e = column_ring (coordinates e) sym_origin (sym_times (con (pos 0)) (column_at 0)) tt

other_column : (n : ℤ) (e : Column) → times n (neg_column e) ≡ times (neg_ℤ n) e
unfolding times neg_column
other_column n e = column_ring (n ∷ coordinates e) (sym_times (var 0) (sym_neg (column_at 1))) (sym_times (neg (var 0)) (column_at 1)) tt

three_columns : (k : Column) → times k.x x_cell +ᶜ (times k.y y_cell +ᶜ times k.z z_cell) ≡ k
unfolding ◌+ᶜ◌ times
three_columns k =
    let o = con (pos 0) in
    let l = con (pos 1) in
    column_ring (coordinates k) (sym_times (var 0) (record { x = l; y = o; z = o }) +ˢᶜ (sym_times (var 1) (record { x = o; y = l; z = o }) +ˢᶜ sym_times (var 2) (record { x = o; y = o; z = l }))) (column_at 0) tt

module _ (P : Column → Type 0) (none : P origin) (sum : (j k : Column) → P j → P k → P (j +ᶜ k)) where
  copies_hold : (e : Column) → P e → (n : ℕ) → P (times (pos n) e)
  copies_hold e p zero = subst P (no_column e) none
  copies_hold e p (suc n) = subst P (sym (more_column (pos n) e) ∙ ap (λ k. times k e) (one_more n)) (sum e (times (pos n) e) p (copies_hold e p n))

  multiples_hold : (e : Column) → P e → P (neg_column e) → (k : ℤ) → P (times k e)
  multiples_hold e p q (pos n) = copies_hold e p n
  multiples_hold e p q (negsuc n) = subst P (other_column (pos (suc n)) e) (copies_hold (neg_column e) q (suc n))

  -- what holds of a step along each axis and back, and of sums, holds of all columns
  pub all_columns : P x_cell × P (neg_column x_cell) → P y_cell × P (neg_column y_cell) → P z_cell × P (neg_column z_cell) → (k : Column) → P k
  all_columns x y z k =
      subst P (three_columns k)
      (sum (times k.x x_cell) (times k.y y_cell +ᶜ times k.z z_cell) (multiples_hold x_cell x.0 x.1 k.x)
      (sum (times k.y y_cell) (times k.z z_cell) (multiples_hold y_cell y.0 y.1 k.y) (multiples_hold z_cell z.0 z.1 k.z)))

-- ---- translations by whole cells

shift_sum_column : (u : ℤ) (j k : Column) → times u (j +ᶜ k) ≡ identity ·ᶜ times u k +ᶜ times u j
unfolding ◌·ᶜ◌ ◌+ᶜ◌ times
shift_sum_column u j k = column_ring (u ∷ (coordinates j ++ coordinates k)) (sym_times (var 0) (column_at 1 +ˢᶜ column_at 4)) (sym_identity ·ˢᶜ sym_times (var 0) (column_at 4) +ˢᶜ sym_times (var 0) (column_at 1)) tt

one_one : identity · identity ≡ identity
unfolding ◌·◌
one_one = refl

pub shift_sum : (unit : ℕ) (j k : Column) → shift_by unit (j +ᶜ k) ≡ shift_by unit j ∘ shift_by unit k
unfolding ◌∘◌
shift_sum unit j k = map_path _ _ (sym one_one) (shift_sum_column (pos unit) j k)

no_shift_column : (u : ℤ) → times u origin ≡ origin
unfolding times
no_shift_column u = column_ring (u ∷ []) (sym_times (var 0) sym_origin) sym_origin tt

pub no_shift : (unit : ℕ) → shift_by unit origin ≡ identity_map
no_shift unit = map_path _ _ refl (no_shift_column (pos unit))

opposite_sum : (e : Column) → neg_column e +ᶜ e ≡ origin
unfolding ◌+ᶜ◌ neg_column
opposite_sum e = column_ring (coordinates e) (sym_neg (column_at 0) +ˢᶜ column_at 0) sym_origin tt

sum_opposite : (e : Column) → e +ᶜ neg_column e ≡ origin
unfolding ◌+ᶜ◌ neg_column
sum_opposite e = column_ring (coordinates e) (column_at 0 +ˢᶜ sym_neg (column_at 0)) sym_origin tt

pub shift_inverse : (unit : ℕ) (e : Column) → AreInverse (shift_by unit e) (shift_by unit (neg_column e))
shift_inverse unit e = record {
  left = sym (shift_sum unit (neg_column e) e) ∙ ap (shift_by unit) (opposite_sum e) ∙ no_shift unit;
  right = sym (shift_sum unit e (neg_column e)) ∙ ap (shift_by unit) (sum_opposite e) ∙ no_shift unit;
}

-- ---- changed maps can be undone

det_scaled : (k : ℤ) → det (scaled k identity) ≡ k *ℤ (k *ℤ k)
unfolding det scaled
det_scaled k = ring (k ∷ []) (sym_det (sym_scaled (var 0) sym_identity)) (var 0 ⊗ (var 0 ⊗ var 0)) tt

nothing : (k : ℤ) → k *ℤ pos 0 ≡ pos 0
nothing k = ring (k ∷ []) (var 0 ⊗ con (pos 0)) (con (pos 0)) tt

nothing_left : (k : ℤ) → pos 0 *ℤ k ≡ pos 0
nothing_left k = ring (k ∷ []) (con (pos 0) ⊗ var 0) (con (pos 0)) tt

pub det_of_invertible : (w : Matrix) → IsInvertible w → det w ≢ pos 0
det_of_invertible w i z =
    let cube : i.k *ℤ (i.k *ℤ i.k) ≡ i.k *ℤ pos 0 = sym (det_scaled i.k) ∙ ap det (sym i.right) ∙ det-· w i.v ∙ ap (λ d. d *ℤ det i.v) z ∙ nothing_left (det i.v) ∙ sym (nothing i.k) in
    let square : i.k *ℤ i.k ≡ i.k *ℤ pos 0 = cancel_some i.k (i.k *ℤ i.k) (pos 0) i.some cube ∙ sym (nothing i.k) in
    i.some (cancel_some i.k i.k (pos 0) i.some square)

pub same_det : (c : CoordinateChange) → IsChange c → (g h : Map) → IsChanged c g h → det h.w ≡ det g.w
same_det c i g h e =
    cancel_some (det c.w) (det h.w) (det g.w) (det_of_invertible c.w i.invertible)
    (*ℤ_comm (det c.w) (det h.w) ∙ sym (det-· h.w c.w) ∙ ap det e.rotation ∙ det-· c.w g.w)

pub unimodular_of_changed : (c : CoordinateChange) → IsChange c → (g h : Map) → IsChanged c g h → IsUnimodular g.w → IsUnimodular h.w
unimodular_of_changed c i g h e u =
    let d = same_det c i g h e in
    det-IsUnimodular h.w (⊎_elim (λ p. inl (d ∙ p)) (λ p. inr (d ∙ p)) (IsUnimodular-det g.w u))

module _ (L : SpaceGroup) (c : CoordinateChange) (i : IsChange c) where
  open L use {unit, some, members, closed}

  pub unimodular_in : (h : Map) → IsInChanged unit members c h → IsUnimodular h.w
  unimodular_in h r = unimodular_of_changed c i r.from h r.changed (unimodular L r.from r.element)

  pub in_changed_identity : IsInChanged unit members c identity_map
  in_changed_identity = record { from = identity_map; element = (space L).one_in; changed = changed-identity c }

  pub in_changed-∘ : (g h : Map) → IsInChanged unit members c g → IsInChanged unit members c h → IsInChanged unit members c (g ∘ h)
  in_changed-∘ g h p q = record { from = p.from ∘ q.from; element = (space L).mul_in p.from q.from p.element q.element; changed = changed-∘ c p.from q.from g h p.changed q.changed }

  undone : (h : Map) → IsUnimodular h.w → AreInverse h (undo h)
  undone h u = record { left = undo-∘ h u; right = ∘-undo h u }

  pub changed_undo : (g h : Map) → IsChanged c g h → IsUnimodular g.w → IsChanged c (undo g) (undo h)
  changed_undo g h e u = changed-inverse c g (undo g) h (undo h) (undone g u) (undone h (unimodular_of_changed c i g h e u)) e

  pub in_changed-undo : (h : Map) → IsInChanged unit members c h → IsInChanged unit members c (undo h)
  in_changed-undo h p = record { from = undo p.from; element = (space L).inv_in p.from p.element; changed = changed_undo p.from h p.changed (unimodular L p.from p.element) }

  pub undo_shift : (e : Column) → undo (shift_by unit e) ≡ shift_by unit (neg_column e)
  undo_shift e = sym (one_inverse L (shift_by unit e) (shift_by unit (neg_column e)) (shift_in L e) (shift_inverse unit e))

  -- all whole cells are in the changed group, where one along each axis is
  pub cells_in : IsCell unit members c → (k : Column) → IsInChanged unit members c (shift_by unit k)
  cells_in cell =
      let P : Column → Type 0 = λ k. IsInChanged unit members c (shift_by unit k) in
      let both : (e : Column) → P e → P e × P (neg_column e) = λ e p. (p, subst (IsInChanged unit members c) (undo_shift e) (in_changed-undo (shift_by unit e) p)) in
      all_columns P (subst (IsInChanged unit members c) (sym (no_shift unit)) in_changed_identity)
      (λ j k p q. subst (IsInChanged unit members c) (sym (shift_sum unit j k)) (in_changed-∘ (shift_by unit j) (shift_by unit k) p q))
      (both x_cell cell.x) (both y_cell cell.y) (both z_cell cell.z)

  -- ---- what the list generates

  module _ (list : List Operator) (gens : AreGenerators unit members c list) where
    abbrev F : Group
    F = operators unit some

    pub generators_valid : All (IsOperator unit) list
    generators_valid k d l =
        let r = gens.only (get_or list k d) (Contains-get_or list k d l) in
        subst (IsOperator unit) r.2 (IsOperator-of unit some r.0 (unimodular_in r.0 r.1))

    -- f is the operator of a changed map
    abbrev IsOfChanged : Operator → Type 0
    IsOfChanged f = (h : Map) × IsInChanged unit members c h × (operator_of unit h ≡ f)

    of_product : (f g : Operator) → IsOfChanged f → IsOfChanged g → IsOfChanged (product unit f g)
    of_product f g p q = (p.0 ∘ q.0, in_changed-∘ p.0 q.0 p.1 q.1, sym (operator_of-∘ unit some p.0 q.0) ∙ ap₂ (λ a b. product unit a b) p.2 q.2)

    -- what undoes the operator of a changed map is the operator of what undoes the map
    of_inverse : (f e : Operator) → IsOfChanged f → IsOperator unit e → product unit f e ≡ identity_operator → IsOfChanged e
    of_inverse f e p v q =
        let u : IsUnimodular p.0.w = unimodular_in p.0 p.1 in
        let h : Map = undo p.0 in
        let r = in_changed-undo p.0 p.1 in
        let vf : IsOperator unit f = subst (IsOperator unit) p.2 (IsOperator-of unit some p.0 u) in
        let vh : IsOperator unit (operator_of unit h) = IsOperator-of unit some h (unimodular_in h r) in (
          h,
          r,
          basics.cancel_left F f (operator_of unit h) e vf vh v
              (ap (λ x. product unit x (operator_of unit h)) (sym p.2) ∙ operator_of-∘ unit some p.0 h ∙ ap (operator_of unit) (∘-undo p.0 u) ∙ one_is unit some ∙ sym q),
        )

    of_letter : (e : Operator) → IsLetter F list e → IsOfChanged e
    of_letter e (inl m) = gens.only e m
    of_letter e (inr l) = of_inverse l.0 e (gens.only l.0 l.1) l.2 l.3

    of_word : (w : List Operator) (f : Operator) → IsOfChanged f → All (IsLetter F list) w → IsOfChanged (fold (product unit) f w)
    of_word [] f p l = p
    of_word (e ∷ w) f p l = of_word w (product unit f e) (of_product f e p (of_letter e (All-head (IsLetter F list) e w l))) (All-tail (IsLetter F list) e w l)

    -- each generated operator is that of a changed map
    pub of_span : (f : Operator) → Span F list f → IsOfChanged f
    of_span f s = subst IsOfChanged s.2 (of_word s.0 identity_operator (identity_map, in_changed_identity, one_is unit some) s.1)

    -- ---- and the operator of each changed map is generated

    -- g has its changed map, and the operator of this is generated
    abbrev IsReached : Map → Type 0
    IsReached g = (h : Map) × IsChanged c g h × Span F list (operator_of unit h)

    reached_product : (f g : Map) → IsReached f → IsReached g → IsReached (f ∘ g)
    reached_product f g p q = (
      p.0 ∘ q.0,
      changed-∘ c f g p.0 q.0 p.1 q.1,
      subst (Span F list) (operator_of-∘ unit some p.0 q.0) (closing.span_mul F list generators_valid (operator_of unit p.0) (operator_of unit q.0) p.2 q.2),
    )

    letter_reached : (e : Operator) → IsOperator unit e → IsLetter F list e → Span F list e
    letter_reached e v l = subst (Span F list) (F.left e v) (closing.span_letter F list identity_operator e (closing.span_one F list) l)

    generator_reached : (g : Map) → HasChanged unit c list g → IsReached g
    generator_reached g p = (p.0, p.1, letter_reached (operator_of unit p.0) (All-contains (IsOperator unit) list (operator_of unit p.0) generators_valid p.2) (inl p.2))

    -- so is what undoes it
    undo_reached : (g : Map) → IsElement unit members g → HasChanged unit c list g → IsReached (undo g)
    undo_reached g m p =
        let h : Map = p.0 in
        let u : IsUnimodular h.w = unimodular_of_changed c i g h p.1 (unimodular L g m) in
        let v : IsOperator unit (operator_of unit (undo h)) = IsOperator-of unit some (undo h) (unimodular-undo h u) in
        let one : product unit (operator_of unit h) (operator_of unit (undo h)) ≡ identity_operator = operator_of-∘ unit some h (undo h) ∙ ap (operator_of unit) (∘-undo h u) ∙ one_is unit some in
        (undo h, changed_undo g h p.1 (unimodular L g m), letter_reached (operator_of unit (undo h)) v (inr (operator_of unit h, p.2, v, one)))

    shifts_reached : (k : Column) → IsReached (shift_by unit k)
    shifts_reached =
        let both : (e : Column) → HasChanged unit c list (shift_by unit e) → IsReached (shift_by unit e) × IsReached (shift_by unit (neg_column e)) =
        λ e p. (generator_reached (shift_by unit e) p, subst IsReached (undo_shift e) (undo_reached (shift_by unit e) (shift_in L e) p)) in
        all_columns (λ k. IsReached (shift_by unit k))
        (subst IsReached (sym (no_shift unit)) (identity_map, changed-identity c, subst (Span F list) (sym (one_is unit some)) (closing.span_one F list)))
        (λ j k p q. subst IsReached (sym (shift_sum unit j k)) (reached_product (shift_by unit j) (shift_by unit k) p q))
        (both x_cell gens.x) (both y_cell gens.y) (both z_cell gens.z)

    -- each element has its changed map, whose operator is generated
    pub reached : (g : Map) → IsElement unit members g → IsReached g
    reached g m =
        let f : Operator = operator_of unit g in
        let v : IsOperator unit f = All-contains (IsOperator unit) members f closed.valid m in
        let k = shift_between unit some g (map_of f) (sym (operator_of-map unit some f v)) in
        subst IsReached (sym k.1) (reached_product (shift_by unit k.0) (map_of f) (shifts_reached k.0) (generator_reached (map_of f) (gens.each f m)))

    -- so a list of what it generates is one of the changed group
    pub generated_group : IsCell unit members c → (changed : List Operator) → ((f : Operator) → Contains changed f ↔ Span F list f) → IsChangedGroup unit members c changed
    generated_group cell changed same = record {
      each = λ g m. let k = reached g m in (k.0, (same (operator_of unit k.0)).1 k.2, k.1);
      only = λ h m.
          let p = of_span (operator_of unit h) ((same (operator_of unit h)).0 m) in
          let k = shift_between unit some h p.0 (sym p.2) in
          subst (IsInChanged unit members c) (sym k.1) (in_changed-∘ (shift_by unit k.0) p.0 (cells_in cell k.0) p.1);
    }
