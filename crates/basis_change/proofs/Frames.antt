-- A change of coordinates with its inverse: what is computed from it.
use Rattle.std.proofs.Common.{◌≡◌, ◌≢◌, ◌↔◌, ◌≤◌, ◌-◌, ◌*◌, [], ◌∷◌, ℕ, ℤ, pos, ◌+ℤ◌, ◌*ℤ◌, neg_ℤ, ◌<ℤ◌, ◌≤ℤ◌, unsigned_abs, w32, w64, FitsSigned, List, ap, sym, ◌∙◌, subst, refl, arith, le_trans, le_refl, to_z-of_z, Option, Some, slice_get, map}
use Rattle.std.proofs.lemmas.Int.{ints}
use Rattle.std.specs.Int.{int_rem_euclid}
use Rattle.lattice_algebra.specs.Matrix.{Matrix, Column, det, adjugate, scaled, identity, matrix_of, column_of, ◌·◌, ◌·ᶜ◌, ◌+ᶜ◌, neg_column, times}
use Rattle.lattice_algebra.specs.Operator.{AreParts, AreWithin, HasEntriesWithin, modulo}
use Rattle.lattice_algebra.specs.Map.{Map, operator_of}
use Rattle.lattice_algebra.proofs.Machine.{back, kept, read, fits, computed, value-size, IsWithin}
use Rattle.lattice_algebra.proofs.Ring.{var, con, ◌⊗◌, ring}
use Rattle.lattice_algebra.proofs.MatrixRing.{sym_det, sym_scaled, sym_identity}
use Rattle.lattice_algebra.proofs.Columns.{·ᶜ-times}
use Rattle.std.specs.Prelude.{option_map, unwrap_or}
use Rattle.std.proofs.lemmas.Option.{slice_get-map}
use Rattle.lattice_algebra.proofs.Numbers.{cancel_some}
use Rattle.lattice_algebra.proofs.Matrices.{·-adjugate, adjugate-·, det-·}
use Rattle.lattice_algebra.proofs.Maps.{operator_path}
use Rattle.lattice_algebra.proofs.Remainders.{modulo_parts}
use Rattle.exact_ops.specs.declared.TheConstants.{UNIT, MAX_ENTRY}
use Rattle.exact_ops.specs.Raw.{numbers_of, IsInRange}
use Rattle.exact_ops.proofs.Narrow.{some_parts, AreWithin-parts}
use Rattle.space_groups.specs.Bases.{CoordinateChange, IsInvertible, IsChange, IsChanged}
use Rattle.space_groups.proofs.CellTests.{matrix_test, translation_found, translation_needs}
use Rattle.basis_change.specs.declared.TheConstants.{MAX_CELL}
use Rattle.basis_change.specs.Wide.{wide_matrix, wide_column, WIDE}
use Rattle.basis_change.specs.declared.frame.Frame.{Frame}
use Rattle.basis_change.specs.Frames.{IsFrame, change_in, cells, HasWholeMatrix, HasMap}

-- ---- sizes

pub three_wider : (n m : ℕ) (a b c : ℤ) → n ≤ m → AreWithin n a b c → AreWithin m a b c
three_wider n m a b c l h = record { first = le_trans h.first l; second = le_trans h.second l; third = le_trans h.third l }

pub wider : (n m : ℕ) (w : Matrix) → n ≤ m → HasEntriesWithin n w → HasEntriesWithin m w
wider n m w l h = record { x = three_wider n m _ _ _ l h.x; y = three_wider n m _ _ _ l h.y; z = three_wider n m _ _ _ l h.z }

-- what a product of three is at most
abbrev pub BOUND : ℕ
BOUND = 3 * (WIDE * WIDE)

pub narrow_wide : (w : Matrix) → HasEntriesWithin 2 w → HasEntriesWithin WIDE w
narrow_wide w h = wider 2 WIDE w (omega arith) h

pub entries_wide : (w : Matrix) → HasEntriesWithin MAX_ENTRY w → HasEntriesWithin WIDE w
entries_wide w h = wider MAX_ENTRY WIDE w (omega arith) h

pub product_wide : (w : Matrix) → HasEntriesWithin (3 * (MAX_ENTRY * 2)) w → HasEntriesWithin WIDE w
product_wide w h = wider (3 * (MAX_ENTRY * 2)) WIDE w (omega arith) h

pub parts_wide : (t : Column) → AreParts UNIT t → AreWithin WIDE t.x t.y t.z
parts_wide t p = three_wider (UNIT - 1) WIDE t.x t.y t.z (omega arith) (AreWithin-parts t p)

pub unit_wide : (a b c : ℤ) → AreWithin UNIT a b c → AreWithin WIDE a b c
unit_wide a b c h = three_wider UNIT WIDE a b c (omega arith) h

pub origin_within : (f : Frame) → IsFrame f → AreWithin UNIT f.t.x f.t.y f.t.z
origin_within f r = three_wider (UNIT - 1) UNIT _ _ _ (omega arith) (AreWithin-parts (wide_column f.t) r.in_cell)

-- ---- the inverse

pub right_is : (s : ℤ) (w v : Matrix) (k : ℤ) → v ≡ scaled s (adjugate w) → k ≡ s *ℤ det w → w · v ≡ scaled k identity
right_is s w v k e d = ap (λ m. w · m) e ∙ ·-adjugate s w ∙ ap (λ n. scaled n identity) (sym d)

pub left_is : (s : ℤ) (w v : Matrix) (k : ℤ) → v ≡ scaled s (adjugate w) → k ≡ s *ℤ det w → v · w ≡ scaled k identity
left_is s w v k e d = ap (λ m. m · w) e ∙ adjugate-· s w ∙ ap (λ n. scaled n identity) (sym d)

-- ---- what a frame computes

pub positive_some : (k : ℤ) → pos 0 <ℤ k → k ≢ pos 0
positive_some k p e = omega (arith, ints, p, e)

module _ (f : Frame) (r : IsFrame f) where
  abbrev c : CoordinateChange
  c = change_in f

  abbrev pub invertible : IsInvertible c.w
  invertible = record { v = wide_matrix f.v; k = f.k; some = positive_some f.k r.some; right = r.right; left = r.left }

  abbrev pub is_change : IsChange c
  is_change = record { invertible = invertible; positive = r.positive }

  -- the changed matrix of x is whole exactly where k divides W x V
  pub rotation_some : (x p : Matrix) (k : ℤ) (B : Type 0) → k ≡ f.k → p ≡ c.w · x · wide_matrix f.v → B ↔ ((m : Matrix) × (scaled k m ≡ p)) → B ↔ ((m : Matrix) × (m · c.w ≡ c.w · x))
  rotation_some x p k B e q h = (
    (λ b. let s = h.0 b in (s.0, (matrix_test c.w invertible x s.0).1 (ap (λ z. scaled z s.0) (sym e) ∙ s.1 ∙ q))),
    (λ s. h.1 (s.0, ap (λ z. scaled z s.0) e ∙ (matrix_test c.w invertible x s.0).0 s.1 ∙ sym q)),
  )

  pub rotation_value : (x p : Matrix) (k : ℤ) → k ≡ f.k → p ≡ c.w · x · wide_matrix f.v → (m : Matrix) → scaled k m ≡ p → m · c.w ≡ c.w · x
  rotation_value x p k e q m s = (matrix_test c.w invertible x m).1 (ap (λ z. scaled z m) (sym e) ∙ s ∙ q)

  -- ---- the changed map of g

  module _ (g : Map) where
    abbrev found : Matrix → Column → Map
    found m q = record { w = m; s = q +ᶜ c.t +ᶜ neg_column (m ·ᶜ c.t) }

    pub map_found : (m : Matrix) (q : Column) → m · c.w ≡ c.w · g.w → times c.d q ≡ c.w ·ᶜ g.s → IsChanged c g (found m q)
    map_found m q e p = translation_found c g m q e p

    pub map_has_column : HasMap c g → (q : Column) × (times c.d q ≡ c.w ·ᶜ g.s)
    map_has_column h = translation_needs c g h.0 h.1

    pub map_has_matrix : HasMap c g → HasWholeMatrix c g
    map_has_matrix h = (h.0.w, h.1.rotation)

    pub changed_value : (m : Matrix) (q : Column) (w t : List ℤ) → m · c.w ≡ c.w · g.w → times c.d q ≡ c.w ·ᶜ g.s → matrix_of w ≡ m → column_of t ≡ modulo UNIT (q +ᶜ c.t +ᶜ neg_column (m ·ᶜ c.t)) → (h : Map) × IsChanged c g h × (numbers_of w t ≡ operator_of UNIT h)
    unfolding operator_of
    changed_value m q w t e p a b = (found m q, map_found m q e p, operator_path (numbers_of w t) (operator_of UNIT (found m q)) a b)

    pub changed_in_range : (m : Matrix) (q : Column) (w t : List ℤ) → HasEntriesWithin 2 m → matrix_of w ≡ m → column_of t ≡ modulo UNIT (q +ᶜ c.t +ᶜ neg_column (m ·ᶜ c.t)) → IsInRange (numbers_of w t)
    changed_in_range m q w t n a b = record {
      within = subst (HasEntriesWithin MAX_ENTRY) (sym a) (wider 2 MAX_ENTRY m (omega arith) n);
      in_cell = subst (AreParts UNIT) (sym b) (modulo_parts UNIT some_parts (q +ᶜ c.t +ᶜ neg_column (m ·ᶜ c.t)));
    }

-- ---- the translation

place_is : (r q t b : ℤ) → FitsSigned w32 r → unsigned_abs q ≤ BOUND → unsigned_abs t ≤ UNIT → unsigned_abs b ≤ BOUND → r ≡ int_rem_euclid (back w64 q +ℤ back w64 t +ℤ neg_ℤ (back w64 b)) (pos UNIT) → back w32 r ≡ int_rem_euclid (q +ℤ t +ℤ neg_ℤ b) (pos UNIT)
place_is r q t b f h k l e = read w32 r _ f (e ∙ λ i. int_rem_euclid (kept w64 BOUND q h tt i +ℤ kept w64 UNIT t k tt i +ℤ neg_ℤ (kept w64 BOUND b l tt i)) (pos UNIT))

abbrev pub IsPlaced : ℤ → ℤ → ℤ → ℤ → Type 0
IsPlaced r q t b = r ≡ int_rem_euclid (back w64 q +ℤ back w64 t +ℤ neg_ℤ (back w64 b)) (pos UNIT)

pub translation_is : (q t b v : Column) (x y z : ℤ) → b ≡ v → (FitsSigned w32 x) × (FitsSigned w32 y) × (FitsSigned w32 z) → AreWithin BOUND q.x q.y q.z → AreWithin UNIT t.x t.y t.z → AreWithin BOUND b.x b.y b.z
    → IsPlaced x q.x t.x b.x → IsPlaced y q.y t.y b.y → IsPlaced z q.z t.z b.z → record { x = back w32 x; y = back w32 y; z = back w32 z } ≡ modulo UNIT (q +ᶜ t +ᶜ neg_column v)
unfolding modulo ◌+ᶜ◌ neg_column
translation_is q t b v x y z s f h k l d e g =
    (λ i. record {
      x = place_is x q.x t.x b.x f.0 h.first k.first l.first d i;
      y = place_is y q.y t.y b.y f.1 h.second k.second l.second e i;
      z = place_is z q.z t.z b.z f.2 h.third k.third l.third g i;
    })
    ∙ ap (λ u. modulo UNIT (q +ᶜ t +ᶜ neg_column u)) s

-- ---- what is passed on

pub passed_divisor : (d dd : ℤ) (a b : Column) (B : Type 0) → dd ≡ d → a ≡ b → B ↔ ((q : Column) × (times dd q ≡ a)) → B ↔ ((q : Column) × (times d q ≡ b))
passed_divisor d dd a b B e f h = ((λ p. let q = h.0 p in (q.0, ap (λ z. times z q.0) (sym e) ∙ q.1 ∙ f)), (λ q. h.1 (q.0, ap (λ z. times z q.0) e ∙ q.1 ∙ sym f)))

pub sign_some : (k n : ℤ) → k ≡ n → n ≢ pos 0 → k ≢ pos 0
sign_some k n e h z = h (sym e ∙ z)

-- a frame from its numbers
pub is_frame : (f : Frame) (s n : ℤ) (d : ℕ) → HasEntriesWithin MAX_ENTRY (wide_matrix f.w) → HasEntriesWithin WIDE (wide_matrix f.v) → wide_matrix f.v ≡ scaled s (adjugate (wide_matrix f.w)) → f.k ≡ s *ℤ n → n ≡ det (wide_matrix f.w) → pos 0 <ℤ (s *ℤ n) → AreParts UNIT (wide_column f.t) → f.d ≡ pos d → 1 ≤ d → d ≤ MAX_CELL → IsFrame f
is_frame f s n d w v a k e p t q first last =
    let same : f.k ≡ s *ℤ det (wide_matrix f.w) = k ∙ ap (λ z. s *ℤ z) e in
    record {
      within = w;
      inverse_within = v;
      some = subst (λ z. pos 0 <ℤ z) (sym k) p;
      right = right_is s (wide_matrix f.w) (wide_matrix f.v) f.k a same;
      left = left_is s (wide_matrix f.w) (wide_matrix f.v) f.k a same;
      in_cell = t;
      positive = subst (λ z. pos 0 <ℤ z) (sym q) (omega (arith, ints, first));
      small = subst (λ z. z ≤ℤ pos MAX_CELL) (sym q) (omega (arith, ints, last));
    }

-- ---- the number d UNIT

abbrev over : ℤ → ℤ → ℤ
over d u = back w64 (back w64 d *ℤ back w64 u)

bounds_over : (d u : ℤ) → unsigned_abs d ≤ MAX_CELL → u ≡ pos UNIT → IsWithin (MAX_CELL ∷ UNIT ∷ []) (d ∷ u ∷ [])
bounds_over d u h e = (h, (subst (λ v. unsigned_abs v ≤ UNIT) (sym e) (le_refl UNIT), tt))

pub over_fits : (d u : ℤ) → unsigned_abs d ≤ MAX_CELL → u ≡ pos UNIT → FitsSigned w64 (back w64 d *ℤ back w64 u)
over_fits d u h e = fits w64 (MAX_CELL ∷ UNIT ∷ []) (d ∷ u ∷ []) (var 0 ⊗ var 1) (bounds_over d u h e) tt

pub over_is : (d u : ℤ) → unsigned_abs d ≤ MAX_CELL → u ≡ pos UNIT → over d u ≡ d *ℤ pos UNIT
over_is d u h e = computed w64 (MAX_CELL ∷ UNIT ∷ []) (d ∷ u ∷ []) (var 0 ⊗ var 1) (bounds_over d u h e) tt ∙ ap (λ z. d *ℤ z) e

pub over_within : (d u : ℤ) (c : Column) → unsigned_abs d ≤ MAX_CELL → u ≡ pos UNIT → AreWithin (unsigned_abs (over d u)) c.x c.y c.z → AreWithin WIDE c.x c.y c.z
over_within d u c h e w =
    three_wider (unsigned_abs (over d u)) WIDE c.x c.y c.z
    (subst (λ z. unsigned_abs z ≤ WIDE) (sym (over_is d u h e)) (le_trans (value-size (MAX_CELL ∷ UNIT ∷ []) (d ∷ pos UNIT ∷ []) (var 0 ⊗ var 1) (bounds_over d (pos UNIT) h refl)) (omega arith))) w

pub denominator_within : (f : Frame) → IsFrame f → unsigned_abs f.d ≤ MAX_CELL
denominator_within f r = size f.d r.positive r.small
  where
    size : (d : ℤ) → pos 0 <ℤ d → d ≤ℤ pos MAX_CELL → unsigned_abs d ≤ MAX_CELL
    size d p q = omega (arith, ints, p, q)

-- ---- one cell along an axis

pub cell_is : (n : ℤ) (i : ℕ) (c e : Column) → slice_get (map (times n) cells) i ≡ Some c → slice_get cells i ≡ Some e → c ≡ times n e
cell_is n i c e p q = ap (λ (o : Option Column). unwrap_or o c) (sym p ∙ slice_get-map (times n) cells i ∙ ap (option_map (times n)) q)

pub cell_product : (v : Matrix) (n m : ℤ) (c e b : Column) → n ≡ m → c ≡ times n e → b ≡ v ·ᶜ c → b ≡ times m (v ·ᶜ e)
cell_product v n m c e b s p q = q ∙ ap (λ x. v ·ᶜ x) (p ∙ ap (λ z. times z e) s) ∙ ·ᶜ-times v m e

-- ---- the operator of a translation

pub identity_within : HasEntriesWithin MAX_ENTRY identity
identity_within = record {
  x = record { first = omega arith; second = omega arith; third = omega arith };
  y = record { first = omega arith; second = omega arith; third = omega arith };
  z = record { first = omega arith; second = omega arith; third = omega arith };
}

pub identity_narrow : HasEntriesWithin 2 identity
identity_narrow = record {
  x = record { first = omega arith; second = omega arith; third = omega arith };
  y = record { first = omega arith; second = omega arith; third = omega arith };
  z = record { first = omega arith; second = omega arith; third = omega arith };
}

pub parts_are : (s : Column) (x y z : ℤ) → (FitsSigned w64 s.x) × (FitsSigned w64 s.y) × (FitsSigned w64 s.z) → (FitsSigned w32 x) × (FitsSigned w32 y) × (FitsSigned w32 z)
    → x ≡ int_rem_euclid (back w64 s.x) (pos UNIT) → y ≡ int_rem_euclid (back w64 s.y) (pos UNIT) → z ≡ int_rem_euclid (back w64 s.z) (pos UNIT) → record { x = back w32 x; y = back w32 y; z = back w32 z } ≡ modulo UNIT s
unfolding modulo
parts_are s x y z k f p q r = λ i. record {
  x = read w32 x _ f.0 (p ∙ ap (λ v. int_rem_euclid v (pos UNIT)) (to_z-of_z k.0)) i;
  y = read w32 y _ f.1 (q ∙ ap (λ v. int_rem_euclid v (pos UNIT)) (to_z-of_z k.1)) i;
  z = read w32 z _ f.2 (r ∙ ap (λ v. int_rem_euclid v (pos UNIT)) (to_z-of_z k.2)) i;
}

pub translation_in_range : (s : Column) (w t : List ℤ) → matrix_of w ≡ identity → column_of t ≡ modulo UNIT s → IsInRange (numbers_of w t)
translation_in_range s w t a b = record { within = subst (HasEntriesWithin MAX_ENTRY) (sym a) identity_within; in_cell = subst (AreParts UNIT) (sym b) (modulo_parts UNIT some_parts s) }

pub translation_operator : (s : Column) (w t : List ℤ) → matrix_of w ≡ identity → column_of t ≡ modulo UNIT s → numbers_of w t ≡ operator_of UNIT (record { w = identity; s = s })
unfolding operator_of
translation_operator s w t a b = operator_path (numbers_of w t) (operator_of UNIT (record { w = identity; s = s })) a b

-- ---- which matrices have an inverse over the rationals

det_scaled : (k : ℤ) → det (scaled k identity) ≡ k *ℤ (k *ℤ k)
unfolding det scaled
det_scaled k = ring (k ∷ []) (sym_det (sym_scaled (var 0) sym_identity)) (var 0 ⊗ (var 0 ⊗ var 0)) tt

no_product : (d : ℤ) → pos 0 *ℤ d ≡ pos 0
no_product d = ring (d ∷ []) (con (pos 0) ⊗ var 0) (con (pos 0)) tt

times_none : (k : ℤ) → k *ℤ pos 0 ≡ pos 0
times_none k = ring (k ∷ []) (var 0 ⊗ con (pos 0)) (con (pos 0)) tt

pub det_some : (w : Matrix) → IsInvertible w → det w ≢ pos 0
det_some w i e =
    let k = i.k in
    let cube : k *ℤ (k *ℤ k) ≡ pos 0 = sym (det_scaled k) ∙ ap det (sym i.right) ∙ det-· w i.v ∙ ap (λ d. d *ℤ det i.v) e ∙ no_product (det i.v) in
    let square : k *ℤ k ≡ pos 0 = cancel_some k (k *ℤ k) (pos 0) i.some (cube ∙ sym (times_none k)) in
    i.some (cancel_some k k (pos 0) i.some (square ∙ sym (times_none k)))
