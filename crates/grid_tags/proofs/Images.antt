-- The grid points to which operators and elements of the space group take a grid point.
use Rattle.std.proofs.Common.{◌≡◌, ℕ, ◌<◌, ◌≤◌, ℤ, pos, ◌+ℤ◌, ◌*ℤ◌, unsigned_abs, [], ◌∷◌, ap, sym, ◌∙◌, subst, refl, arith}
use Rattle.std.specs.Int.{int_rem_euclid}
use Rattle.std.specs.Int.RustNames.{int_div}
use Rattle.std.proofs.lemmas.Int.{ints}
use Rattle.lattice_algebra.specs.Matrix.{Column, ◌+ᶜ◌, times}
use Rattle.lattice_algebra.specs.Operator.{Operator, IsPart, identity_operator}
use Rattle.lattice_algebra.specs.Map.{Map, operator_of, map_of}
use Rattle.lattice_algebra.proofs.Maps.{shifted, operator_of-shifted, shift_of}
use Rattle.lattice_algebra.proofs.Remainders.{rem_is, rem_same, rem_part}
use Rattle.lattice_algebra.proofs.Ring.{var, ◌⊕◌, ◌⊗◌, ring, known, con, ring_from}
use Rattle.exact_ops.specs.declared.TheConstants.{UNIT}
use Rattle.exact_ops.proofs.Narrow.{some_parts}
use Rattle.exact_ops.specs.Narrow.{IsNarrow}
use Rattle.grid_tags.specs.Grids.{Grid, Triple, IsInGrid, IsGridImage, IsKeptBy, column_at}
use Rattle.grid_tags.specs.Steps.{AreAxesKept, IsAxisKept, ratio, turned, turned_coordinate, moved, moved_coordinate, act}
use Rattle.grid_tags.proofs.WholeRatios.{whole_quotient, coordinate, coordinate_modulo, coordinate_below}
use Rattle.grid_tags.proofs.Coordinates.{HasCoordinate, HaveCoordinates, coordinates_of, image_of, axis_kept, coordinate_is, has_coordinate}

-- each side of the grid has points
pub record HasSides (s : Grid) : Type 0 where
  pub a : 0 < s.a
  pub b : 0 < s.b
  pub c : 0 < s.c

-- some element of the operator f takes p to q
abbrev pub Takes : Grid → Operator → Triple → Triple → Type 0
Takes s f p q = (g : Map) × (operator_of UNIT g ≡ f) × IsGridImage s g (column_at p) (column_at q)

triple_path : (p q : Triple) → p.i ≡ q.i → p.j ≡ q.j → p.k ≡ q.k → p ≡ q
triple_path p q a b c = λ h. record { i = a h; j = b h; k = c h }

-- ---- one axis

-- the whole shift puts whole cells in
more_shift : (t s k : ℤ) (n : ℕ) → t *ℤ pos n ≡ s *ℤ pos UNIT → (t +ℤ pos UNIT *ℤ k) *ℤ pos n ≡ (s +ℤ pos n *ℤ k) *ℤ pos UNIT
more_shift t s k n e =
    ring_from (t ∷ s ∷ k ∷ pos n ∷ pos UNIT ∷ []) ((var 0 ⊕ var 4 ⊗ var 2) ⊗ var 3) ((var 1 ⊕ var 3 ⊗ var 2) ⊗ var 4) (known (con (pos 1)) (var 0 ⊗ var 3) (var 1 ⊗ var 4) ∷ []) (e, tt) tt

regroup : (w x p y q z s n k : ℤ) → w *ℤ x +ℤ p *ℤ y +ℤ q *ℤ z +ℤ (s +ℤ n *ℤ k) ≡ (w *ℤ x +ℤ p *ℤ y +ℤ q *ℤ z +ℤ s) +ℤ n *ℤ k
regroup w x p y q z s n k =
    ring (w ∷ x ∷ p ∷ y ∷ q ∷ z ∷ s ∷ n ∷ k ∷ []) (var 0 ⊗ var 1 ⊕ var 2 ⊗ var 3 ⊕ var 4 ⊗ var 5 ⊕ (var 6 ⊕ var 7 ⊗ var 8)) ((var 0 ⊗ var 1 ⊕ var 2 ⊗ var 3 ⊕ var 4 ⊗ var 5 ⊕ var 6) ⊕ var 7 ⊗ var 8) tt

part_of : (n r : ℕ) → r < n → IsPart n (pos r)
part_of n r l = (omega (arith, ints), omega (arith, ints, l))

same_number : (m n : ℕ) → pos m ≡ pos n → m ≡ n
same_number m n e = ap unsigned_abs e

module _ (w u v t : ℤ) (n m l i j k : ℕ) (hn : 0 < n) (hm : 0 < m) (hl : 0 < l) (hu : unsigned_abs u ≤ 2) (hv : unsigned_abs v ≤ 2) (kept : IsAxisKept u v t n m l) where
  -- where some whole shift takes it to r, r is the coordinate
  pub coordinate_only : (d : ℤ) (r : ℕ) → r < n → HasCoordinate n m l w u v (t +ℤ pos UNIT *ℤ d) (pos i) (pos j) (pos k) (pos r) → r ≡ coordinate w u v t n m l i j k
  coordinate_only d r below h =
      let p = kept.second in
      let q = kept.third in
      let s = kept.shift in
      let e = coordinate_is n m l w u v (t +ℤ pos UNIT *ℤ d) hm hl (pos i) (pos j) (pos k) p.0 q.0 (s.0 +ℤ pos n *ℤ d) (pos r) p.1 q.1 (more_shift t s.0 d n s.1) h in
      let f = e ∙ regroup w (pos i) p.0 (pos j) q.0 (pos k) s.0 (pos n) d in
      same_number r _ (sym (rem_part n hn (pos r) (part_of n r below)) ∙ rem_same n hn (pos r) _ d f ∙ sym (coordinate_modulo w u v t n m l i j k p.0 q.0 s.0 hu hv hn hm hl p.1 q.1 s.1))

  -- some whole shift takes it to the coordinate
  pub coordinate_shift : (d : ℤ) × HasCoordinate n m l w u v (t +ℤ pos UNIT *ℤ d) (pos i) (pos j) (pos k) (pos (coordinate w u v t n m l i j k))
  coordinate_shift =
      let p = kept.second in
      let q = kept.third in
      let s = kept.shift in
      let c = coordinate_modulo w u v t n m l i j k p.0 q.0 s.0 hu hv hn hm hl p.1 q.1 s.1 in
      let r = rem_is n hn (w *ℤ pos i +ℤ p.0 *ℤ pos j +ℤ q.0 *ℤ pos k +ℤ s.0) in
      (r.0, has_coordinate n m l w u v (t +ℤ pos UNIT *ℤ r.0) hm hl (pos i) (pos j) (pos k) p.0 q.0 (s.0 +ℤ pos n *ℤ r.0) _ p.1 q.1 (more_shift t s.0 r.0 n s.1) (c ∙ r.1 ∙ sym (regroup w (pos i) p.0 (pos j) q.0 (pos k) s.0 (pos n) r.0)))

-- ---- an operator

module _ (s : Grid) (sides : HasSides s) (f : Operator) where
  -- the axes are kept where each grid point goes to one
  pub axes_kept : IsKeptBy s f → AreAxesKept s f
  axes_kept kept =
      let g = map_of f in
      let o = pos 0 in
      let i = pos 1 in
      let at : (x y z : ℤ) → (u : Column) × HaveCoordinates s g (record { x = x; y = y; z = z }) u = λ x y z. let r = kept (record { x = x; y = y; z = z }) in (r.0, coordinates_of s g (record { x = x; y = y; z = z }) r.0 r.1) in
      let none = at o o o in
      let x = at i o o in
      let y = at o i o in
      let z = at o o i in
      record {
        x = axis_kept s.a s.b s.c f.w.xx f.w.xy f.w.xz f.t.x sides.b sides.c none.0.x y.0.x z.0.x none.1.x y.1.x z.1.x;
        y = axis_kept s.b s.a s.c f.w.yy f.w.yx f.w.yz f.t.y sides.a sides.c none.0.y x.0.y z.0.y none.1.y x.1.y z.1.y;
        z = axis_kept s.c s.a s.b f.w.zz f.w.zx f.w.zy f.t.z sides.a sides.b none.0.z x.0.z y.0.z none.1.z x.1.z y.1.z;
      }

  pub kept_by_axes : AreAxesKept s f → IsKeptBy s f
  kept_by_axes k v = (
    record {
      x = f.w.xx *ℤ v.x +ℤ k.x.second.0 *ℤ v.y +ℤ k.x.third.0 *ℤ v.z +ℤ k.x.shift.0;
      y = f.w.yy *ℤ v.y +ℤ k.y.second.0 *ℤ v.x +ℤ k.y.third.0 *ℤ v.z +ℤ k.y.shift.0;
      z = f.w.zz *ℤ v.z +ℤ k.z.second.0 *ℤ v.x +ℤ k.z.third.0 *ℤ v.y +ℤ k.z.shift.0;
    },
    image_of s (map_of f) v _ (record {
      x = has_coordinate s.a s.b s.c f.w.xx f.w.xy f.w.xz f.t.x sides.b sides.c v.x v.y v.z k.x.second.0 k.x.third.0 k.x.shift.0 _ k.x.second.1 k.x.third.1 k.x.shift.1 refl;
      y = has_coordinate s.b s.a s.c f.w.yy f.w.yx f.w.yz f.t.y sides.a sides.c v.y v.x v.z k.y.second.0 k.y.third.0 k.y.shift.0 _ k.y.second.1 k.y.third.1 k.y.shift.1 refl;
      z = has_coordinate s.c s.a s.b f.w.zz f.w.zx f.w.zy f.t.z sides.a sides.b v.z v.x v.y k.z.second.0 k.z.third.0 k.z.shift.0 _ k.z.second.1 k.z.third.1 k.z.shift.1 refl;
    }),
  )

  module _ (kept : AreAxesKept s f) (narrow : IsNarrow f) where
    -- it takes p to the point that is computed
    pub takes : (p : Triple) → Takes s f p (act s f p)
    unfolding turned moved ◌+ᶜ◌ times
    takes p =
        let n = narrow.within_two in
        let x = coordinate_shift f.w.xx f.w.xy f.w.xz f.t.x s.a s.b s.c p.i p.j p.k sides.a sides.b sides.c n.x.second n.x.third kept.x in
        let y = coordinate_shift f.w.yy f.w.yx f.w.yz f.t.y s.b s.a s.c p.j p.i p.k sides.b sides.a sides.c n.y.first n.y.third kept.y in
        let z = coordinate_shift f.w.zz f.w.zx f.w.zy f.t.z s.c s.a s.b p.k p.i p.j sides.c sides.a sides.b n.z.first n.z.second kept.z in
        let d : Column = record { x = x.0; y = y.0; z = z.0 } in
        (shifted UNIT f d, operator_of-shifted UNIT some_parts f d narrow.is_operator, image_of s (shifted UNIT f d) (column_at p) (column_at (act s f p)) (record { x = x.1; y = y.1; z = z.1 }))

    -- and to no other of the cell
    pub takes_only : (p q : Triple) → IsInGrid s q → Takes s f p q → q ≡ act s f p
    unfolding turned moved ◌+ᶜ◌ times
    takes_only p q i t =
        let n = narrow.within_two in
        let d = shift_of UNIT some_parts f t.0 t.1 in
        let h = coordinates_of s (shifted UNIT f d.0) (column_at p) (column_at q) (subst (λ g. IsGridImage s g (column_at p) (column_at q)) d.1 t.2) in
        triple_path q _
        (coordinate_only f.w.xx f.w.xy f.w.xz f.t.x s.a s.b s.c p.i p.j p.k sides.a sides.b sides.c n.x.second n.x.third kept.x d.0.x q.i i.i h.x)
        (coordinate_only f.w.yy f.w.yx f.w.yz f.t.y s.b s.a s.c p.j p.i p.k sides.b sides.a sides.c n.y.first n.y.third kept.y d.0.y q.j i.j h.y)
        (coordinate_only f.w.zz f.w.zx f.w.zy f.t.z s.c s.a s.b p.k p.i p.j sides.c sides.a sides.b n.z.first n.z.second kept.z d.0.z q.k i.k h.z)

-- ---- the point that is computed lies in the grid

pub act_in : (s : Grid) → HasSides s → (f : Operator) (p : Triple) → IsInGrid s (act s f p)
unfolding turned moved
act_in s sides f p = record { i = coordinate_below _ _ _ _ s.a s.b s.c p.i p.j p.k sides.a; j = coordinate_below _ _ _ _ s.b s.a s.c p.j p.i p.k sides.b; k = coordinate_below _ _ _ _ s.c s.a s.b p.k p.i p.j sides.c }

-- ---- the identity

part_below : (n i : ℕ) → i < n → unsigned_abs (int_rem_euclid (pos i) (pos n)) ≡ i
part_below n i l = ap unsigned_abs (rem_part n (omega (arith, l)) (pos i) (part_of n i l))

turned_itself : (n a b i j k : ℕ) → i < n → turned_coordinate (pos 1) (pos 0) (pos 0) n a b i j k ≡ i
turned_itself n a b i j k l =
    let o = con (pos 0) in
    let e = ring (pos i ∷ pos j ∷ pos k ∷ pos a ∷ pos b ∷ []) (con (pos 1) ⊗ (con (pos 2) ⊗ var 0) ⊕ o ⊗ (var 3 ⊗ var 1) ⊕ o ⊗ (var 4 ⊗ var 2)) (var 0 ⊗ con (pos 2)) tt in
    ap (λ z. unsigned_abs (int_rem_euclid z (pos n))) (whole_quotient _ (pos i) 2 (omega arith) e) ∙ part_below n i l

moved_itself : (n i : ℕ) → i < n → moved_coordinate i (pos 0) n ≡ i
moved_itself n i l =
    let e = ring (pos n ∷ []) (con (pos 0) ⊗ var 0) (con (pos 0) ⊗ con (pos UNIT)) tt in
    let plain : pos i +ℤ int_div (pos 0 *ℤ pos n) (pos UNIT) ≡ pos i = ap (λ z. pos i +ℤ z) (whole_quotient (pos 0 *ℤ pos n) (pos 0) UNIT some_parts e) ∙ ring (pos i ∷ []) (var 0 ⊕ con (pos 0)) (var 0) tt in
    ap (λ z. unsigned_abs (int_rem_euclid z (pos n))) plain ∙ part_below n i l

itself_coordinate : (n a b i j k : ℕ) → i < n → moved_coordinate (turned_coordinate (pos 1) (pos 0) (pos 0) n a b i j k) (pos 0) n ≡ i
itself_coordinate n a b i j k l = ap (λ m. moved_coordinate m (pos 0) n) (turned_itself n a b i j k l) ∙ moved_itself n i l

pub act_one : (s : Grid) (p : Triple) → IsInGrid s p → act s identity_operator p ≡ p
unfolding turned moved
act_one s p i = triple_path _ p
    (itself_coordinate s.a (ratio s.a s.b) (ratio s.a s.c) p.i p.j p.k i.i)
    (itself_coordinate s.b (ratio s.b s.a) (ratio s.b s.c) p.j p.i p.k i.j)
    (itself_coordinate s.c (ratio s.c s.a) (ratio s.c s.b) p.k p.i p.j i.k)
