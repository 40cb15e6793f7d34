-- Orbits in the cell: two that have a point in common are one, and one that is written twice in order begins with one point.
use Rattle.std.proofs.Common.{◌≡◌, ◌⊎◌, ◌∷◌, [], zero, suc, List, Some, slice_get, get_or, ℤ, pos, ◌<ℤ◌, ◌≤ℤ◌, ◌*ℤ◌, ◌+ℤ◌, Contains, inl, inr, ap, sym, ◌∙◌, subst, arith}
use Rattle.std.proofs.lemmas.Int.{ints}
use Rattle.std.proofs.lemmas.Option.{slice_get_within, get_or_from_slice_get}
use Rattle.std.proofs.lemmas.List.Elements.{All-contains}
use Rattle.lattice_algebra.specs.Matrix.{Column, coordinates, times}
use Rattle.lattice_algebra.specs.Operator.{Operator}
use Rattle.lattice_algebra.specs.Map.{Map, ◌∘◌, undo}
use Rattle.lattice_algebra.specs.Point.{Point, IsPoint, ◌≈◌, image}
use Rattle.lattice_algebra.proofs.Numbers.{more_at_most}
use Rattle.lattice_algebra.proofs.Ring.{var, con, ◌⊗◌, ◌⊕◌, ring}
use Rattle.lattice_algebra.proofs.Points.{≈_sym, ≈_trans, image-same, IsPoint-image}
use Rattle.exact_ops.specs.declared.TheConstants.{UNIT}
use Rattle.exact_ops.proofs.Narrow.{some_parts}
use Rattle.group_closure.specs.GroupList.{IsGroup}
use Rattle.space_groups.specs.Space.{IsElement, IsInOrbit, ScaledPoint, moved, point_of}
use Rattle.space_groups.specs.Keys.{IsBelow}
use Rattle.space_groups.proofs.Elements.{space}
use Rattle.space_groups.proofs.ScaledPoints.{moved-∘, moved-identity}
use Rattle.space_groups.proofs.Points.{scaled_of, image_of, IsPoint-scaled}
use Rattle.space_groups.proofs.Ordered.{below_on, not_below_itself}
use Rattle.site_symmetry.proofs.SpaceOfGroup.{space_of}
use Rattle.orbit_map.specs.OrderedOrbit.{IsOrderedOrbit}
use Rattle.atom_expand.specs.Expansions.{HaveOneOrbit}

abbrev img : Map → Point → Point
img = image UNIT

module _ (members : List Operator) (group : IsGroup members) where
  -- ---- products and inverses on rational points

  composed : (g h : Map) (x : Point) → IsPoint x → img (g ∘ h) x ≈ img g (img h x)
  composed g h x px =
      let L = space_of members group in
      let y = scaled_of UNIT some_parts x px in
      let z : ScaledPoint = moved g (moved h y.0) in
      let a : img (g ∘ h) x ≈ point_of UNIT z = subst (λ v. img (g ∘ h) x ≈ point_of UNIT v) (moved-∘ g h y.0) (image_of L x y.0 (g ∘ h) y.1) in
      let b : img g (img h x) ≈ point_of UNIT z = image_of L (img h x) (moved h y.0) g (image_of L x y.0 h y.1) in
      ≈_trans (img (g ∘ h) x) (point_of UNIT z) (img g (img h x)) (IsPoint-scaled UNIT some_parts z) a (≈_sym (img g (img h x)) (point_of UNIT z) b)

  undone : (h : Map) → IsElement UNIT members h → (x : Point) → IsPoint x → img (undo h) (img h x) ≈ x
  undone h m x px =
      let L = space_of members group in
      let y = scaled_of UNIT some_parts x px in
      let back : moved (undo h) (moved h y.0) ≡ y.0 = sym (moved-∘ (undo h) h y.0) ∙ ap (λ g. moved g y.0) ((space L).inv_left h m) ∙ moved-identity y.0 in
      let a : img (undo h) (img h x) ≈ point_of UNIT y.0 = subst (λ v. img (undo h) (img h x) ≈ point_of UNIT v) back (image_of L (img h x) (moved h y.0) (undo h) (image_of L x y.0 h y.1)) in
      ≈_trans (img (undo h) (img h x)) (point_of UNIT y.0) x (IsPoint-scaled UNIT some_parts y.0) a (≈_sym x (point_of UNIT y.0) y.1)

  -- ---- orbits that meet

  -- some element maps y to x
  Reaches : Point → Point → Type 0
  Reaches y x = (w : Map) × IsElement UNIT members w × (img w y ≈ x)

  reached : (x y p q : Point) → IsPoint x → IsPoint y → IsPoint p → IsPoint q → IsInOrbit UNIT members x p → IsInOrbit UNIT members y q → p ≈ q → Reaches y x
  unfolding Reaches
  reached x y p q px py pp pq a b e =
      let S = space (space_of members group) in
      let h = a.by in
      let k = b.by in
      let to_x : img k y ≈ img h x =
      ≈_trans (img k y) q (img h x) pq b.is_image (≈_trans q p (img h x) pp (≈_sym p q e) (≈_sym (img h x) p a.is_image)) in
      let back : img (undo h) (img k y) ≈ x =
      ≈_trans (img (undo h) (img k y)) (img (undo h) (img h x)) x (IsPoint-image UNIT some_parts (undo h) (img h x) (IsPoint-image UNIT some_parts h x px)) (image-same UNIT (undo h) (img k y) (img h x) to_x) (undone h a.element x px) in (
        undo h ∘ k,
        S.mul_in (undo h) k (S.inv_in h a.element) b.element,
        ≈_trans (img (undo h ∘ k) y) (img (undo h) (img k y)) x (IsPoint-image UNIT some_parts (undo h) (img k y) (IsPoint-image UNIT some_parts k y py)) (composed (undo h) k y py) back,
      )

  through : (x y r : Point) → IsPoint x → IsPoint y → Reaches y x → IsInOrbit UNIT members x r → IsInOrbit UNIT members y r
  unfolding Reaches
  through x y r px py w a =
      let S = space (space_of members group) in
      let g = a.by in
      record {
        by = g ∘ w.0;
        element = S.mul_in g w.0 a.element w.1;
        is_image =
            ≈_trans (img (g ∘ w.0) y) (img g (img w.0 y)) r (IsPoint-image UNIT some_parts g (img w.0 y) (IsPoint-image UNIT some_parts w.0 y py)) (composed g w.0 y py)
            (≈_trans (img g (img w.0 y)) (img g x) r (IsPoint-image UNIT some_parts g x px) (image-same UNIT g (img w.0 y) x w.2) a.is_image);
        in_cell = a.in_cell;
      }

  pub orbits_that_meet : (x y p q : Point) → IsPoint x → IsPoint y → IsPoint p → IsPoint q → IsInOrbit UNIT members x p → IsInOrbit UNIT members y q → p ≈ q → HaveOneOrbit members x y
  orbits_that_meet x y p q px py pp pq a b e = λ r pr. (through x y r px py (reached x y p q px py pp pq a b e), through y x r py px (reached y x q p py px pq pp b a (≈_sym p q e)))

-- ---- the first points of ordered orbits

more_times : (k a b : ℤ) → pos 0 <ℤ k → a <ℤ b → (k *ℤ a) <ℤ (k *ℤ b)
more_times k a b h l =
    let m : (k *ℤ (a +ℤ pos 1)) ≤ℤ (k *ℤ b) = more_at_most k (a +ℤ pos 1) b (omega (arith, ints)) (omega (arith, ints)) in
    let e : k *ℤ (a +ℤ pos 1) ≡ k *ℤ a +ℤ k = ring (k ∷ a ∷ []) (var 0 ⊗ (var 1 ⊕ con (pos 1))) (var 0 ⊗ var 1 ⊕ var 0) tt in
    less (k *ℤ a) (k *ℤ b) k (k *ℤ (a +ℤ pos 1)) h e m
  where
    less : (u v k w : ℤ) → pos 0 <ℤ k → w ≡ u +ℤ k → w ≤ℤ v → u <ℤ v
    less u v k w h e m = omega (arith, ints, e)

below_times : (k : ℤ) → pos 0 <ℤ k → (c d : Column) → IsBelow (coordinates c) (coordinates d) → IsBelow (coordinates (times k c)) (coordinates (times k d))
unfolding times
below_times k h c d (inl l) = inl (more_times k c.x d.x h l)
below_times k h c d (inr (e, inl l)) = inr (ap (λ v. k *ℤ v) e, inl (more_times k c.y d.y h l))
below_times k h c d (inr (e, inr (f, inl l))) = inr (ap (λ v. k *ℤ v) e, inr (ap (λ v. k *ℤ v) f, inl (more_times k c.z d.z h l)))
below_times k h c d (inr (e, inr (f, inr (g, b)))) = absurd b

-- no two lists in order each have the first of the other behind their own
crossed_orders : (D E : ℤ) → pos 0 <ℤ D → pos 0 <ℤ E → (p a q b : Point) → p.d ≡ D → a.d ≡ D → q.d ≡ E → b.d ≡ E → p ≈ b → q ≈ a → IsBelow (coordinates p.n) (coordinates a.n) → IsBelow (coordinates q.n) (coordinates b.n) → ⊥
crossed_orders D E h g p a q b pd ad qd bd s t l m =
    let one : times E p.n ≡ times D b.n = ap (λ k. times k p.n) (sym bd) ∙ s ∙ ap (λ k. times k b.n) pd in
    let two : times D q.n ≡ times E a.n = ap (λ k. times k q.n) (sym ad) ∙ t ∙ ap (λ k. times k a.n) qd in
    let up : IsBelow (coordinates (times E p.n)) (coordinates (times D q.n)) = subst (λ c. IsBelow (coordinates (times E p.n)) (coordinates c)) (sym two) (below_times E g p.n a.n l) in
    let on : IsBelow (coordinates (times D q.n)) (coordinates (times E p.n)) = subst (λ c. IsBelow (coordinates (times D q.n)) (coordinates c)) (sym one) (below_times D h q.n b.n m) in
    not_below_itself (coordinates (times E p.n)) (below_on (coordinates (times E p.n)) (coordinates (times D q.n)) (coordinates (times E p.n)) up on)

pub first_among : (list : List Point) (p : Point) → slice_get list 0 ≡ Some p → Contains list p
first_among list p e = (0, slice_get_within list 0 p e, get_or_from_slice_get list 0 p p e)

-- a point of an ordered list is the first, or stands behind it
first_or_behind : (members : List Operator) (x : Point) (list : List Point) (p a : Point) → IsOrderedOrbit members x list → slice_get list 0 ≡ Some p → Contains list a → (p ≡ a) ⊎ IsBelow (coordinates p.n) (coordinates a.n)
first_or_behind members x list p a o e (zero, l, is) = inl (sym (get_or_from_slice_get list 0 p a e) ∙ is)
first_or_behind members x list p a o e (suc j, l, is) =
    let under = o.ascending 0 (suc j) a (omega arith) l in
    inr (subst (λ (v : Point). IsBelow (coordinates p.n) (coordinates v.n)) is (subst (λ (v : Point). IsBelow (coordinates v.n) (coordinates (get_or list (suc j) a).n)) (get_or_from_slice_get list 0 p a e) under))

module _ (members : List Operator) (group : IsGroup members) (x y : Point) (px : IsPoint x) (py : IsPoint y) (a b : List Point) (oa : IsOrderedOrbit members x a) (ob : IsOrderedOrbit members y b) (p q : Point) (first_a : slice_get a 0 ≡ Some p)
    (first_b : slice_get b 0 ≡ Some q) where
  in_a : IsPoint p × IsInOrbit UNIT members x p
  in_a = oa.orbit.in_orbit p (first_among a p first_a)

  in_b : IsPoint q × IsInOrbit UNIT members y q
  in_b = ob.orbit.in_orbit q (first_among b q first_b)

  -- where the first points are one, the orbits are
  pub one_from_first : p ≈ q → HaveOneOrbit members x y
  one_from_first e = orbits_that_meet members group x y p q px py in_a.0 in_b.0 in_a.1 in_b.1 e

  -- and where the orbits are one, the first points are
  pub first_from_one : HaveOneOrbit members x y → p ≈ q
  first_from_one one =
      let there = ob.orbit.has_each p in_a.0 ((one p in_a.0).0 in_a.1) in
      let here = oa.orbit.has_each q in_b.0 ((one q in_b.0).1 in_b.1) in
      by there.0 here.0 there.1 here.1 there.2 here.2 (first_or_behind members x a p here.0 oa first_a here.1) (first_or_behind members y b q there.0 ob first_b there.1)
    where
      over_a : (v : Point) → Contains a v → v.d ≡ x.d
      over_a v c = All-contains (λ (v : Point). v.d ≡ x.d) a v oa.denominators c

      over_b : (v : Point) → Contains b v → v.d ≡ y.d
      over_b v c = All-contains (λ (v : Point). v.d ≡ y.d) b v ob.denominators c

      by : (u v : Point) → Contains b u → Contains a v → p ≈ u → q ≈ v → (p ≡ v) ⊎ IsBelow (coordinates p.n) (coordinates v.n) → (q ≡ u) ⊎ IsBelow (coordinates q.n) (coordinates u.n) → p ≈ q
      by u v cu cv pu qv (inl e) m = ≈_sym q p (subst (λ w. q ≈ w) (sym e) qv)
      by u v cu cv pu qv (inr l) (inl e) = subst (λ w. p ≈ w) (sym e) pu
      by u v cu cv pu qv (inr l) (inr m) = absurd (crossed_orders x.d y.d px py p v q u (over_a p (first_among a p first_a)) (over_a v cv) (over_b q (first_among b q first_b)) (over_b u cu) pu qv l m)
