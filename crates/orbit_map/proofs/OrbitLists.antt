-- A list of points is an orbit.
use Rattle.std.proofs.Common.{◌≡◌, ◌∷◌, ◌++◌, [], ℕ, ◌+◌, ◌<◌, ◌≤◌, ⊎_elim, Some, List, length, map, get_or, slice_get, ℤ, pos, ◌*ℤ◌, ◌<ℤ◌, All, AllPairs, Contains, IsPermutation, IsSorted, ap, sym, ◌∙◌, subst, refl, arith}
use Rattle.std.proofs.lemmas.Bool.{cases_lt}
use Rattle.std.proofs.lemmas.Option.{slice_get-get_or}
use Rattle.std.specs.List.{dedup}
use Rattle.std.specs.List.Sorted.{IsStrictlySortedBy}
use Rattle.std.specs.List.Retain.{IsFiltered, DiffersFromLast}
use Rattle.std.proofs.lemmas.List.{length-map, get_or-map}
use Rattle.std.proofs.lemmas.List.Elements.{Contains-get_or, All-map, All-contains, All-append, All-cons, Contains-append_left, Contains-append_right}
use Rattle.std.proofs.lemmas.List.Filters.{dedup_is, All-dedup}
use Rattle.std.proofs.lemmas.List.Kept.{Any-dedup, IsStrictlySortedBy-dedup}
use Rattle.std.proofs.lemmas.List.Sorted.{All-permutation, Contains-permutation}
use Rattle.std.proofs.lemmas.Map.Keys.{Less-from_sorted}
use Rattle.group_closure.proofs.Places.{contains_at, same_at}
use Rattle.lattice_algebra.specs.Matrix.{coordinates, times}
use Rattle.lattice_algebra.specs.Operator.{Operator}
use Rattle.lattice_algebra.specs.Map.{Map, operator_of, map_of}
use Rattle.lattice_algebra.specs.Point as rational
use Rattle.lattice_algebra.specs.Point.{IsPoint, ◌≈◌, image}
use Rattle.lattice_algebra.proofs.Columns.{cancel_column}
use Rattle.lattice_algebra.proofs.Points.{≈_sym, ≈_trans, IsPoint-image}
use Rattle.finite_groups.proofs.Members as lists
use Rattle.finite_groups.proofs.Pairs.{one_list_in_order}
use Rattle.exact_ops.specs.declared.point.Point.{Point}
use Rattle.exact_ops.specs.declared.TheConstants.{UNIT}
use Rattle.exact_ops.specs.Numbers.{point_in}
use Rattle.exact_ops.proofs.Narrow.{some_parts}
use Rattle.group_closure.specs.GroupList.{IsGroup}
use Rattle.space_groups.specs.Space.{IsInCell, IsInOrbit, ScaledPoint, moved, point_of}
use Rattle.space_groups.specs.Keys.{IsBelow}
use Rattle.space_groups.proofs.Orbits.{in_cell, cell_operator, orbit}
use Rattle.space_groups.proofs.OrbitLists.{stays_in_cell, orbit_points, orbit_list, orbit_depth}
use Rattle.space_groups.proofs.Points.{scaled_of, IsPoint-scaled, image_of}
use Rattle.space_groups.proofs.Ordered.{not_below_itself, below_on}
use Rattle.orbit_map.specs.OrderedOrbit.{IsOrderedOrbit, IsScaled}
use Rattle.orbit_map.specs.Placed.{IsPlaced}
use Rattle.orbit_map.specs.Steps.{stored_cmp}
use Rattle.site_symmetry.proofs.SpaceOfGroup.{space_of}
use Rattle.orbit_map.proofs.Order.{in_order, below_over_one, stored_eq, stored_eq-is, stored_ties, stored_same, stored_cmp_total, stored_below}

-- ---- images with one operator

-- where two maps have one operator, the images in the cell are one point
same_in_cell : (members : List Operator) → IsGroup members → (x p q : rational.Point) → IsPoint x → IsPoint p → IsPoint q → IsInCell p → IsInCell q
    → (g h : Map) → operator_of UNIT g ≡ operator_of UNIT h → image UNIT g x ≈ p → image UNIT h x ≈ q → p ≈ q
same_in_cell members m x p q px pp pq cp cq g h e i j =
    let L = space_of members m in
    let y = scaled_of UNIT some_parts x px in
    let v : ScaledPoint = moved g y.0 in
    let w : ScaledPoint = moved h y.0 in
    let pv : p ≈ point_of UNIT v = ≈_trans p (image UNIT g x) (point_of UNIT v) (IsPoint-image UNIT some_parts g x px) (≈_sym (image UNIT g x) p i) (image_of L x y.0 g y.1) in
    let qw : q ≈ point_of UNIT w = ≈_trans q (image UNIT h x) (point_of UNIT w) (IsPoint-image UNIT some_parts h x px) (≈_sym (image UNIT h x) q j) (image_of L x y.0 h y.1) in
    let same : v ≡ w =
    sym (stays_in_cell UNIT some_parts p v pp cp pv) ∙ sym (cell_operator UNIT some_parts g y.0) ∙ ap (λ f. in_cell UNIT (moved (map_of f) y.0)) e ∙ cell_operator UNIT some_parts h y.0 ∙ stays_in_cell UNIT some_parts q w pq cq qw in
    ≈_trans p (point_of UNIT v) q (IsPoint-scaled UNIT some_parts v) pv (subst (λ u. point_of UNIT u ≈ q) (sym same) (≈_sym q (point_of UNIT w) qw))

-- points over one denominator
pub one_numerator : (p q : rational.Point) (d : ℤ) → pos 0 <ℤ d → p.d ≡ d → q.d ≡ d → p ≈ q → p ≡ q
one_numerator p q d h e f s =
    let n : p.n ≡ q.n = cancel_column d p.n q.n h (ap (λ k. times k p.n) (sym f) ∙ s ∙ ap (λ k. times k q.n) e) in
    λ i. record { n = n i; d = (e ∙ sym f) i }

-- ---- ordered lists of images

-- p is the image of x by a member
abbrev pub IsPlacedBy : List Operator → rational.Point → rational.Point → Type 0
IsPlacedBy members x p = (f : Operator) × Contains members f × IsPlaced f x p

-- some point of the list is the image of x by f
abbrev pub HasPlaced : rational.Point → List rational.Point → Operator → Type 0
HasPlaced x list f = (p : rational.Point) × Contains list p × IsPlaced f x p

abbrev pub IsAscending : List rational.Point → Type 0
IsAscending list = AllPairs (λ (p q : rational.Point). IsBelow (coordinates p.n) (coordinates q.n)) list

placed_point : (f : Operator) (x p : rational.Point) → IsPoint x → IsPlaced f x p → IsPoint p
placed_point f x p h i = subst (λ d. pos 0 <ℤ d) (sym i.denominator) h

-- a list over one denominator in strict order has each point once
ordered : (members : List Operator) (x : rational.Point) (list : List rational.Point) → IsPoint x → ((p : rational.Point) → Contains list p → IsPoint p × IsInOrbit UNIT members x p)
    → ((p : rational.Point) → IsPoint p → IsInOrbit UNIT members x p → (q : rational.Point) × Contains list q × (p ≈ q)) → All (λ (p : rational.Point). p.d ≡ x.d) list → IsAscending list → IsOrderedOrbit members x list
ordered members x list px sound whole over up = record {
  orbit = record {
    in_orbit = sound;
    has_each = whole;
    once = λ i j d l k s.
        let e = one_numerator _ _ x.d px (over i d (omega arith)) (over j d k) s in
        not_below_itself (coordinates (get_or list i d).n) (subst (λ (p : rational.Point). IsBelow (coordinates (get_or list i d).n) (coordinates p.n)) (sym e) (up i j d l k));
  };
  denominators = over;
  ascending = up;
}

ordered_images : (members : List Operator) (x : rational.Point) (list : List rational.Point) → IsGroup members → IsPoint x → All (IsPlacedBy members x) list → ((f : Operator) → Contains members f → HasPlaced x list f) → IsAscending list → IsOrderedOrbit members x list
ordered_images members x list m px each has up = ordered members x list px
    (λ p c.
    let r = All-contains (IsPlacedBy members x) list p each c in
    let i = r.2 in
    (placed_point r.0 x p px i, record { by = i.by; element = subst (Contains members) (sym i.operator) r.1; is_image = i.is_image; in_cell = i.in_cell }))
    (λ p pp o.
    let r = has (operator_of UNIT o.by) o.element in
    let i = r.2 in
    (r.0, r.1, same_in_cell members m x p r.0 px pp (placed_point _ x r.0 px i) o.in_cell i.in_cell o.by i.by (sym i.operator) o.is_image i.is_image))
    (λ i d l. (each i d l).2.denominator) up

-- ---- the list that the code makes

-- three numerators of an image by a member
abbrev pub IsStored : List Operator → rational.Point → Point → Type 0
IsStored members x p = (length p.n ≡ 3) × IsPlacedBy members x (point_in p)

-- the points are images by members, and the first i members have their images among them
pub record ArePlaced (members : List Operator) (x : rational.Point) (i : ℕ) (points : List Point) : Type 0 where
  pub each : All (IsStored members x) points
  pub has : (k : ℕ) (f : Operator) → k < i → slice_get members k ≡ Some f → (p : Point) × Contains points p × IsPlaced f x (point_in p)

pub placed_more : (members : List Operator) (x : rational.Point) (i : ℕ) (points more : List Point) (f : Operator) (p : Point) → ArePlaced members x i points → slice_get members i ≡ Some f → length p.n ≡ 3 → IsPlaced f x (point_in p) → more ≡ points ++ p ∷ [] → ArePlaced members x (i + 1) more
placed_more members x i points more f p a e n h is = subst (ArePlaced members x (i + 1)) (sym is) (record {
  each = All-append (IsStored members x) points (p ∷ []) a.each (All-cons (IsStored members x) p [] (n, (f, contains_at members f i e, h)) (λ k d l. absurd (omega arith)));
  has = λ k g l s. ⊎_elim
      (λ b. let r = a.has k g b s in (r.0, Contains-append_left points (p ∷ []) r.0 r.1, r.2))
      (λ b.
      let at : k ≡ i = omega arith in
      let same : f ≡ g = same_at members f g i e (ap (λ j. slice_get members j) (sym at) ∙ s) in
      (p, Contains-append_right points (p ∷ []) p (lists.Contains-here p []), subst (λ v. IsPlaced v x (point_in p)) same h))
      (cases_lt k i);
})

ascending_stored : (members : List Operator) (x : rational.Point) (points : List Point) → All (IsStored members x) points → IsStrictlySortedBy stored_cmp points → IsAscending (map point_in points)
ascending_stored members x [] each s i j d l k = absurd (omega arith)
ascending_stored members x (p ∷ ps) each s i j d l k =
    let n : j < length (p ∷ ps) = omega (arith, length-map (p ∷ ps) point_in) in
    let m : i < length (p ∷ ps) = omega arith in
    let q : Point = get_or (p ∷ ps) i p in
    let r : Point = get_or (p ∷ ps) j p in
    let one : q.d ≡ r.d = (each i p m).1.2.denominator ∙ sym (each j p n).1.2.denominator in
    let below = stored_below q r (each i p m).0 (each j p n).0 one (Less-from_sorted stored_cmp (p ∷ ps) i j p s l n) in
    subst (λ (v : rational.Point). IsBelow (coordinates v.n) (coordinates (get_or (map point_in (p ∷ ps)) j d).n)) (sym (get_or-map point_in (p ∷ ps) i p d m))
    (subst (λ (v : rational.Point). IsBelow (coordinates (point_in q).n) (coordinates v.n)) (sym (get_or-map point_in (p ∷ ps) j p d n)) below)

-- sorted, and each point once
pub orbit_of_points : (members : List Operator) (x : rational.Point) (n : ℕ) (points sorted kept : List Point) → IsGroup members → IsPoint x → ArePlaced members x n points → length members ≤ n → IsPermutation points sorted → IsSorted stored_cmp sorted → IsFiltered (DiffersFromLast stored_eq) [] sorted kept → IsOrderedOrbit members x (map point_in kept)
orbit_of_points members x n points sorted kept m px a l moved s k =
    let is : kept ≡ dedup stored_eq sorted = dedup_is stored_eq sorted kept k in
    let each : All (IsStored members x) kept = subst (All (IsStored members x)) (sym is) (All-dedup stored_eq (IsStored members x) sorted (All-permutation (IsStored members x) points sorted moved a.each)) in
    let strict : IsStrictlySortedBy stored_cmp kept = subst (IsStrictlySortedBy stored_cmp) (sym is) (IsStrictlySortedBy-dedup stored_cmp_total stored_ties sorted s) in
    let has : (f : Operator) → Contains members f → HasPlaced x (map point_in kept) f = λ f c.
    let r = a.has c.0 f (omega (arith, c.1)) (slice_get-get_or members c.0 f c.1 ∙ ap Some c.2) in
    let q = Any-dedup stored_eq-is sorted r.0 (Contains-permutation points sorted r.0 moved r.1) in
    (point_in q.1, lists.Contains-map point_in q.1 kept (subst (λ v. Contains v q.1) (sym is) (q.0, q.2, q.3)), subst (IsPlaced f x) (stored_same r.0 q.1 q.4) r.2) in
    ordered_images members x (map point_in kept) m px (All-map (IsPlacedBy members x) point_in kept (λ k d l. (each k d l).1)) has (ascending_stored members x kept each strict)

-- ---- each point has one ordered orbit

scaled_ordered_orbit : (members : List Operator) (y : ScaledPoint) → IsGroup members → (list : List rational.Point) × IsOrderedOrbit members (point_of UNIT y) list
scaled_ordered_orbit members y m =
    let L = space_of members m in
    let x : rational.Point = point_of UNIT y in
    let px : IsPoint x = IsPoint-scaled UNIT some_parts y in
    let o = orbit_list L x y px refl in
    let s = in_order (orbit_points L y) in
    let over : All (λ (p : rational.Point). p.d ≡ x.d) s.0 = λ k d l.
    let r = lists.Contains-from_map (point_of UNIT) _ (orbit L y) ((s.2 _).1 (Contains-get_or s.0 k d l)) in
    sym (ap (λ v. pos UNIT *ℤ pos v) (sym (orbit_depth L y r.0 r.1)) ∙ ap (λ (p : rational.Point). p.d) r.2) in (
      s.0,
      ordered members x s.0 px (λ p c. o.in_orbit p ((s.2 p).1 c)) (λ p pp i. let h = o.has_each p pp i in (h.0, (s.2 h.0).0 h.1, h.2)) over
          (λ i j d l k. below_over_one (get_or s.0 i d) (get_or s.0 j d) (over i d (omega arith) ∙ sym (over j d k)) (s.1 i j d l k)),
    )

-- one at least
pub some_ordered_orbit : (members : List Operator) (x : rational.Point) → IsGroup members → IsScaled x → (list : List rational.Point) × IsOrderedOrbit members x list
some_ordered_orbit members x m s = subst (λ v. (list : List rational.Point) × IsOrderedOrbit members v list) (sym s.1) (scaled_ordered_orbit members s.0 m)

in_other : (members : List Operator) (x : rational.Point) (a b : List rational.Point) → IsPoint x → IsOrderedOrbit members x a → IsOrderedOrbit members x b → (z : rational.Point) → Contains a z → Contains b z
in_other members x a b px p q z c =
    let o = p.orbit.in_orbit z c in
    let r = q.orbit.has_each z o.0 o.1 in
    let over : rational.Point → Type 0 = λ v. v.d ≡ x.d in
    subst (Contains b) (sym (one_numerator z r.0 x.d px (All-contains over a z p.denominators c) (All-contains over b r.0 q.denominators r.1) r.2)) r.1

-- and one at most
pub one_orbit : (members : List Operator) (x : rational.Point) (a b : List rational.Point) → IsPoint x → IsOrderedOrbit members x a → IsOrderedOrbit members x b → a ≡ b
one_orbit members x a b px p q =
    one_list_in_order (λ (p q : rational.Point). IsBelow (coordinates p.n) (coordinates q.n)) a b (λ u v c d l m. not_below_itself (coordinates u.n) (below_on (coordinates u.n) (coordinates v.n) (coordinates u.n) l m)) p.ascending q.ascending
    (λ z. (in_other members x a b px p q z, in_other members x b a px q p z))
