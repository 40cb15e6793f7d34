-- An expansion gives each site its orbit, and each point of an orbit stands under one site. There is one expansion.
use Rattle.std.proofs.Common.{◌≡◌, ◌∷◌, [], ℕ, suc, List, length, slice_get, Some, ⊎_elim, sym, ap, subst, ◌∙◌, refl, arith}
use Rattle.std.proofs.lemmas.Bool.{cases_lt}
use Rattle.std.proofs.lemmas.Option.{slice_get_within, get_or_from_slice_get}
use Rattle.lattice_algebra.specs.Operator.{Operator}
use Rattle.lattice_algebra.specs.Point.{Point, IsPoint, ◌≈◌}
use Rattle.lattice_algebra.proofs.Points.{≈_sym}
use Rattle.exact_ops.specs.declared.TheConstants.{UNIT}
use Rattle.group_closure.specs.GroupList.{IsGroup}
use Rattle.space_groups.specs.Lists.{IsOrbitList}
use Rattle.space_groups.specs.Space.{IsInOrbit}
use Rattle.orbit_map.specs.OrderedOrbit.{IsOrderedOrbit}
use Rattle.orbit_map.proofs.OrbitLists.{one_orbit}
use Rattle.atom_expand.specs.declared.expansion.Expanded.{Expanded}
use Rattle.atom_expand.specs.declared.expansion.Expanded.TheVariants.{First, Same}
use Rattle.atom_expand.specs.Sites.{AtomSite}
use Rattle.atom_expand.specs.Expansions.{HaveOneOrbit, IsFirstWith, IsExpandedTo, IsExpansion, HasOrbit, own, shared, StandsUnder, StandsOnce, IsFirstThrough, AreAtPoints}
use Rattle.atom_expand.proofs.Orbits.{orbits_that_meet}
use Rattle.atom_expand.proofs.Places.{same_some, some_at}
use Rattle.atom_expand.proofs.Placing.{one_and_one, one_back, one_itself}

-- ---- sites at points

point_at_place : (sites : List AtomSite) (k : ℕ) (site : AtomSite) → AreAtPoints sites → slice_get sites k ≡ Some site → IsPoint site.at
point_at_place sites k site points s = subst (λ (v : AtomSite). IsPoint v.at) (get_or_from_slice_get sites k site site s) (points k site (slice_get_within sites k site s))

-- an orbit list of x is one of y, where they have one orbit
other_orbit_list : (members : List Operator) (x y : Point) (list : List Point) → HaveOneOrbit members x y → IsOrbitList UNIT members x list → IsOrbitList UNIT members y list
other_orbit_list members x y list one o = record {
  in_orbit = λ p c. let h = o.in_orbit p c in (h.0, (one p h.0).0 h.1);
  has_each = λ p pp i. o.has_each p pp ((one p pp).1 i);
  once = o.once;
}

module _ (members : List Operator) (sites : List AtomSite) where
  -- there is one first site with an orbit
  pub one_first : (x y : Point) (i j : ℕ) → HaveOneOrbit members x y → IsFirstWith members sites x i → IsFirstWith members sites y j → i ≡ j
  one_first x y i j one f g =
      ⊎_elim
      (λ l. absurd (g.first i f.site l f.here (one_and_one members f.site.at x y f.one one)))
      (λ l. ⊎_elim (λ m. absurd (f.first j g.site m g.here (one_and_one members g.site.at y x g.one (one_back members x y one)))) (λ m. omega arith) (cases_lt j i))
      (cases_lt i j)

  module _ (entries : List Expanded) (is : IsExpansion members sites entries) where
    -- the first site with the orbit of a site
    first_of : (k : ℕ) (site : AtomSite) → slice_get sites k ≡ Some site → (j : ℕ) × IsFirstWith members sites site.at j
    first_of k site s = by (some_at entries k (omega (arith, is.as_many, slice_get_within sites k site s)))
      where
        by : (entry : Expanded) × (slice_get entries k ≡ Some entry) → (j : ℕ) × IsFirstWith members sites site.at j
        by (First points, e) = (k, (is.each k site (First points) s e).0)
        by (Same j, e) = (j, (is.each k site (Same j) s e).0)

    -- it has the points of its orbit under it
    record Points (x : Point) (j : ℕ) : Type 0 where
      site : AtomSite
      at : slice_get sites j ≡ Some site
      one : HaveOneOrbit members site.at x
      points : List Point
      under : slice_get entries j ≡ Some (First points)
      orbit : IsOrderedOrbit members site.at points

    under_first : (x : Point) (j : ℕ) → IsFirstWith members sites x j → Points x j
    under_first x j f = by (some_at entries j (omega (arith, is.as_many, slice_get_within sites j f.site f.here)))
      where
        by : (entry : Expanded) × (slice_get entries j ≡ Some entry) → Points x j
        by (First points, e) = record { site = f.site; at = f.here; one = f.one; points = points; under = e; orbit = (is.each j f.site (First points) f.here e).1 }
        by (Same i, e) = let p = is.each j f.site (Same i) f.here e in absurd (f.first i p.0.site p.1 p.0.here (one_and_one members p.0.site.at f.site.at x p.0.one f.one))

    -- ---- the orbit that is given for a site

    pub orbit_of_site : (k : ℕ) (site : AtomSite) (points : List Point) → slice_get sites k ≡ Some site → HasOrbit entries k points → IsOrbitList UNIT members site.at points
    orbit_of_site k site points s (own e) = (is.each k site (First points) s e).1.orbit
    orbit_of_site k site points s (shared {j = j} e f) =
        let p = (is.each k site (Same j) s e).0 in
        let u = under_first site.at j p in
        let same : u.points ≡ points = first_points u.points points (same_some (First u.points) (First points) (sym u.under ∙ f)) in
        subst (IsOrbitList UNIT members site.at) same (other_orbit_list members u.site.at site.at u.points u.one u.orbit.orbit)
      where
        first_points : (a b : List Point) → First a ≡ First b → a ≡ b
        first_points a b e = cc

    -- ---- each point stands once

    module _ (group : IsGroup members) (points : AreAtPoints sites) (k : ℕ) (site : AtomSite) (s : slice_get sites k ≡ Some site) (p : Point) (pp : IsPoint p) (on : IsInOrbit UNIT members site.at p) where
      place : ℕ
      place = (first_of k site s).0

      is_first : IsFirstWith members sites site.at place
      unfolding place
      is_first = (first_of k site s).1

      has : Points site.at place
      has = under_first site.at place is_first

      meets : (i : ℕ) (other : AtomSite) (q : Point) → slice_get sites i ≡ Some other → IsPoint q → IsInOrbit UNIT members other.at q → q ≈ p → HaveOneOrbit members other.at site.at
      meets i other q o pq in_other e = orbits_that_meet members group other.at site.at q p (point_at_place sites i other points o) (point_at_place sites k site points s) pq pp in_other on e

      through_first : IsFirstThrough members sites p place
      through_first = record {
        site = is_first.site;
        here = is_first.here;
        through = (is_first.one p pp).1 on;
        first = λ i other l o in_other. is_first.first i other l o (meets i other p o pp in_other refl);
      }

      stands_here : StandsUnder entries p place
      stands_here = let q = has.orbit.orbit.has_each p pp ((has.one p pp).1 on) in record { points = has.points; under = has.under; written = q.0; among = q.1; same = ≈_sym p q.0 q.2 }

      only_here : (i : ℕ) → StandsUnder entries p i → i ≡ place
      only_here i u =
          let o = some_at sites i (omega (arith, is.as_many, slice_get_within entries i (First u.points) u.under)) in
          let e = is.each i o.0 (First u.points) o.1 u.under in
          let q = e.1.orbit.in_orbit u.written u.among in
          one_first o.0.at site.at i place (meets i o.0 u.written o.1 q.0 q.1 u.same) e.0 is_first

      pub stands_once : (j : ℕ) × IsFirstThrough members sites p j × StandsOnce entries p j
      stands_once = (place, through_first, record { here = stands_here; only = only_here })

-- ---- there is one expansion

same_lists : {A : Type 0} (xs ys : List A) → length xs ≡ length ys → ((k : ℕ) (x y : A) → slice_get xs k ≡ Some x → slice_get ys k ≡ Some y → x ≡ y) → xs ≡ ys
same_lists [] [] l each = refl
same_lists [] (y ∷ ys) l each = absurd (omega arith)
same_lists (x ∷ xs) [] l each = absurd (omega arith)
same_lists (x ∷ xs) (y ∷ ys) l each =
    let h = each 0 x y refl refl in
    let t = same_lists xs ys (omega (arith, l)) (λ k a b p q. each (suc k) a b p q) in
    λ i. h i ∷ t i

module _ (members : List Operator) (sites : List AtomSite) (points : AreAtPoints sites) where
  same_entry : (k : ℕ) (site : AtomSite) (a b : Expanded) → IsPoint site.at → IsExpandedTo members sites k site.at a → IsExpandedTo members sites k site.at b → a ≡ b
  same_entry k site (First a) (First b) px p q = ap First (one_orbit members site.at a b px p.1 q.1)
  same_entry k site (First a) (Same j) px p q = absurd (let e = one_first members sites site.at site.at k j (one_itself members site.at) p.0 q.0 in let l = q.1 in omega (arith, e, l))
  same_entry k site (Same j) (First b) px p q = absurd (let e = one_first members sites site.at site.at k j (one_itself members site.at) q.0 p.0 in let l = p.1 in omega (arith, e, l))
  same_entry k site (Same i) (Same j) px p q = ap Same (one_first members sites site.at site.at i j (one_itself members site.at) p.0 q.0)

  pub same_expansion : (a b : List Expanded) → IsExpansion members sites a → IsExpansion members sites b → a ≡ b
  same_expansion a b p q =
      same_lists a b (p.as_many ∙ sym q.as_many)
      (λ k x y e f. let s = some_at sites k (omega (arith, p.as_many, slice_get_within a k x e)) in same_entry k s.0 x y (point_at_place sites k s.0 points s.1) (p.each k s.0 x s.1 e) (q.each k s.0 y s.1 f))
