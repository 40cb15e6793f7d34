-- The space group that a change of coordinates makes of another: its site-symmetry groups, and conjugate points.
use Rattle.std.proofs.Common.{◌≡◌, ℕ, ◌↔◌, List, subst, sym}
use Rattle.lattice_algebra.specs.Operator.{Operator}
use Rattle.lattice_algebra.specs.Map.{Map, ◌∘◌, undo, AreInverse}
use Rattle.lattice_algebra.specs.Point.{Point}
use Rattle.space_groups.specs.Space.{IsElement, IsInSite, AreConjugate}
use Rattle.space_groups.specs.Bases.{CoordinateChange, IsChange, IsBasisChange, IsChanged, IsInChanged, IsChangedGroup, changed_point, changed_map}
use Rattle.space_groups.proofs.Elements.{SpaceGroup, space}
use Rattle.space_groups.proofs.Points.{one_inverse}
use Rattle.space_groups.proofs.Changes.{one_changed, one_origin, changed-∘, changed-inverse, inverse-changed, fixes_changed, changed_map-is}

-- for a basis change it is enough that the elements are the changed ones: each g has one
pub changed_group : (unit : ℕ) (members : List Operator) (c : CoordinateChange) (changed : List Operator) → IsBasisChange c → ((h : Map) → IsElement unit changed h ↔ IsInChanged unit members c h) → IsChangedGroup unit members c changed
changed_group unit members c changed b same = record {
  each = λ g m. let e = changed_map-is c b g in (changed_map c g, (same (changed_map c g)).1 (record { from = g; element = m; changed = e }), e);
  only = λ h m. (same h).0 m;
}

-- the elements are exactly the changed ones
pub changed_exactly : (unit : ℕ) (members : List Operator) (c : CoordinateChange) (changed : List Operator) → IsChange c → IsChangedGroup unit members c changed → (h : Map) → IsElement unit changed h ↔ IsInChanged unit members c h
changed_exactly unit members c changed i e h = (
  (λ m. e.only h m),
  (λ k. let r = e.each k.from k.element in subst (IsElement unit changed) (one_changed c i k.from r.0 h r.2 k.changed) r.1),
)

module _ (L : SpaceGroup) (c : CoordinateChange) (i : IsChange c) (changed : List Operator) (e : IsChangedGroup L.unit L.members c changed) where
  open L use {unit, some, members, closed}

  pub element_there : (g h : Map) → IsChanged c g h → IsElement unit members g → IsElement unit changed h
  element_there g h p m = (changed_exactly unit members c changed i e h).1 (record { from = g; element = m; changed = p })

  pub element_back : (g h : Map) → IsChanged c g h → IsElement unit changed h → IsElement unit members g
  element_back g h p m = let r = e.only h m in subst (IsElement unit members) (one_origin c i r.from g h r.changed p) r.element

  -- ---- site-symmetry groups

  -- c g c^-1 is in that of c x exactly where g is in that of x
  pub site_changed : (x : Point) (g h : Map) → IsChanged c g h → IsInSite unit members x g ↔ IsInSite unit changed (changed_point unit c x) h
  site_changed x g h p =
      let f = fixes_changed unit some c i g h x p in (
        (λ s. record { element = element_there g h p s.element; fixes = f.0 s.fixes }),
        (λ s. record { element = element_back g h p s.element; fixes = f.1 s.fixes }),
      )

  -- so it is the set of these
  pub site_of_changed : (x : Point) (h : Map) → IsInSite unit changed (changed_point unit c x) h ↔ ((g : Map) × IsInSite unit members x g × IsChanged c g h)
  site_of_changed x h = (
    (λ s. let r = e.only h s.element in (r.from, (site_changed x r.from h r.changed).1 s, r.changed)),
    (λ r. (site_changed x r.0 h r.2).0 r.1),
  )

  -- ---- conjugate points

  conjugate_there : (x y : Point) → AreConjugate unit members x y → AreConjugate unit changed (changed_point unit c x) (changed_point unit c y)
  conjugate_there x y a =
      let back : a.back ≡ undo a.by = one_inverse L a.by a.back a.element a.inverse in
      let there = e.each a.by a.element in
      let home = e.each a.back (subst (IsElement unit members) (sym back) ((space L).inv_in a.by a.element)) in
      record {
        by = there.0;
        back = home.0;
        element = there.1;
        inverse = inverse-changed c i a.by a.back there.0 home.0 a.inverse there.2 home.2;
        exactly = λ s m.
            let r = e.only s m in
            let p = site_changed x r.from s r.changed in
            let q = site_changed y (a.by ∘ r.from ∘ a.back) (there.0 ∘ s ∘ home.0) (changed-∘ c (a.by ∘ r.from) a.back (there.0 ∘ s) home.0 (changed-∘ c a.by r.from there.0 s there.2 r.changed) home.2) in
            let k = a.exactly r.from r.element in
            ((λ u. q.0 (k.0 (p.1 u))), (λ u. p.0 (k.1 (q.1 u))));
      }

  conjugate_home : (x y : Point) → AreConjugate unit changed (changed_point unit c x) (changed_point unit c y) → AreConjugate unit members x y
  conjugate_home x y a =
      let from = e.only a.by a.element in
      let g : Map = from.from in
      let pair : AreInverse g (undo g) = record { left = (space L).inv_left g from.element; right = (space L).inv_right g from.element } in
      let home = changed-inverse c g (undo g) a.by a.back pair a.inverse from.changed in
      record {
        by = g;
        back = undo g;
        element = from.element;
        inverse = pair;
        exactly = λ s m.
            let r = e.each s m in
            let p = site_changed x s r.0 r.2 in
            let q = site_changed y (g ∘ s ∘ undo g) (a.by ∘ r.0 ∘ a.back) (changed-∘ c (g ∘ s) (undo g) (a.by ∘ r.0) a.back (changed-∘ c g s a.by r.0 from.changed r.2) home) in
            let k = a.exactly r.0 r.1 in
            ((λ u. q.1 (k.0 (p.0 u))), (λ u. p.1 (k.1 (q.0 u))));
      }

  -- x and y are conjugate exactly where c x and c y are
  pub conjugate_changed : (x y : Point) → AreConjugate unit members x y ↔ AreConjugate unit changed (changed_point unit c x) (changed_point unit c y)
  conjugate_changed x y = ((λ a. conjugate_there x y a), (λ a. conjugate_home x y a))
