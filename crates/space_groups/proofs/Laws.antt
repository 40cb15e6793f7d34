-- The laws of site-symmetry groups and orbits, for every rational point.
use Rattle.std.proofs.Common.{◌≡◌, ◌*◌, ◌↔◌, List, length, Contains, ap, ap₂, sym, ◌∙◌, refl, subst}
use Rattle.lattice_algebra.specs.Operator.{Operator}
use Rattle.lattice_algebra.specs.Map.{Map, ◌∘◌, AreInverse, undo, operator_of}
use Rattle.lattice_algebra.specs.Point.{Point, IsPoint, ◌≈◌, image}
use Rattle.lattice_algebra.proofs.Points.{≈_sym, ≈_trans, image-same, IsPoint-image}
use Rattle.finite_groups.proofs.Conjugates as conjugates
use Rattle.space_groups.specs.Space.{IsElement, IsInSite, IsInOrbit, AreConjugate, HaveSameElement, moved, point_of}
use Rattle.space_groups.specs.Lists.{IsSiteList, IsOrbitList}
use Rattle.space_groups.proofs.Elements.{SpaceGroup, space, on_points}
use Rattle.space_groups.proofs.Sites.{site}
use Rattle.space_groups.proofs.Orbits.{site_times_orbit}
use Rattle.space_groups.proofs.Points.{image_of, scaled_of, site-scaled, conjugate-scaled, one_inverse}
use Rattle.space_groups.proofs.SiteLists.{site_list, site_count}
use Rattle.space_groups.proofs.OrbitLists.{orbit_points, orbit_list, orbit_count}
use Rattle.space_groups.proofs.Divided.{one_rotation}

module _ (L : SpaceGroup) where
  open L use {unit, some, members, closed}

  -- ---- site-symmetry groups

  -- no two elements of a site-symmetry group have one rotation part
  pub one_element : (x : Point) → IsPoint x → (g h : Map) → IsInSite unit members x g → IsInSite unit members x h → g.w ≡ h.w → g ≡ h
  one_element x p g h a b e =
      let y = scaled_of unit some x p in
      one_rotation g h y.0 ((site-scaled L x y.0 p y.1 g).0 a).1 ((site-scaled L x y.0 p y.1 h).0 b).1 e

  -- the site-symmetry group of the image by g is g S g^-1
  pub site_of_image : (x : Point) → IsPoint x → (g h : Map) → IsElement unit members g → AreInverse g h → (s : Map) → IsInSite unit members (image unit g x) s ↔ ((r : Map) × IsInSite unit members x r × (s ≡ g ∘ r ∘ h))
  site_of_image x p g h m i s =
      let y = scaled_of unit some x p in
      let A = on_points L in
      let back : h ≡ undo g = one_inverse L g h m i in
      let there = site-scaled L (image unit g x) (moved g y.0) (IsPoint-image unit some g x p) (image_of L x y.0 g y.1) s in
      let here : (r : Map) → IsInSite unit members x r ↔ (IsElement unit members r × (moved r y.0 ≡ y.0)) = λ r. site-scaled L x y.0 p y.1 r in (
        (λ a.
            let r = conjugates.site_onto (space L) A g s y.0 m (there.0 a) in
            (r.0, (here r.0).1 r.1, sym r.2 ∙ ap (λ v. (g ∘ r.0) ∘ v) (sym back))),
        (λ c.
            let r = (here c.0).0 c.1 in
            let k = (conjugates.site_moved (space L) A g c.0 y.0 m r.0).0 r in
            let is : s ≡ conjugates.conj (space L) A g c.0 = c.2 ∙ ap (λ v. (g ∘ c.0) ∘ v) back in
            there.1 (subst (λ v. IsElement unit members v × (moved v (moved g y.0) ≡ moved g y.0)) (sym is) k)),
      )

  -- points are conjugate where some image of the one has, for each member, the same element in its site-symmetry group as the other
  pub conjugate_by_members : (x y : Point) → IsPoint x → IsPoint y → AreConjugate unit members x y ↔ ((g : Map) × IsElement unit members g × ((f : Operator) → Contains members f → HaveSameElement unit members f (image unit g x) y))
  conjugate_by_members x y p q =
      let a = scaled_of unit some x p in
      let b = scaled_of unit some y q in
      let c = conjugate-scaled L x y a.0 b.0 p q a.1 b.1 in
      let d = conjugates.conjugate_by_image (space L) (on_points L) a.0 b.0 in
      let there : (g s : Map) → IsInSite unit members (image unit g x) s ↔ (IsElement unit members s × (moved s (moved g a.0) ≡ moved g a.0)) =
      λ g s. site-scaled L (image unit g x) (moved g a.0) (IsPoint-image unit some g x p) (image_of L x a.0 g a.1) s in
      let here : (s : Map) → IsInSite unit members y s ↔ (IsElement unit members s × (moved s b.0 ≡ b.0)) = λ s. site-scaled L y b.0 q b.1 s in (
        (λ h.
            let r = d.0 (c.0 h) in
            (r.0, r.1, λ f m s e. let k = r.2 s (subst (Contains members) (sym e) m) in ((λ u. (here s).1 (k.0 ((there r.0 s).0 u))), (λ u. (there r.0 s).1 (k.1 ((here s).0 u)))))),
        (λ r. c.1 (d.1 (r.0, r.1, λ t m. let k = r.2 (operator_of unit t) m t refl in ((λ u. (here t).0 (k.0 ((there r.0 t).1 u))), (λ u. (there r.0 t).0 (k.1 ((here t).1 u))))))),
      )

  -- ---- lists

  -- the order of the site-symmetry group times the number of points of the orbit in the cell is the number of members
  pub order_times_multiplicity : (x : Point) → IsPoint x → (site : List Map) (orbit : List Point) → IsSiteList unit members x site → IsOrbitList unit members x orbit → length site * length orbit ≡ length members
  order_times_multiplicity x p list points s o =
      let y = scaled_of unit some x p in
      ap₂ (λ j k. j * k) (site_count L x y.0 list p y.1 s) (orbit_count L x y.0 points p y.1 o) ∙ site_times_orbit L y.0

  pub some_site : (x : Point) → IsPoint x → (site : List Map) × IsSiteList unit members x site
  some_site x p = let y = scaled_of unit some x p in (site L y.0, site_list L x y.0 p y.1)

  pub some_orbit : (x : Point) → IsPoint x → (orbit : List Point) × IsOrbitList unit members x orbit
  some_orbit x p = let y = scaled_of unit some x p in (orbit_points L y.0, orbit_list L x y.0 p y.1)

  -- ---- one point, however it is written

  pub same_site : (x y : Point) → IsPoint x → IsPoint y → x ≈ y → (s : Map) → IsInSite unit members x s ↔ IsInSite unit members y s
  same_site x y p q e s =
      let z = scaled_of unit some x p in
      let a = site-scaled L x z.0 p z.1 s in
      let b = site-scaled L y z.0 q (≈_trans y x (point_of unit z.0) p (≈_sym x y e) z.1) s in
      ((λ h. b.1 (a.0 h)), (λ h. a.1 (b.0 h)))

  image_along : (x y r : Point) → IsPoint x → x ≈ y → IsInOrbit unit members x r → IsInOrbit unit members y r
  image_along x y r p e o = record {
    by = o.by;
    element = o.element;
    is_image = ≈_trans (image unit o.by y) (image unit o.by x) r (IsPoint-image unit some o.by x p) (image-same unit o.by y x (≈_sym x y e)) o.is_image;
    in_cell = o.in_cell;
  }

  pub same_orbit : (x y : Point) → IsPoint x → IsPoint y → x ≈ y → (r : Point) → IsInOrbit unit members x r ↔ IsInOrbit unit members y r
  same_orbit x y p q e r = ((λ o. image_along x y r p e o), (λ o. image_along y x r q (≈_sym x y e) o))
