-- Between rational points and points over a denominator that is a multiple of unit: one point, one site-symmetry group, one orbit.
use Rattle.std.proofs.Common.{◌≡◌, ◌++◌, ◌∷◌, ℕ, ◌*◌, ◌<◌, ◌↔◌, ℤ, pos, negsuc, ◌*ℤ◌, ◌<ℤ◌, ap, sym, ◌∙◌, refl, subst, arith}
use Rattle.std.proofs.lemmas.Int.{ints}
use Rattle.lattice_algebra.specs.Matrix.{Matrix, Column, entries, coordinates, ◌·ᶜ◌, ◌+ᶜ◌, times}
use Rattle.lattice_algebra.specs.Map.{AreInverse, Map, ◌∘◌, undo}
use Rattle.lattice_algebra.specs.Point.{Point, IsPoint, ◌≈◌, image}
use Rattle.lattice_algebra.proofs.Ring.{var, ◌⊗◌}
use Rattle.lattice_algebra.proofs.MatrixRing.{matrix_at, column_at, ◌·ˢᶜ◌, ◌+ˢᶜ◌, sym_times, column_ring}
use Rattle.lattice_algebra.proofs.Maps.{∘_assoc, ∘-identity, identity-∘}
use Rattle.lattice_algebra.proofs.Points.{≈_sym, ≈_trans, image-same, IsPoint-image}
use Rattle.lattice_algebra.proofs.Numbers.{above, positive_product}
use Rattle.lattice_algebra.proofs.Columns.{cancel_column}
use Rattle.finite_groups.proofs.Conjugates as conjugates
use Rattle.space_groups.specs.Space.{IsElement, IsInSite, AreConjugate, ScaledPoint, moved, point_of}
use Rattle.space_groups.proofs.ScaledPoints.{scaled_path}
use Rattle.space_groups.proofs.Elements.{SpaceGroup, space, on_points}

pub IsPoint-scaled : (unit : ℕ) → 0 < unit → (y : ScaledPoint) → IsPoint (point_of unit y)
IsPoint-scaled unit h y = above (unit * y.d) (positive_product unit y.d h y.some)

over : (n : Column) (u d : ℤ) → times (u *ℤ d) n ≡ times d (times u n)
unfolding times
over n u d = column_ring (u ∷ d ∷ coordinates n) (sym_times (var 0 ⊗ var 1) (column_at 2)) (sym_times (var 1) (sym_times (var 0) (column_at 2))) tt

-- each rational point is one of these
pub scaled_of : (unit : ℕ) → 0 < unit → (x : Point) → IsPoint x → (y : ScaledPoint) × (x ≈ point_of unit y)
scaled_of unit h x p = by x.n x.d p
  where
    by : (n : Column) (d : ℤ) → pos 0 <ℤ d → (y : ScaledPoint) × (record { n = n; d = d } ≈ point_of unit y)
    by n (pos k) q = (record { n = times (pos unit) n; d = k; some = omega (arith, ints) }, over n (pos unit) (pos k))
    by n (negsuc k) q = absurd (omega (arith, ints))

image_scaled : (w : Matrix) (s n : Column) (u d : ℤ) → times (u *ℤ d) (times u (w ·ᶜ n) +ᶜ times (u *ℤ d) s) ≡ times (u *ℤ (u *ℤ d)) (w ·ᶜ n +ᶜ times d s)
unfolding ◌·ᶜ◌ ◌+ᶜ◌ times
image_scaled w s n u d =
    let U = var 0 in
    let D = var 1 in
    let W = matrix_at 2 in
    let S = column_at 11 in
    let N = column_at 14 in
    column_ring (u ∷ d ∷ (entries w ++ (coordinates s ++ coordinates n)))
    (sym_times (U ⊗ D) (sym_times U (W ·ˢᶜ N) +ˢᶜ sym_times (U ⊗ D) S)) (sym_times (U ⊗ (U ⊗ D)) (W ·ˢᶜ N +ˢᶜ sym_times D S)) tt

pub image-moved : (unit : ℕ) (g : Map) (y : ScaledPoint) → image unit g (point_of unit y) ≈ point_of unit (moved g y)
unfolding image moved
image-moved unit g y = image_scaled g.w g.s y.n (pos unit) (pos y.d)

pub scaled_apart : (unit : ℕ) → 0 < unit → (x y : ScaledPoint) → x.d ≡ y.d → point_of unit x ≈ point_of unit y → x ≡ y
scaled_apart unit h x y d e =
    scaled_path x y (cancel_column (pos unit *ℤ pos y.d) x.n y.n (above (unit * y.d) (positive_product unit y.d h y.some)) (e ∙ ap (λ k. times (pos unit *ℤ pos k) y.n) d)) d

-- what undoes an element is its inverse in the group
pub one_inverse : (L : SpaceGroup) (g h : Map) → IsElement L.unit L.members g → AreInverse g h → h ≡ undo g
one_inverse L g h m i = sym (∘-identity h) ∙ ap (λ x. h ∘ x) (sym ((space L).inv_right g m)) ∙ sym (∘_assoc h g (undo g)) ∙ ap (λ x. x ∘ undo g) i.left ∙ identity-∘ (undo g)

module _ (L : SpaceGroup) where
  open L use {unit, some, members, closed}

  pub image_of : (x : Point) (y : ScaledPoint) (g : Map) → x ≈ point_of unit y → image unit g x ≈ point_of unit (moved g y)
  image_of x y g e = ≈_trans (image unit g x) (image unit g (point_of unit y)) (point_of unit (moved g y)) (IsPoint-image unit some g (point_of unit y) (IsPoint-scaled unit some y)) (image-same unit g x (point_of unit y) e) (image-moved unit g y)

  -- what fixes the point fixes the scaled point
  pub site-scaled : (x : Point) (y : ScaledPoint) → IsPoint x → x ≈ point_of unit y → (g : Map) → IsInSite unit members x g ↔ (IsElement unit members g × (moved g y ≡ y))
  unfolding moved
  site-scaled x y p e g = (
    (λ s. (
      s.element,
      scaled_apart unit some (moved g y) y refl
          (≈_trans (point_of unit (moved g y)) (image unit g x) (point_of unit y) (IsPoint-image unit some g x p) (≈_sym (image unit g x) (point_of unit (moved g y)) (image_of x y g e))
          (≈_trans (image unit g x) x (point_of unit y) p s.fixes e)),
    )),
    (λ s. record {
      element = s.0;
      fixes = ≈_trans (image unit g x) (point_of unit (moved g y)) x (IsPoint-scaled unit some (moved g y)) (image_of x y g e) (subst (λ z. point_of unit z ≈ x) (sym s.1) (≈_sym x (point_of unit y) e));
    }),
  )

  pub conjugate-scaled : (x x' : Point) (y y' : ScaledPoint) → IsPoint x → IsPoint x' → x ≈ point_of unit y → x' ≈ point_of unit y' → AreConjugate unit members x x' ↔ conjugates.Conjugate (space L) (on_points L) y y'
  conjugate-scaled x x' y y' p p' e e' = (
    (λ c. (
      c.by,
      c.element,
      λ s m.
          let a = site-scaled x y p e s in
          let b = site-scaled x' y' p' e' (c.by ∘ s ∘ undo c.by) in
          let k = subst (λ h. IsInSite unit members x s ↔ IsInSite unit members x' (c.by ∘ s ∘ h)) (one_inverse L c.by c.back c.element c.inverse) (c.exactly s m) in
          ((λ h. b.0 (k.0 (a.1 h))), (λ h. a.0 (k.1 (b.1 h)))),
    )),
    (λ c. record {
      by = c.0;
      back = undo c.0;
      element = c.1;
      inverse = record { left = (space L).inv_left c.0 c.1; right = (space L).inv_right c.0 c.1 };
      exactly = λ s m.
          let a = site-scaled x y p e s in
          let b = site-scaled x' y' p' e' (c.0 ∘ s ∘ undo c.0) in
          let k = c.2 s m in
          ((λ h. b.1 (k.0 (a.0 h))), (λ h. a.1 (k.1 (b.0 h))));
    }),
  )
