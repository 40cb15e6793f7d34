-- Equality of rational points by cross products, and their images.
use Rattle.std.proofs.Common.{◌≡◌, ◌++◌, ◌∷◌, ℕ, ◌*◌, ◌<◌, ◌≤◌, ℤ, pos, negsuc, ◌*ℤ◌, ◌<ℤ◌, unsigned_abs, ap, ap₂, sym, ◌∙◌, arith, mul-le-mul, le_refl}
use Rattle.std.proofs.lemmas.Int.{ints, unsigned_abs-mul}
use Rattle.std.proofs.Math.Nat.{le_of_mul-le-mul_left}
use lib.IntN.{*ℤ_comm}
use Rattle.lattice_algebra.specs.Matrix.{Matrix, Column, entries, coordinates, ◌·ᶜ◌, ◌+ᶜ◌, times}
use Rattle.lattice_algebra.specs.Operator.{Operator}
use Rattle.lattice_algebra.specs.Map.{Map, map_of}
use Rattle.lattice_algebra.specs.Point.{Point, IsPoint, ◌≈◌, image, HasCoordinatesWithin}
use Rattle.lattice_algebra.proofs.Ring.{var, ◌⊗◌}
use Rattle.lattice_algebra.proofs.MatrixRing.{matrix_at, column_at, ◌·ˢᶜ◌, ◌+ˢᶜ◌, sym_times, column_ring}
use Rattle.lattice_algebra.proofs.Numbers.{above, positive_product}
use Rattle.lattice_algebra.proofs.Columns.{cancel_column, swap_times}
use Rattle.lattice_algebra.proofs.Maps.{shifted}

pub ≈_sym : (p q : Point) → p ≈ q → q ≈ p
≈_sym p q e = sym e

pub ≈_trans : (p q r : Point) → IsPoint q → p ≈ q → q ≈ r → p ≈ r
≈_trans p q r h e f =
    cancel_column q.d (times r.d p.n) (times p.d r.n) h
    (swap_times q.d r.d p.n ∙ ap (times r.d) e ∙ swap_times r.d p.d q.n ∙ ap (times p.d) f ∙ swap_times p.d q.d r.n)

-- a map gives one image of one point
spread : (w : Matrix) (s n : Column) (u d e : ℤ) → times (u *ℤ e) (times u (w ·ᶜ n) +ᶜ times d s) ≡ times (u *ℤ u) (w ·ᶜ times e n) +ᶜ times (u *ℤ (d *ℤ e)) s
unfolding ◌·ᶜ◌ ◌+ᶜ◌ times
spread w s n u d e =
    let U = var 0 in
    let D = var 1 in
    let E = var 2 in
    let W = matrix_at 3 in
    let S = column_at 12 in
    let N = column_at 15 in
    column_ring (u ∷ d ∷ e ∷ (entries w ++ (coordinates s ++ coordinates n)))
    (sym_times (U ⊗ E) (sym_times U (W ·ˢᶜ N) +ˢᶜ sym_times D S))
    (sym_times (U ⊗ U) (W ·ˢᶜ sym_times E N) +ˢᶜ sym_times (U ⊗ (D ⊗ E)) S)
    tt

pub image-same : (unit : ℕ) (g : Map) (p q : Point) → p ≈ q → image unit g p ≈ image unit g q
unfolding image
image-same unit g p q e =
    let u = pos unit in
    spread g.w g.s p.n u p.d q.d
    ∙ ap₂ (λ v k. times (u *ℤ u) (g.w ·ᶜ v) +ᶜ times (u *ℤ k) g.s) e (*ℤ_comm p.d q.d)
    ∙ sym (spread g.w g.s q.n u q.d p.d)

pub positive_times : (u : ℕ) (d : ℤ) → 0 < u → pos 0 <ℤ d → pos 0 <ℤ (pos u *ℤ d)
positive_times u (pos k) h p = above (u * k) (positive_product u k h (omega (arith, ints)))
positive_times u (negsuc k) h p = absurd (omega (arith, ints))

pub IsPoint-image : (unit : ℕ) → 0 < unit → (g : Map) (p : Point) → IsPoint p → IsPoint (image unit g p)
unfolding image
IsPoint-image unit h g p q = positive_times unit p.d h q

-- a map that shifts by whole cells more
shifted_columns : (a t k n : Column) (u d : ℤ) → times (u *ℤ d) n ≡ times d (a +ᶜ times d t) → times (u *ℤ d) (n +ᶜ times d k) ≡ times d (a +ᶜ times d (t +ᶜ times u k))
unfolding ◌+ᶜ◌ times
shifted_columns a t k n u d e =
    let U = var 0 in
    let D = var 1 in
    let K = column_at 2 in
    let N = column_at 5 in
    let A = column_at 5 in
    let T = column_at 8 in
    column_ring (u ∷ d ∷ (coordinates k ++ coordinates n)) (sym_times (U ⊗ D) (N +ˢᶜ sym_times D K)) (sym_times (U ⊗ D) N +ˢᶜ sym_times (U ⊗ (D ⊗ D)) K) tt
    ∙ ap (λ v. v +ᶜ times (u *ℤ (d *ℤ d)) k) e
    ∙ column_ring (u ∷ d ∷ (coordinates k ++ (coordinates a ++ coordinates t))) (sym_times D (A +ˢᶜ sym_times D T) +ˢᶜ sym_times (U ⊗ (D ⊗ D)) K) (sym_times D (A +ˢᶜ sym_times D (T +ˢᶜ sym_times U K))) tt

pub image-shifted : (unit : ℕ) (f : Operator) (k n : Column) (p : Point) → record { n = n; d = p.d } ≈ image unit (map_of f) p → record { n = n +ᶜ times p.d k; d = p.d } ≈ image unit (shifted unit f k) p
unfolding image
image-shifted unit f k n p e = shifted_columns (times (pos unit) (f.w ·ᶜ p.n)) f.t k n (pos unit) p.d e

-- the size of a coordinate is that of the point
size_over : (s a b x y : ℕ) → 0 < a → b * x ≡ a * y → x ≤ s * a → y ≤ s * b
size_over s a b x y h e l =
    let f : b * x ≤ b * (s * a) = mul-le-mul (le_refl b) l in
    let g : b * (s * a) ≡ a * (s * b) = omega arith in
    le_of_mul-le-mul_left {k = a} (omega (arith, e, f, g)) h

coordinate_over : (s : ℕ) (a b x y : ℤ) → pos 0 <ℤ a → b *ℤ x ≡ a *ℤ y → unsigned_abs x ≤ s * unsigned_abs a → unsigned_abs y ≤ s * unsigned_abs b
coordinate_over s a b x y h e l =
    let some : 0 < unsigned_abs a = omega (arith, ints) in
    size_over s (unsigned_abs a) (unsigned_abs b) (unsigned_abs x) (unsigned_abs y) some (sym (unsigned_abs-mul b x) ∙ ap unsigned_abs e ∙ unsigned_abs-mul a y) l

pub HasCoordinatesWithin-same : (size : ℕ) (p q : Point) → IsPoint p → p ≈ q → HasCoordinatesWithin size p → HasCoordinatesWithin size q
unfolding times
HasCoordinatesWithin-same size p q h e l = record {
  first = coordinate_over size p.d q.d p.n.x q.n.x h (ap (λ (c : Column). c.x) e) l.first;
  second = coordinate_over size p.d q.d p.n.y q.n.y h (ap (λ (c : Column). c.y) e) l.second;
  third = coordinate_over size p.d q.d p.n.z q.n.z h (ap (λ (c : Column). c.z) e) l.third;
}
