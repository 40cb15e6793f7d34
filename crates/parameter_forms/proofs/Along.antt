-- Vectors along the image of a matrix.
use Rattle.std.proofs.Common.{◌≡◌, ◌≢◌, ◌++◌, ◌∷◌, [], ◌<◌, ◌*◌, ℕ, zero, suc, ℤ, pos, negsuc, ◌<ℤ◌, ◌*ℤ◌, ◌+ℤ◌, neg_ℤ, ⊎_elim, ap, ap₂, sym, refl, ◌∙◌, arith}
use Rattle.std.proofs.lemmas.Int.{ints}
use lib.IntN.{*ℤ-zero}
use Rattle.lattice_algebra.specs.Matrix.{Matrix, Column, entries, coordinates, origin, ◌·ᶜ◌, ◌+ᶜ◌, times}
use Rattle.lattice_algebra.proofs.Ring.{known, var, con, ◌⊕◌, ◌⊗◌, neg, ring_from}
use Rattle.lattice_algebra.proofs.MatrixRing.{matrix_at, column_at, ◌·ˢᶜ◌, ◌+ˢᶜ◌, sym_times, sym_origin, column_ring}
use Rattle.lattice_algebra.proofs.Numbers.{above, positive_product, cancel_some, zero_or_other}
use Rattle.lattice_algebra.proofs.Columns.{times-times}
use Rattle.parameter_forms.specs.Forms.{coordinate, IsAlong, IsFree}

pub some_product : (a b : ℤ) → a ≢ pos 0 → b ≢ pos 0 → a *ℤ b ≢ pos 0
some_product a b p q e = q (cancel_some a b (pos 0) p (e ∙ sym (*ℤ-zero a)))

pub square_positive : (k : ℤ) → k ≢ pos 0 → pos 0 <ℤ (k *ℤ k)
square_positive (pos zero) some = absurd (some refl)
square_positive (pos (suc k)) some = above (suc k * suc k) (positive_product (suc k) (suc k) (omega arith) (omega arith))
square_positive (negsuc k) some = above (suc k * suc k) (positive_product (suc k) (suc k) (omega arith) (omega arith))

pub one_is_some : pos 1 ≢ pos 0
one_is_some e = omega (arith, ints, e)

-- ---- what is along the image

pub times_one : (v : Column) → times (pos 1) v ≡ v
unfolding times
times_one v = column_ring (coordinates v) (sym_times (con (pos 1)) (column_at 0)) (column_at 0) tt

pub image_along : (m : Matrix) (z v : Column) → v ≡ m ·ᶜ z → IsAlong m v
image_along m z v e = record { number = pos 1; some = one_is_some; from = z; equal = times_one v ∙ e }

times_origin : (m : Matrix) → times (pos 1) origin ≡ m ·ᶜ origin
unfolding times ◌·ᶜ◌
times_origin m = column_ring (entries m) (sym_times (con (pos 1)) sym_origin) (matrix_at 0 ·ˢᶜ sym_origin) tt

pub origin_along : (m : Matrix) → IsAlong m origin
origin_along m = record { number = pos 1; some = one_is_some; from = origin; equal = times_origin m }

-- what has a multiple along it
pub along_of_times : (m : Matrix) (k : ℤ) (v : Column) → k ≢ pos 0 → IsAlong m (times k v) → IsAlong m v
along_of_times m k v some p = record { number = p.number *ℤ k; some = some_product p.number k p.some some; from = p.from; equal = sym (times-times p.number k v) ∙ p.equal }

-- sums of multiples
spread : (a b j k : ℤ) (u v : Column) → times (j *ℤ k) (times a u +ᶜ times b v) ≡ times (a *ℤ k) (times j u) +ᶜ times (b *ℤ j) (times k v)
unfolding times ◌+ᶜ◌
spread a b j k u v =
    let A = var 0 in
    let B = var 1 in
    let J = var 2 in
    let K = var 3 in
    let U = column_at 4 in
    let V = column_at 7 in
    column_ring (a ∷ b ∷ j ∷ k ∷ (coordinates u ++ coordinates v)) (sym_times (J ⊗ K) (sym_times A U +ˢᶜ sym_times B V)) (sym_times (A ⊗ K) (sym_times J U) +ˢᶜ sym_times (B ⊗ J) (sym_times K V)) tt

gathered : (m : Matrix) (a b : ℤ) (y z : Column) → times a (m ·ᶜ y) +ᶜ times b (m ·ᶜ z) ≡ m ·ᶜ (times a y +ᶜ times b z)
unfolding times ◌+ᶜ◌ ◌·ᶜ◌
gathered m a b y z =
    let A = var 0 in
    let B = var 1 in
    let Y = column_at 2 in
    let Z = column_at 5 in
    let M = matrix_at 8 in
    column_ring (a ∷ b ∷ (coordinates y ++ (coordinates z ++ entries m))) (sym_times A (M ·ˢᶜ Y) +ˢᶜ sym_times B (M ·ˢᶜ Z)) (M ·ˢᶜ (sym_times A Y +ˢᶜ sym_times B Z)) tt

pub sum_along : (m : Matrix) (a b : ℤ) (u v : Column) → IsAlong m u → IsAlong m v → IsAlong m (times a u +ᶜ times b v)
sum_along m a b u v p q = record {
  number = p.number *ℤ q.number;
  some = some_product p.number q.number p.some q.some;
  from = times (a *ℤ q.number) p.from +ᶜ times (b *ℤ p.number) q.from;
  equal = spread a b p.number q.number u v ∙ ap₂ (λ s t. times (a *ℤ q.number) s +ᶜ times (b *ℤ p.number) t) p.equal q.equal ∙ gathered m (a *ℤ q.number) (b *ℤ p.number) p.from q.from;
}

-- ---- a vector that is 0 in every free coordinate is 0

-- what holds of the first coordinates
abbrev pub AreZeroBefore : Column → ℕ → Type 0
AreZeroBefore u j = (i : ℕ) → i < j → coordinate u i ≡ pos 0

pub before_x : (u : Column) → AreZeroBefore u 0
before_x u i l = absurd (omega (arith, l))

pub before_y : (u : Column) → u.x ≡ pos 0 → AreZeroBefore u 1
before_y u x zero l = x
before_y u x (suc i) l = absurd (omega (arith, l))

pub before_z : (u : Column) → u.x ≡ pos 0 → u.y ≡ pos 0 → AreZeroBefore u 2
before_z u x y zero l = x
before_z u x y (suc zero) l = y
before_z u x y (suc (suc i)) l = absurd (omega (arith, l))

pub nothing_free : (m : Matrix) (u : Column) → IsAlong m u → ((i : ℕ) → i < 3 → IsFree m i → coordinate u i ≡ pos 0) → u ≡ origin
nothing_free m u p h =
    let x = at 0 (omega arith) (before_x u) in
    let y = at 1 (omega arith) (before_y u x) in
    let z = at 2 (omega arith) (before_z u x y) in
    λ k. record { x = x k; y = y k; z = z k }
  where
    at : (i : ℕ) → i < 3 → AreZeroBefore u i → coordinate u i ≡ pos 0
    at i l before = ⊎_elim (λ e. e) (λ some. absurd (some (h i l (record { vector = u; along = p; before = before; some = some })))) (zero_or_other (coordinate u i))

-- ---- numbers of e v - d w

pub sum_at : (d e : ℤ) (v w : Column) (i : ℕ) → i < 3 → e *ℤ coordinate v i +ℤ neg_ℤ d *ℤ coordinate w i ≡ pos 0 → coordinate (times e v +ᶜ times (neg_ℤ d) w) i ≡ pos 0
unfolding times ◌+ᶜ◌
sum_at d e v w zero l h = h
sum_at d e v w (suc zero) l h = h
sum_at d e v w (suc (suc zero)) l h = h
sum_at d e v w (suc (suc (suc i))) l h = absurd (omega (arith, l))

no_rest : (d e x y : ℤ) → e *ℤ x +ℤ neg_ℤ d *ℤ y ≡ pos 0 → e *ℤ x ≡ d *ℤ y
no_rest d e x y h = ring_from (d ∷ e ∷ x ∷ y ∷ []) (var 1 ⊗ var 2) (var 0 ⊗ var 3) (known (con (pos 1)) (var 1 ⊗ var 2 ⊕ neg (var 0) ⊗ var 3) (con (pos 0)) ∷ []) (h, tt) tt

pub difference_none : (d e : ℤ) (v w : Column) → times e v +ᶜ times (neg_ℤ d) w ≡ origin → times e v ≡ times d w
unfolding times ◌+ᶜ◌
difference_none d e v w h = λ i. record {
  x = no_rest d e v.x w.x (ap (λ (c : Column). c.x) h) i;
  y = no_rest d e v.y w.y (ap (λ (c : Column). c.y) h) i;
  z = no_rest d e v.z w.z (ap (λ (c : Column). c.z) h) i;
}
