-- What the columns of a coefficient matrix do.
use Rattle.std.proofs.Common.{◌≡◌, ◌≢◌, ◌⊎◌, ◌++◌, ◌∷◌, [], ◌<◌, ℕ, zero, suc, ℤ, pos, ◌*ℤ◌, neg_ℤ, subst, ⊎_elim, ap, sym, ◌∙◌, refl, arith}
use Rattle.std.proofs.lemmas.Int.{ints}
use Rattle.lattice_algebra.specs.Matrix.{Matrix, Column, entries, coordinates, origin, sum_of_products, ◌·ᶜ◌, ◌+ᶜ◌, times}
use Rattle.lattice_algebra.proofs.Ring.{known, var, con, ◌⊕◌, ◌⊗◌, neg, ring_from}
use Rattle.lattice_algebra.proofs.MatrixRing.{matrix_at, column_at, ◌·ˢᶜ◌, ◌+ˢᶜ◌, sym_times, column_ring}
use Rattle.parameter_forms.specs.Forms.{coordinate, nth_column, IsAlong, IsFree, IsUnitVector, IsCoefficientMatrix}
use Rattle.parameter_forms.proofs.Along.{origin_along, sum_along, nothing_free, sum_at, difference_none, times_one}

abbrev pub IsParameterColumn : Matrix → ℤ → ℕ → Column → Type 0
IsParameterColumn m d j v = (IsFree m j × IsUnitVector m d j v) ⊎ ((IsFree m j → ⊥) × (v ≡ origin))

pub origin_at : (i : ℕ) → coordinate origin i ≡ pos 0
origin_at zero = refl
origin_at (suc zero) = refl
origin_at (suc (suc zero)) = refl
origin_at (suc (suc (suc i))) = refl

-- each column is along the image
pub column_along : (m : Matrix) (d : ℤ) (j : ℕ) (v : Column) → IsParameterColumn m d j v → IsAlong m v
column_along m d j v p = ⊎_elim (λ f. f.1.along) (λ n. subst (IsAlong m) (sym n.1) (origin_along m)) p

-- in its own coordinate, where that is free, it has d, and 0 in the other free ones
pub own : (m : Matrix) (d : ℤ) (j : ℕ) (v : Column) → IsParameterColumn m d j v → IsFree m j → coordinate v j ≡ d
own m d j v p free = ⊎_elim (λ f. f.1.one) (λ n. absurd (n.0 free)) p

pub other : (m : Matrix) (d : ℤ) (j : ℕ) (v : Column) → IsParameterColumn m d j v → (i : ℕ) → IsFree m i → i ≢ j → coordinate v i ≡ pos 0
other m d j v p i free apart = ⊎_elim (λ f. f.1.others i free apart) (λ n. ap (λ c. coordinate c i) n.1 ∙ origin_at i) p

-- ---- B leaves what is along the image, but for the number d

pub by_columns : (b : Matrix) (v : Column) → b ·ᶜ v ≡ times (pos 1) (times v.x (nth_column b 0) +ᶜ times v.y (nth_column b 1)) +ᶜ times v.z (nth_column b 2)
unfolding ◌·ᶜ◌ ◌+ᶜ◌ times
by_columns b v =
    let B = matrix_at 0 in
    let V = column_at 9 in
    column_ring (entries b ++ coordinates v) (B ·ˢᶜ V)
    (sym_times (con (pos 1)) (sym_times V.x (record { x = B.xx; y = B.yx; z = B.zx }) +ˢᶜ sym_times V.y (record { x = B.xy; y = B.yy; z = B.zy })) +ˢᶜ sym_times V.z (record { x = B.xz; y = B.yz; z = B.zz })) tt

first_alone : (a b c x y z d : ℤ) → a ≡ d → b ≡ pos 0 → c ≡ pos 0 → sum_of_products a b c x y z ≡ d *ℤ x
first_alone a b c x y z d p q r = rw p (rw q (rw r (omega (arith, ints))))

second_alone : (a b c x y z d : ℤ) → a ≡ pos 0 → b ≡ d → c ≡ pos 0 → sum_of_products a b c x y z ≡ d *ℤ y
second_alone a b c x y z d p q r = rw p (rw q (rw r (omega (arith, ints))))

third_alone : (a b c x y z d : ℤ) → a ≡ pos 0 → b ≡ pos 0 → c ≡ d → sum_of_products a b c x y z ≡ d *ℤ z
third_alone a b c x y z d p q r = rw p (rw q (rw r (omega (arith, ints))))

-- the number of u - d v in a coordinate where u has d times that of v
left_at : (d : ℤ) (u v : Column) (i : ℕ) → i < 3 → coordinate u i ≡ d *ℤ coordinate v i → coordinate (times (pos 1) u +ᶜ times (neg_ℤ d) v) i ≡ pos 0
left_at d u v i l e = sum_at d (pos 1) u v i l (ring_from (d ∷ coordinate u i ∷ coordinate v i ∷ []) (con (pos 1) ⊗ var 1 ⊕ neg (var 0) ⊗ var 2) (con (pos 0)) (known (con (pos 1)) (var 1) (var 0 ⊗ var 2) ∷ []) (e, tt) tt)

module _ (m : Matrix) (d : ℤ) (b : Matrix) (is : IsCoefficientMatrix m d b) where
  -- what B makes of any vector is along the image
  pub made_along : (v : Column) → IsAlong m (b ·ᶜ v)
  made_along v =
      let at = λ (j : ℕ) (l : j < 3). column_along m d j (nth_column b j) (is j l) in
      subst (IsAlong m) (sym (by_columns b v))
      (sum_along m (pos 1) v.z (times v.x (nth_column b 0) +ᶜ times v.y (nth_column b 1)) (nth_column b 2)
      (sum_along m v.x v.y (nth_column b 0) (nth_column b 1) (at 0 (omega arith)) (at 1 (omega arith))) (at 2 (omega arith)))

  -- in a free coordinate it has d times the number that the vector has there
  row_of_free : (i : ℕ) → i < 3 → IsFree m i → (v : Column) → coordinate (b ·ᶜ v) i ≡ d *ℤ coordinate v i
  unfolding ◌·ᶜ◌
  row_of_free zero l free v =
      first_alone b.xx b.xy b.xz v.x v.y v.z d (own m d 0 (nth_column b 0) (is 0 l) free)
      (other m d 1 (nth_column b 1) (is 1 (omega arith)) 0 free (λ e. omega (arith, e)))
      (other m d 2 (nth_column b 2) (is 2 (omega arith)) 0 free (λ e. omega (arith, e)))
  row_of_free (suc zero) l free v =
      second_alone b.yx b.yy b.yz v.x v.y v.z d (other m d 0 (nth_column b 0) (is 0 (omega arith)) 1 free (λ e. omega (arith, e)))
      (own m d 1 (nth_column b 1) (is 1 l) free)
      (other m d 2 (nth_column b 2) (is 2 (omega arith)) 1 free (λ e. omega (arith, e)))
  row_of_free (suc (suc zero)) l free v =
      third_alone b.zx b.zy b.zz v.x v.y v.z d (other m d 0 (nth_column b 0) (is 0 (omega arith)) 2 free (λ e. omega (arith, e)))
      (other m d 1 (nth_column b 1) (is 1 (omega arith)) 2 free (λ e. omega (arith, e)))
      (own m d 2 (nth_column b 2) (is 2 l) free)
  row_of_free (suc (suc (suc i))) l free v = absurd (omega (arith, l))

  pub leaves_along : (v : Column) → IsAlong m v → b ·ᶜ v ≡ times d v
  leaves_along v p =
      let rest = times (pos 1) (b ·ᶜ v) +ᶜ times (neg_ℤ d) v in
      sym (times_one (b ·ᶜ v)) ∙ difference_none d (pos 1) (b ·ᶜ v) v
      (nothing_free m rest (sum_along m (pos 1) (neg_ℤ d) (b ·ᶜ v) v (made_along v) p) (λ i l free. left_at d (b ·ᶜ v) v i l (row_of_free i l free v)))
