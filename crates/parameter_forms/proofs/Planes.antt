-- The coefficients of a plane: all coordinates are free but the last one in which the normal is not 0.
use Rattle.std.proofs.Common.{◌≡◌, ◌≢◌, ◌∷◌, [], ℕ, zero, suc, ℤ, pos, ◌*ℤ◌, neg_ℤ, inl, inr, refl, sym, ◌∙◌, arith}
use Rattle.std.proofs.lemmas.Int.{ints}
use lib.IntN.{*ℤ-zero}
use Rattle.lattice_algebra.specs.Matrix.{Matrix, Column, origin, sum_of_products}
use Rattle.lattice_algebra.specs.Operator.{AreWithin, HasEntriesWithin}
use Rattle.lattice_algebra.proofs.Ring.{known, var, con, ◌⊕◌, ◌⊗◌, neg, ring, ring_from}
use Rattle.lattice_algebra.proofs.Numbers.{cancel_some}
use Rattle.parameter_forms.specs.Forms.{coordinate, IsAlong, IsFree, IsCoefficientMatrix}
use Rattle.parameter_forms.specs.Finding.{row_times, IsPlane}
use Rattle.parameter_forms.proofs.Along.{AreZeroBefore, before_x, before_y, before_z}
use Rattle.parameter_forms.proofs.Columns.{IsParameterColumn}

-- no fourth coordinate is free
pub none_beyond : (m : Matrix) (i : ℕ) → IsFree m (suc (suc (suc i))) → ⊥
none_beyond m i f = f.some refl

-- a vector along the image that has a number in coordinate j, and 0 in all earlier and in every other free one
pub column_of_free : (m : Matrix) (d : ℤ) (j : ℕ) (v : Column) → IsAlong m v → coordinate v j ≡ d → d ≢ pos 0 → AreZeroBefore v j → ((i : ℕ) → IsFree m i → i ≢ j → coordinate v i ≡ pos 0) → IsParameterColumn m d j v
column_of_free m d j v along one some before others = inl (record { vector = v; along = along; before = before; some = λ e. some (sym one ∙ e) }, record { along = along; one = one; others = others })

nothing_left : (a b c x y z k : ℤ) → sum_of_products a b c x y z ≡ pos 0 → k ≢ pos 0 → (u : ℤ) → sum_of_products a b c x y z ≡ k *ℤ u → u ≡ pos 0
nothing_left a b c x y z k e some u f = cancel_some k u (pos 0) some (sym f ∙ e ∙ sym (*ℤ-zero k))

pub last_some : (l : Column) → l.z ≡ pos 0 → l.y ≡ pos 0 → l ≢ origin → l.x ≢ pos 0
last_some l z y some x = some (λ i. record { x = x i; y = y i; z = z i })

-- B where z depends on x and y, where y depends on x alone, and where x is the same everywhere
abbrev pub over_z : Column → Matrix
over_z l = record { xx = l.z; xy = pos 0; xz = pos 0; yx = pos 0; yy = l.z; yz = pos 0; zx = neg_ℤ l.x; zy = neg_ℤ l.y; zz = pos 0 }

abbrev pub over_y : Column → Matrix
over_y l = record { xx = l.y; xy = pos 0; xz = pos 0; yx = neg_ℤ l.x; yy = pos 0; yz = pos 0; zx = pos 0; zy = pos 0; zz = l.y }

abbrev pub without_x : Matrix
without_x = record { xx = pos 0; xy = pos 0; xz = pos 0; yx = pos 0; yy = pos 1; yz = pos 0; zx = pos 0; zy = pos 0; zz = pos 1 }

pub over_z_within : (n : ℕ) (l : Column) → AreWithin n l.x l.y l.z → HasEntriesWithin n (over_z l)
over_z_within n l h = record {
  x = record { first = h.third; second = omega (arith, ints); third = omega (arith, ints) };
  y = record { first = omega (arith, ints); second = h.third; third = omega (arith, ints) };
  z = record { first = omega (arith, ints, h.first); second = omega (arith, ints, h.second); third = omega (arith, ints) };
}

module _ (m : Matrix) (l : Column) (plane : IsPlane m l) where
  -- ---- z depends on x and y

  bound_z : l.z ≢ pos 0 → IsFree m 2 → ⊥
  bound_z some f =
      let v = f.vector in
      f.some (nothing_left l.x l.y l.z v.x v.y v.z l.z ((plane v).0 f.along) some v.z (by v (f.before 0 (omega arith)) (f.before 1 (omega arith))))
    where
      by : (v : Column) → v.x ≡ pos 0 → v.y ≡ pos 0 → row_times l v ≡ l.z *ℤ v.z
      by v p q = rw p (rw q (omega (arith, ints)))

  pub coefficients_over_z : l.z ≢ pos 0 → IsCoefficientMatrix m l.z (over_z l)
  coefficients_over_z some zero h =
      column_of_free m l.z 0 (record { x = l.z; y = pos 0; z = neg_ℤ l.x })
      ((plane (record { x = l.z; y = pos 0; z = neg_ℤ l.x })).1 (ring (l.x ∷ l.y ∷ l.z ∷ []) (var 0 ⊗ var 2 ⊕ var 1 ⊗ con (pos 0) ⊕ var 2 ⊗ neg (var 0)) (con (pos 0)) tt))
      refl some (before_x _) others
    where
      others : (i : ℕ) → IsFree m i → i ≢ 0 → coordinate (record { x = l.z; y = pos 0; z = neg_ℤ l.x }) i ≡ pos 0
      others zero f apart = absurd (apart refl)
      others (suc zero) f apart = refl
      others (suc (suc zero)) f apart = absurd (bound_z some f)
      others (suc (suc (suc i))) f apart = refl
  coefficients_over_z some (suc zero) h =
      column_of_free m l.z 1 (record { x = pos 0; y = l.z; z = neg_ℤ l.y })
      ((plane (record { x = pos 0; y = l.z; z = neg_ℤ l.y })).1 (ring (l.x ∷ l.y ∷ l.z ∷ []) (var 0 ⊗ con (pos 0) ⊕ var 1 ⊗ var 2 ⊕ var 2 ⊗ neg (var 1)) (con (pos 0)) tt))
      refl some (before_y _ refl) others
    where
      others : (i : ℕ) → IsFree m i → i ≢ 1 → coordinate (record { x = pos 0; y = l.z; z = neg_ℤ l.y }) i ≡ pos 0
      others zero f apart = refl
      others (suc zero) f apart = absurd (apart refl)
      others (suc (suc zero)) f apart = absurd (bound_z some f)
      others (suc (suc (suc i))) f apart = refl
  coefficients_over_z some (suc (suc zero)) h = inr (bound_z some, refl)
  coefficients_over_z some (suc (suc (suc j))) h = absurd (omega (arith, h))

  -- ---- y depends on x

  bound_y : l.z ≡ pos 0 → l.y ≢ pos 0 → IsFree m 1 → ⊥
  bound_y none some f =
      let v = f.vector in
      f.some (nothing_left l.x l.y l.z v.x v.y v.z l.y ((plane v).0 f.along) some v.y (by v none (f.before 0 (omega arith))))
    where
      by : (v : Column) → l.z ≡ pos 0 → v.x ≡ pos 0 → row_times l v ≡ l.y *ℤ v.y
      by v p q = rw p (rw q (omega (arith, ints)))

  pub coefficients_over_y : l.z ≡ pos 0 → l.y ≢ pos 0 → IsCoefficientMatrix m l.y (over_y l)
  coefficients_over_y none some zero h =
      column_of_free m l.y 0 (record { x = l.y; y = neg_ℤ l.x; z = pos 0 })
      ((plane (record { x = l.y; y = neg_ℤ l.x; z = pos 0 })).1 (ring (l.x ∷ l.y ∷ l.z ∷ []) (var 0 ⊗ var 1 ⊕ var 1 ⊗ neg (var 0) ⊕ var 2 ⊗ con (pos 0)) (con (pos 0)) tt))
      refl some (before_x _) others
    where
      others : (i : ℕ) → IsFree m i → i ≢ 0 → coordinate (record { x = l.y; y = neg_ℤ l.x; z = pos 0 }) i ≡ pos 0
      others zero f apart = absurd (apart refl)
      others (suc zero) f apart = absurd (bound_y none some f)
      others (suc (suc zero)) f apart = refl
      others (suc (suc (suc i))) f apart = refl
  coefficients_over_y none some (suc zero) h = inr (bound_y none some, refl)
  coefficients_over_y none some (suc (suc zero)) h =
      column_of_free m l.y 2 (record { x = pos 0; y = pos 0; z = l.y })
      ((plane (record { x = pos 0; y = pos 0; z = l.y })).1 (ring_from (l.x ∷ l.y ∷ l.z ∷ []) (var 0 ⊗ con (pos 0) ⊕ var 1 ⊗ con (pos 0) ⊕ var 2 ⊗ var 1) (con (pos 0)) (known (var 1) (var 2) (con (pos 0)) ∷ []) (none, tt) tt))
      refl some (before_z _ refl refl) others
    where
      others : (i : ℕ) → IsFree m i → i ≢ 2 → coordinate (record { x = pos 0; y = pos 0; z = l.y }) i ≡ pos 0
      others zero f apart = refl
      others (suc zero) f apart = refl
      others (suc (suc zero)) f apart = absurd (apart refl)
      others (suc (suc (suc i))) f apart = refl
  coefficients_over_y none some (suc (suc (suc j))) h = absurd (omega (arith, h))

  -- ---- x is the same everywhere

  bound_x : l.z ≡ pos 0 → l.y ≡ pos 0 → l.x ≢ pos 0 → IsFree m 0 → ⊥
  bound_x none nor some f =
      let v = f.vector in
      f.some (nothing_left l.x l.y l.z v.x v.y v.z l.x ((plane v).0 f.along) some v.x (by v none nor))
    where
      by : (v : Column) → l.z ≡ pos 0 → l.y ≡ pos 0 → row_times l v ≡ l.x *ℤ v.x
      by v p q = rw p (rw q (omega (arith, ints)))

  one_some : pos 1 ≢ pos 0
  one_some e = omega (arith, ints, e)

  pub coefficients_without_x : l.z ≡ pos 0 → l.y ≡ pos 0 → l.x ≢ pos 0 → IsCoefficientMatrix m (pos 1) without_x
  coefficients_without_x none nor some zero h = inr (bound_x none nor some, refl)
  coefficients_without_x none nor some (suc zero) h =
      column_of_free m (pos 1) 1 (record { x = pos 0; y = pos 1; z = pos 0 })
      ((plane (record { x = pos 0; y = pos 1; z = pos 0 })).1 (ring_from (l.x ∷ l.y ∷ l.z ∷ []) (var 0 ⊗ con (pos 0) ⊕ var 1 ⊗ con (pos 1) ⊕ var 2 ⊗ con (pos 0)) (con (pos 0)) (known (con (pos 1)) (var 1) (con (pos 0)) ∷ []) (nor, tt) tt))
      refl one_some (before_y _ refl) others
    where
      others : (i : ℕ) → IsFree m i → i ≢ 1 → coordinate (record { x = pos 0; y = pos 1; z = pos 0 }) i ≡ pos 0
      others zero f apart = refl
      others (suc zero) f apart = absurd (apart refl)
      others (suc (suc zero)) f apart = refl
      others (suc (suc (suc i))) f apart = refl
  coefficients_without_x none nor some (suc (suc zero)) h =
      column_of_free m (pos 1) 2 (record { x = pos 0; y = pos 0; z = pos 1 })
      ((plane (record { x = pos 0; y = pos 0; z = pos 1 })).1 (ring_from (l.x ∷ l.y ∷ l.z ∷ []) (var 0 ⊗ con (pos 0) ⊕ var 1 ⊗ con (pos 0) ⊕ var 2 ⊗ con (pos 1)) (con (pos 0)) (known (con (pos 1)) (var 2) (con (pos 0)) ∷ []) (none, tt) tt))
      refl one_some (before_z _ refl refl) others
    where
      others : (i : ℕ) → IsFree m i → i ≢ 2 → coordinate (record { x = pos 0; y = pos 0; z = pos 1 }) i ≡ pos 0
      others zero f apart = refl
      others (suc zero) f apart = refl
      others (suc (suc zero)) f apart = absurd (apart refl)
      others (suc (suc (suc i))) f apart = refl
  coefficients_without_x none nor some (suc (suc (suc j))) h = absurd (omega (arith, h))
