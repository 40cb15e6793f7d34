-- The coefficients of a line: the first coordinate in which its vector is not 0 is the free one.
use Rattle.std.proofs.Common.{◌≡◌, ◌≢◌, ◌<◌, ◌∷◌, [], ℕ, zero, suc, ℤ, pos, ◌*ℤ◌, inr, refl, ap, sym, subst, ◌∙◌, ⊎_elim, arith}
use Rattle.std.proofs.lemmas.Int.{ints}
use Rattle.std.proofs.lemmas.Bool.{cases_lt, cases_eq}
use lib.IntN.{*ℤ-zero, zero-*ℤ, *ℤ_comm}
use Rattle.lattice_algebra.specs.Matrix.{Matrix, Column, origin, times}
use Rattle.lattice_algebra.proofs.Ring.{var, con, ◌⊗◌, ring}
use Rattle.lattice_algebra.proofs.Numbers.{cancel_some}
use Rattle.parameter_forms.specs.Forms.{coordinate, nth_column, IsAlong, IsFree, IsCoefficientMatrix}
use Rattle.parameter_forms.specs.Finding.{IsLine}
use Rattle.parameter_forms.proofs.Along.{AreZeroBefore, before_x, before_y, before_z, along_of_times}
use Rattle.parameter_forms.proofs.Columns.{IsParameterColumn, origin_at}
use Rattle.parameter_forms.proofs.Planes.{column_of_free}

pub times_at : (k : ℤ) (v : Column) (i : ℕ) → coordinate (times k v) i ≡ k *ℤ coordinate v i
unfolding times
times_at k v zero = refl
times_at k v (suc zero) = refl
times_at k v (suc (suc zero)) = refl
times_at k v (suc (suc (suc i))) = sym (*ℤ-zero k)

none_of_none : (k e x y : ℤ) → k ≢ pos 0 → k *ℤ x ≡ e *ℤ y → y ≡ pos 0 → x ≡ pos 0
none_of_none k e x y some h z = cancel_some k x (pos 0) some (h ∙ ap (λ v. e *ℤ v) z ∙ *ℤ-zero e ∙ sym (*ℤ-zero k))

no_factor : (k e x y : ℤ) → k *ℤ x ≡ e *ℤ y → x ≡ pos 0 → y ≢ pos 0 → e ≡ pos 0
no_factor k e x y h z some = cancel_some y e (pos 0) some (*ℤ_comm y e ∙ sym h ∙ ap (λ v. k *ℤ v) z ∙ *ℤ-zero k ∙ sym (*ℤ-zero y))

-- B where x is free, where y is, where z is, and where none is
abbrev pub by_x : Column → Matrix
by_x v = let o = pos 0 in record { xx = v.x; xy = o; xz = o; yx = v.y; yy = o; yz = o; zx = v.z; zy = o; zz = o }

abbrev pub by_y : Column → Matrix
by_y v = let o = pos 0 in record { xx = o; xy = o; xz = o; yx = o; yy = v.y; yz = o; zx = o; zy = v.z; zz = o }

abbrev pub by_z : Matrix
by_z = let o = pos 0 in record { xx = o; xy = o; xz = o; yx = o; yy = o; yz = o; zx = o; zy = o; zz = pos 1 }

abbrev pub nothing : Matrix
nothing = let o = pos 0 in record { xx = o; xy = o; xz = o; yx = o; yy = o; yz = o; zx = o; zy = o; zz = o }

module _ (m : Matrix) (v : Column) (line : IsLine m v) where
  at_each : (w : Column) (p : IsAlong m w) (i : ℕ) → (line.multiples w p).0 *ℤ coordinate w i ≡ (line.multiples w p).1 *ℤ coordinate v i
  at_each w p i = let h = line.multiples w p in sym (times_at h.0 w i) ∙ ap (λ c. coordinate c i) h.3 ∙ times_at h.1 v i

  -- no other coordinate is free
  module _ (p : ℕ) (before : AreZeroBefore v p) (some : coordinate v p ≢ pos 0) where
    pub bound : (j : ℕ) → j ≢ p → IsFree m j → ⊥
    bound j apart f =
        let w = f.vector in
        let h = line.multiples w f.along in
        let left : j < p → ⊥ = λ l. f.some (none_of_none h.0 h.1 (coordinate w j) (coordinate v j) h.2 (at_each w f.along j) (before j l)) in
        let right : p < j → ⊥ = λ l.
        let none = no_factor h.0 h.1 (coordinate w p) (coordinate v p) (at_each w f.along p) (f.before p l) some in
        f.some (cancel_some h.0 (coordinate w j) (pos 0) h.2 (at_each w f.along j ∙ ap (λ e. e *ℤ coordinate v j) none ∙ zero-*ℤ (coordinate v j) ∙ sym (*ℤ-zero h.0))) in
        ⊎_elim left (λ h. ⊎_elim right (λ g. apart (omega (arith, h, g))) (cases_lt p j)) (cases_lt j p)

    -- a matrix that has the vector, over d, in that column, and nothing in the others
    pub alone : (d : ℤ) (b : Matrix) → d ≢ pos 0 → IsAlong m (nth_column b p) → AreZeroBefore (nth_column b p) p → coordinate (nth_column b p) p ≡ d → ((j : ℕ) → j < 3 → j ≢ p → nth_column b j ≡ origin) → IsCoefficientMatrix m d b
    alone d b other along first one rest j l =
        ⊎_elim
        (λ e. subst (λ k. IsParameterColumn m d k (nth_column b k)) (sym e) (column_of_free m d p (nth_column b p) along one other first (λ i f apart. absurd (bound i apart f))))
        (λ apart. inr (bound j apart, rest j l apart))
        (cases_eq j p)

  pub coefficients_by_x : v.x ≢ pos 0 → IsCoefficientMatrix m v.x (by_x v)
  coefficients_by_x some = alone 0 (before_x v) some v.x (by_x v) some line.along (before_x v) refl rest
    where
      rest : (j : ℕ) → j < 3 → j ≢ 0 → nth_column (by_x v) j ≡ origin
      rest zero l apart = absurd (apart refl)
      rest (suc zero) l apart = refl
      rest (suc (suc zero)) l apart = refl
      rest (suc (suc (suc j))) l apart = absurd (omega (arith, l))

  pub coefficients_by_y : v.x ≡ pos 0 → v.y ≢ pos 0 → IsCoefficientMatrix m v.y (by_y v)
  coefficients_by_y none some =
      let same : v ≡ nth_column (by_y v) 1 = λ i. record { x = none i; y = v.y; z = v.z } in
      alone 1 (before_y v none) some v.y (by_y v) some (subst (IsAlong m) same line.along) (before_y (nth_column (by_y v) 1) refl) refl rest
    where
      rest : (j : ℕ) → j < 3 → j ≢ 1 → nth_column (by_y v) j ≡ origin
      rest zero l apart = refl
      rest (suc zero) l apart = absurd (apart refl)
      rest (suc (suc zero)) l apart = refl
      rest (suc (suc (suc j))) l apart = absurd (omega (arith, l))

  along_z : v.x ≡ pos 0 → v.y ≡ pos 0 → v ≡ times v.z (nth_column by_z 2)
  unfolding times
  along_z none nor =
      let zero = sym (*ℤ-zero v.z) in
      let one : v.z ≡ v.z *ℤ pos 1 = ring (v.z ∷ []) (var 0) (var 0 ⊗ con (pos 1)) tt in
      λ i. record { x = (none ∙ zero) i; y = (nor ∙ zero) i; z = one i }

  pub coefficients_by_z : v.x ≡ pos 0 → v.y ≡ pos 0 → v.z ≢ pos 0 → IsCoefficientMatrix m (pos 1) by_z
  coefficients_by_z none nor some =
      let same : v ≡ times v.z (nth_column by_z 2) = along_z none nor in
      alone 2 (before_z v none nor) some (pos 1) by_z (λ e. omega (arith, ints, e)) (along_of_times m v.z (nth_column by_z 2) some (subst (IsAlong m) same line.along)) (before_z (nth_column by_z 2) refl refl) refl rest
    where
      rest : (j : ℕ) → j < 3 → j ≢ 2 → nth_column by_z j ≡ origin
      rest zero l apart = refl
      rest (suc zero) l apart = refl
      rest (suc (suc zero)) l apart = absurd (apart refl)
      rest (suc (suc (suc j))) l apart = absurd (omega (arith, l))

  pub coefficients_of_nothing : v ≡ origin → IsCoefficientMatrix m (pos 1) nothing
  coefficients_of_nothing none j l = inr ((λ f. let h = line.multiples f.vector f.along in f.some (none_of_none h.0 h.1 (coordinate f.vector j) (coordinate v j) h.2 (at_each f.vector f.along j) (ap (λ c. coordinate c j) none ∙ origin_at j))), no_column j l)
    where
      no_column : (j : ℕ) → j < 3 → nth_column nothing j ≡ origin
      no_column zero l = refl
      no_column (suc zero) l = refl
      no_column (suc (suc zero)) l = refl
      no_column (suc (suc (suc j))) l = absurd (omega (arith, l))
