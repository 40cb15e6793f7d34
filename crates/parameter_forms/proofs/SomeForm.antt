-- Every pair has a parameter form.
use Rattle.std.proofs.Common.{◌≡◌, ◌≢◌, ◌⊎◌, ◌<◌, ◌*◌, inl, inr, ℕ, ℤ, pos, unsigned_abs, ap, subst, refl, ⊎_elim}
use Rattle.std.specs.Int.{int_signum}
use Rattle.lattice_algebra.specs.Matrix.{Matrix, Column, origin, identity, det, times, neg_column, scaled, ◌·ᶜ◌, ◌+ᶜ◌}
use Rattle.lattice_algebra.specs.Operator.{modulo}
use Rattle.lattice_algebra.proofs.Numbers.{zero_or_other, some_size}
use Rattle.space_groups.specs.Keys.{Key}
use Rattle.parameter_forms.specs.Forms.{IsCoefficientMatrix, Form, IsParameterForm}
use Rattle.parameter_forms.specs.Finding.{cross_product, IsPlane, IsLine, IsSomeOther}
use Rattle.parameter_forms.proofs.Planes.{over_z, over_y, without_x, coefficients_over_z, coefficients_over_y, coefficients_without_x, last_some}
use Rattle.parameter_forms.proofs.Lines.{by_x, by_y, by_z, nothing, coefficients_by_x, coefficients_by_y, coefficients_by_z, coefficients_of_nothing}
use Rattle.parameter_forms.proofs.Spanning.{first, second, third, all_along, all_free, plane_found, line_found, other_of, none_of}
use Rattle.parameter_forms.proofs.Along.{one_is_some}
use Rattle.parameter_forms.proofs.Scaling.{scaled_coefficients, sign_times, form_found}

-- some matrix B over a number that is not 0
abbrev HasCoefficients : Matrix → Type 0
HasCoefficients m = (d : ℤ) × (b : Matrix) × (d ≢ pos 0) × IsCoefficientMatrix m d b

of_plane : (m : Matrix) (l : Column) → IsPlane m l → l ≢ origin → HasCoefficients m
of_plane m l plane some =
    ⊎_elim
    (λ z. ⊎_elim
    (λ y. (pos 1, without_x, one_is_some, coefficients_without_x m l plane z y (last_some l z y some)))
    (λ y. (l.y, over_y l, y, coefficients_over_y m l plane z y))
    (zero_or_other l.y))
    (λ z. (l.z, over_z l, z, coefficients_over_z m l plane z))
    (zero_or_other l.z)

of_line : (m : Matrix) (v : Column) → IsLine m v → HasCoefficients m
of_line m v line =
    ⊎_elim
    (λ x. ⊎_elim
    (λ y. ⊎_elim
    (λ z. (pos 1, nothing, one_is_some, coefficients_of_nothing m v line (λ i. record { x = x i; y = y i; z = z i })))
    (λ z. (pos 1, by_z, one_is_some, coefficients_by_z m v line x y z))
    (zero_or_other v.z))
    (λ y. (v.y, by_y v, y, coefficients_by_y m v line x y))
    (zero_or_other v.y))
    (λ x. (v.x, by_x v, x, coefficients_by_x m v line x))
    (zero_or_other v.x)

origin_or_other : (v : Column) → (v ≡ origin) ⊎ (v ≢ origin)
origin_or_other v =
    ⊎_elim
    (λ x. ⊎_elim
    (λ y. ⊎_elim (λ z. inl (λ i. record { x = x i; y = y i; z = z i })) (λ z. inr (λ e. z (ap (λ (c : Column). c.z) e))) (zero_or_other v.z))
    (λ y. inr (λ e. y (ap (λ (c : Column). c.y) e)))
    (zero_or_other v.y))
    (λ x. inr (λ e. x (ap (λ (c : Column). c.x) e)))
    (zero_or_other v.x)

some_other : (a b c : Column) → (v : Column) × IsSomeOther a b c v
some_other a b c =
    ⊎_elim
    (λ p. ⊎_elim
    (λ q. ⊎_elim (λ r. (c, inr (r, p, q, r))) (λ r. (c, inl (r, inr (inr refl)))) (origin_or_other c))
    (λ q. (b, inl (q, inr (inl refl))))
    (origin_or_other b))
    (λ p. (a, inl (p, inl refl)))
    (origin_or_other a)

some_coefficients : (m : Matrix) → HasCoefficients m
some_coefficients m =
    let l = some_other (cross_product (second m) (third m)) (cross_product (third m) (first m)) (cross_product (first m) (second m)) in
    let v = some_other (first m) (second m) (third m) in
    ⊎_elim
    (λ none. ⊎_elim
    (λ e. let h = none_of _ _ _ l.0 l.1 e in of_line m v.0 (line_found m h.2 h.0 h.1 v.0 v.1))
    (λ some. of_plane m l.0 (plane_found m l.0 none some (other_of _ _ _ l.0 l.1 some)) some)
    (origin_or_other l.0))
    (λ some. (pos 1, identity, one_is_some, all_free m (all_along m some)))
    (zero_or_other (det m))

module _ (unit n : ℕ) (p : Key) where
  abbrev c : HasCoefficients p.m
  c = some_coefficients p.m

  abbrev d : ℕ
  d = unsigned_abs c.0

  abbrev b : Matrix
  b = scaled (int_signum c.0) c.1

  pub found_form : Form
  found_form = record { b = scaled (pos n) b; s = modulo (unit * n * d) (times (pos d) p.t +ᶜ neg_column (b ·ᶜ p.t)); over = n * d }

  coefficients : IsCoefficientMatrix p.m (pos d) b
  coefficients = subst (λ k. IsCoefficientMatrix p.m k b) (sign_times c.0) (scaled_coefficients p.m (int_signum c.0) c.0 c.1 c.3)

  pub found_is : 0 < unit → 0 < n → IsParameterForm unit n p found_form
  unfolding found_form
  found_is unit_some some = form_found unit n d p b (modulo (unit * n * d) (times (pos d) p.t +ᶜ neg_column (b ·ᶜ p.t))) unit_some some (some_size c.0 c.2) coefficients refl

pub some_form : (unit n : ℕ) (p : Key) → 0 < unit → 0 < n → (f : Form) × IsParameterForm unit n p f
some_form unit n p unit_some some = (found_form unit n p, found_is unit n p unit_some some)
