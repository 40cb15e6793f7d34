-- The definitions on rows of tables, in parts of a cell of 24; only examples cite these.
use Rattle.std.proofs.Common.{◌≢◌, ◌<◌, inl, inr, ℕ, ℤ, pos, negsuc, refl, ap, arith}
use Rattle.std.proofs.lemmas.Int.{ints}
use Rattle.lattice_algebra.specs.Matrix.{Matrix, Column, origin, identity, no_matrix, det, scaled, times, neg_column, ◌·ᶜ◌, ◌+ᶜ◌}
use Rattle.lattice_algebra.specs.Operator.{modulo}
use Rattle.space_groups.specs.Keys.{Key}
use Rattle.parameter_forms.specs.Forms.{IsFree, Form, IsParameterForm, IsCoefficientMatrix}
use Rattle.parameter_forms.specs.Finding.{cross_product, IsPlane, IsLine}
use Rattle.parameter_forms.proofs.Spanning.{all_along, all_free, plane_found, line_found}
use Rattle.parameter_forms.proofs.Planes.{over_y, coefficients_over_y}
use Rattle.parameter_forms.proofs.Lines.{by_x, nothing, bound, coefficients_by_x, coefficients_of_nothing}
use Rattle.parameter_forms.proofs.Along.{before_x}
use Rattle.parameter_forms.proofs.Scaling.{form_found, scaled_coefficients}

-- the matrix whose rows these are
abbrev pub rows : ℤ → ℤ → ℤ → ℤ → ℤ → ℤ → ℤ → ℤ → ℤ → Matrix
rows a b c d e f g h k = record { xx = a; xy = b; xz = c; yx = d; yy = e; yz = f; zx = g; zy = h; zz = k }

abbrev pub column : ℤ → ℤ → ℤ → Column
column x y z = record { x = x; y = y; z = z }

other : (k : ℕ) → 0 < k → pos k ≢ pos 0
other k h e = omega (arith, ints, h, e)

-- ---- a line of Fm-3m: 1/2*x+1/2*y,1/2*x+1/2*y,1/2 is x,x,1/2

abbrev pub diagonal_row : Key
diagonal_row = record { m = rows (pos 1) (pos 1) (pos 0) (pos 1) (pos 1) (pos 0) (pos 0) (pos 0) (pos 0); t = column (pos 0) (pos 0) (pos 24) }

abbrev pub diagonal_form : Form
diagonal_form = record { b = rows (pos 2) (pos 0) (pos 0) (pos 2) (pos 0) (pos 0) (pos 0) (pos 0) (pos 0); s = column (pos 0) (pos 0) (pos 24); over = 2 }

diagonal_line : IsLine diagonal_row.m (column (pos 1) (pos 1) (pos 0))
unfolding cross_product
diagonal_line = line_found diagonal_row.m refl refl refl (column (pos 1) (pos 1) (pos 0)) (inl ((λ e. other 1 (omega arith) (ap (λ (c : Column). c.x) e)), inl refl))

diagonal_coefficients : IsCoefficientMatrix diagonal_row.m (pos 1) (by_x (column (pos 1) (pos 1) (pos 0)))
diagonal_coefficients = coefficients_by_x diagonal_row.m (column (pos 1) (pos 1) (pos 0)) diagonal_line (other 1 (omega arith))

diagonal : IsParameterForm 24 2 diagonal_row diagonal_form
unfolding scaled times ◌·ᶜ◌ ◌+ᶜ◌ neg_column modulo
diagonal = form_found 24 2 1 diagonal_row (by_x (column (pos 1) (pos 1) (pos 0))) (column (pos 0) (pos 0) (pos 24)) (omega arith) (omega arith) (omega arith) diagonal_coefficients refl

-- y and z are not free in it
not_free : (j : ℕ) → j ≢ 0 → IsFree diagonal_row.m j → ⊥
not_free = bound diagonal_row.m (column (pos 1) (pos 1) (pos 0)) diagonal_line 0 (before_x (column (pos 1) (pos 1) (pos 0))) (other 1 (omega arith))

-- ---- a plane of P6/mmm: x,1/2*x,z is its own form

abbrev pub hexagonal_row : Key
hexagonal_row = record { m = rows (pos 2) (pos 0) (pos 0) (pos 1) (pos 0) (pos 0) (pos 0) (pos 0) (pos 2); t = origin }

-- over 8
abbrev pub hexagonal_form : Form
hexagonal_form = record { b = rows (pos 8) (pos 0) (pos 0) (pos 4) (pos 0) (pos 0) (pos 0) (pos 0) (pos 8); s = origin; over = 8 }

hexagonal_plane : IsPlane hexagonal_row.m (column (negsuc 1) (pos 4) (pos 0))
unfolding cross_product det
hexagonal_plane = plane_found hexagonal_row.m (column (negsuc 1) (pos 4) (pos 0)) refl (λ e. other 4 (omega arith) (ap (λ (c : Column). c.y) e)) (inr (inl refl))

hexagonal : IsParameterForm 24 2 hexagonal_row hexagonal_form
unfolding scaled times ◌·ᶜ◌ ◌+ᶜ◌ neg_column modulo
hexagonal =
    form_found 24 2 4 hexagonal_row (over_y (column (negsuc 1) (pos 4) (pos 0))) origin (omega arith) (omega arith) (omega arith)
    (coefficients_over_y hexagonal_row.m (column (negsuc 1) (pos 4) (pos 0)) hexagonal_plane refl (other 4 (omega arith))) refl

-- ---- a plane in a sheared setting: 1/2*y,y,z is x,2*x,z, over 4

abbrev pub sheared_row : Key
sheared_row = record { m = rows (pos 0) (pos 1) (pos 0) (pos 0) (pos 2) (pos 0) (pos 0) (pos 0) (pos 2); t = origin }

abbrev pub sheared_form : Form
sheared_form = record { b = rows (pos 4) (pos 0) (pos 0) (pos 8) (pos 0) (pos 0) (pos 0) (pos 0) (pos 4); s = origin; over = 4 }

sheared_plane : IsPlane sheared_row.m (column (pos 4) (negsuc 1) (pos 0))
unfolding cross_product det
sheared_plane = plane_found sheared_row.m (column (pos 4) (negsuc 1) (pos 0)) refl (λ e. other 4 (omega arith) (ap (λ (c : Column). c.x) e)) (inl refl)

sheared_coefficients : IsCoefficientMatrix sheared_row.m (pos 2) (rows (pos 2) (pos 0) (pos 0) (pos 4) (pos 0) (pos 0) (pos 0) (pos 0) (pos 2))
unfolding scaled
sheared_coefficients =
    scaled_coefficients sheared_row.m (negsuc 0) (negsuc 1) (over_y (column (pos 4) (negsuc 1) (pos 0)))
    (coefficients_over_y sheared_row.m (column (pos 4) (negsuc 1) (pos 0)) sheared_plane refl (λ e. omega (arith, ints, e)))

sheared : IsParameterForm 24 2 sheared_row sheared_form
unfolding scaled times ◌·ᶜ◌ ◌+ᶜ◌ neg_column modulo
sheared = form_found 24 2 2 sheared_row (rows (pos 2) (pos 0) (pos 0) (pos 4) (pos 0) (pos 0) (pos 0) (pos 0) (pos 2)) origin (omega arith) (omega arith) (omega arith) sheared_coefficients refl

-- ---- a plane off the origin: 1/2*x-1/2*y+1/8,-1/2*x+1/2*y+1/8,z is x,-x+1/4,z

abbrev pub mirror_row : Key
mirror_row = record { m = rows (pos 1) (negsuc 0) (pos 0) (negsuc 0) (pos 1) (pos 0) (pos 0) (pos 0) (pos 2); t = column (pos 6) (pos 6) (pos 0) }

-- over 4: the shift 1/4 is 24 / 96
abbrev pub mirror_form : Form
mirror_form = record { b = rows (pos 4) (pos 0) (pos 0) (negsuc 3) (pos 0) (pos 0) (pos 0) (pos 0) (pos 4); s = column (pos 0) (pos 24) (pos 0); over = 4 }

mirror_plane : IsPlane mirror_row.m (column (pos 2) (pos 2) (pos 0))
unfolding cross_product det
mirror_plane = plane_found mirror_row.m (column (pos 2) (pos 2) (pos 0)) refl (λ e. other 2 (omega arith) (ap (λ (c : Column). c.x) e)) (inr (inl refl))

mirror : IsParameterForm 24 2 mirror_row mirror_form
unfolding scaled times ◌·ᶜ◌ ◌+ᶜ◌ neg_column modulo
mirror =
    form_found 24 2 2 mirror_row (over_y (column (pos 2) (pos 2) (pos 0))) (column (pos 0) (pos 24) (pos 0)) (omega arith) (omega arith) (omega arith)
    (coefficients_over_y mirror_row.m (column (pos 2) (pos 2) (pos 0)) mirror_plane refl (other 2 (omega arith))) refl

-- ---- a point, and all of space

abbrev pub quarter_row : Key
quarter_row = record { m = no_matrix; t = column (pos 12) (pos 12) (pos 12) }

quarter : IsParameterForm 24 2 quarter_row (record { b = no_matrix; s = column (pos 12) (pos 12) (pos 12); over = 2 })
unfolding scaled times ◌·ᶜ◌ ◌+ᶜ◌ neg_column modulo cross_product
quarter =
    form_found 24 2 1 quarter_row nothing (column (pos 12) (pos 12) (pos 12)) (omega arith) (omega arith) (omega arith)
    (coefficients_of_nothing no_matrix origin (line_found no_matrix refl refl refl origin (inr (refl, refl, refl, refl))) refl) refl

general : IsParameterForm 24 2 (record { m = rows (pos 2) (pos 0) (pos 0) (pos 0) (pos 2) (pos 0) (pos 0) (pos 0) (pos 2); t = origin }) (record { b = rows (pos 2) (pos 0) (pos 0) (pos 0) (pos 2) (pos 0) (pos 0) (pos 0) (pos 2); s = origin; over = 2 })
unfolding scaled times ◌·ᶜ◌ ◌+ᶜ◌ neg_column modulo det
general =
    let m = rows (pos 2) (pos 0) (pos 0) (pos 0) (pos 2) (pos 0) (pos 0) (pos 0) (pos 2) in
    form_found 24 2 1 (record { m = m; t = origin }) identity origin (omega arith) (omega arith) (omega arith) (all_free m (all_along m (other 8 (omega arith)))) refl
