-- Columns and matrices whose numbers are all multiples of one.
use Rattle.std.proofs.Common.{◌≡◌, ℤ, ◌*ℤ◌, w64, FitsSigned, to_z-of_z, ap, sym, ◌∙◌}
use Rattle.lattice_algebra.proofs.Machine.{back, kept}
use Rattle.basis_change.proofs.Frames.{BOUND}
use Rattle.lattice_algebra.specs.Matrix.{Matrix, Column, scaled, times}
use Rattle.lattice_algebra.specs.Operator.{AreWithin}

-- q is n over k
abbrev pub IsQuotient : ℤ → ℤ → ℤ → Type 0
IsQuotient k n q = k *ℤ q ≡ n

pub column_quotient : (k : ℤ) (c q : Column) → IsQuotient k c.x q.x → IsQuotient k c.y q.y → IsQuotient k c.z q.z → times k q ≡ c
unfolding times
column_quotient k c q x y z = λ i. record { x = x i; y = y i; z = z i }

pub quotients_of : (k : ℤ) (c q : Column) → times k q ≡ c → IsQuotient k c.x q.x × IsQuotient k c.y q.y × IsQuotient k c.z q.z
unfolding times
quotients_of k c q e = (ap (λ (v : Column). v.x) e, ap (λ (v : Column). v.y) e, ap (λ (v : Column). v.z) e)

-- the rows of a matrix, as columns
abbrev pub x_row : Matrix → Column
x_row m = record { x = m.xx; y = m.xy; z = m.xz }

abbrev pub y_row : Matrix → Column
y_row m = record { x = m.yx; y = m.yy; z = m.yz }

abbrev pub z_row : Matrix → Column
z_row m = record { x = m.zx; y = m.zy; z = m.zz }

abbrev pub of_rows : Column → Column → Column → Matrix
of_rows x y z = record { xx = x.x; xy = x.y; xz = x.z; yx = y.x; yy = y.y; yz = y.z; zx = z.x; zy = z.y; zz = z.z }

pub matrix_quotient : (k : ℤ) (m : Matrix) (x y z : Column) → times k x ≡ x_row m → times k y ≡ y_row m → times k z ≡ z_row m → scaled k (of_rows x y z) ≡ m
unfolding scaled times
matrix_quotient k m x y z p q r = λ i. of_rows (p i) (q i) (r i)

pub rows_of : (k : ℤ) (m q : Matrix) → scaled k q ≡ m → (times k (x_row q) ≡ x_row m) × (times k (y_row q) ≡ y_row m) × (times k (z_row q) ≡ z_row m)
unfolding scaled times
rows_of k m q e = (ap x_row e, ap y_row e, ap z_row e)

-- ---- numbers that were passed on

pub passed_quotient : (k n q : ℤ) → FitsSigned w64 k → FitsSigned w64 n → IsQuotient k n q → IsQuotient (back w64 k) (back w64 n) q
passed_quotient k n q f g e = ap (λ z. z *ℤ q) (to_z-of_z f) ∙ e ∙ sym (to_z-of_z g)

pub quotient_passed : (k n q : ℤ) → FitsSigned w64 k → FitsSigned w64 n → IsQuotient (back w64 k) (back w64 n) q → IsQuotient k n q
quotient_passed k n q f g e = ap (λ z. z *ℤ q) (sym (to_z-of_z f)) ∙ e ∙ to_z-of_z g

abbrev back_column : Column → Column
back_column c = record { x = back w64 c.x; y = back w64 c.y; z = back w64 c.z }

pub kept_column : (c : Column) → AreWithin BOUND c.x c.y c.z → back_column c ≡ c
kept_column c h = λ i. record { x = kept w64 BOUND c.x h.first tt i; y = kept w64 BOUND c.y h.second tt i; z = kept w64 BOUND c.z h.third tt i }

pub passed_row : (k : ℤ) (r q : Column) → FitsSigned w64 k → AreWithin BOUND r.x r.y r.z → times k q ≡ r → times (back w64 k) q ≡ back_column r
passed_row k r q f h e = ap (λ z. times z q) (to_z-of_z f) ∙ e ∙ sym (kept_column r h)

pub row_passed : (k : ℤ) (r q : Column) → FitsSigned w64 k → AreWithin BOUND r.x r.y r.z → times (back w64 k) q ≡ back_column r → times k q ≡ r
row_passed k r q f h e = ap (λ z. times z q) (sym (to_z-of_z f)) ∙ e ∙ kept_column r h
