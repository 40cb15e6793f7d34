-- How the coefficients are found from what is along the image of a matrix, and how a form is kept.
use Rattle.std.specs.Prelude.{◌≡◌, ◌≢◌, ◌<◌, ◌≤◌, ◌⊎◌, ◌↔◌, ◌*◌, ℕ, ℤ, pos, ◌-ℤ◌, ◌*ℤ◌, unsigned_abs}
use Rattle.lattice_algebra.specs.Matrix.{Matrix, Column, sum_of_products, origin, times, scaled}
use Rattle.lattice_algebra.specs.Operator.{AreParts, HasEntriesWithin}
use Rattle.space_groups.specs.Keys.{Key}
use Rattle.exact_ops.specs.declared.TheConstants.{UNIT}
use Rattle.exact_ops.specs.declared.matrix.Rotation.{Rotation}
use Rattle.exact_ops.specs.declared.matrix.Vector.{Vector}
use Rattle.exact_ops.specs.Fields.{matrix_in, column_in}
use Rattle.parameter_forms.specs.declared.TheConstants.{MAX_MINOR, MAX_OVER}
use Rattle.parameter_forms.specs.Forms.{IsAlong, Form}

-- ---- planes and lines

unfoldable pub cross_product : Column → Column → Column
cross_product a b = record { x = a.y *ℤ b.z -ℤ a.z *ℤ b.y; y = a.z *ℤ b.x -ℤ a.x *ℤ b.z; z = a.x *ℤ b.y -ℤ a.y *ℤ b.x }

-- the product of a row and a column
abbrev pub row_times : Column → Column → ℤ
row_times l v = sum_of_products l.x l.y l.z v.x v.y v.z

-- along the image are exactly the vectors v with l v = 0
abbrev pub IsPlane : Matrix → Column → Type 0
IsPlane m l = (v : Column) → IsAlong m v ↔ (row_times l v ≡ pos 0)

-- along the image are v and its multiples alone
pub record IsLine (m : Matrix) (v : Column) : Type 0 where
  pub along : IsAlong m v
  pub multiples : (w : Column) → IsAlong m w → (k e : ℤ) × (k ≢ pos 0) × (times k w ≡ times e v)

-- v is one of the three, and zero only where all of them are
abbrev pub IsSomeOther : Column → Column → Column → Column → Type 0
IsSomeOther a b c v = ((v ≢ origin) × ((v ≡ a) ⊎ (v ≡ b) ⊎ (v ≡ c))) ⊎ ((v ≡ origin) × (a ≡ origin) × (b ≡ origin) × (c ≡ origin))

-- ---- as they are kept

-- the numbers of coefficients, and that over which they stand, which is not 0
pub record IsSmall (b : Rotation) (over : ℤ) : Type 0 where
  pub entries : HasEntriesWithin MAX_MINOR (matrix_in b)
  pub over_size : unsigned_abs over ≤ MAX_MINOR
  pub some : over ≢ pos 0

abbrev pub pair_in : Rotation → Vector → Key
pair_in m t = record { m = matrix_in m; t = column_in t }

abbrev pub form_in : Rotation → Vector → ℕ → Form
form_in b s over = record { b = matrix_in b; s = column_in s; over = over }

-- the matrix stands over a number of at most MAX_MINOR too: all its numbers, and that over which it stands, are so many times theirs
pub record IsMultipleOfSmall (f : Form) : Type 0 where
  pub number : ℕ
  pub some : 0 < number
  pub matrix : Matrix
  pub over : ℕ
  pub small : over ≤ MAX_MINOR
  pub entries : f.b ≡ scaled (pos number) matrix
  pub product : f.over ≡ number * over

-- the numbers of a form fit
pub record IsKeptForm (f : Form) : Type 0 where
  pub some : 1 ≤ f.over
  pub over : f.over ≤ MAX_OVER
  pub entries : HasEntriesWithin MAX_OVER f.b
  pub in_cell : AreParts (UNIT * f.over) f.s
  pub multiple : IsMultipleOfSmall f
