-- The parameter form of a row of the table of Wyckoff positions: its points in free coordinates, such as x,x,0, as International Tables A
-- prints them. Which coordinates are free, and the form itself, are this project's own rule.
use Rattle.std.specs.Prelude.{◌≡◌, ◌≢◌, ◌<◌, ◌⊎◌, ◌+◌, ◌*◌, ℕ, ℤ, pos, slice_index_or}
use Rattle.lattice_algebra.specs.Matrix.{Matrix, Column, entries, coordinates, origin, ◌·ᶜ◌, ◌+ᶜ◌, neg_column, times, scaled}
use Rattle.lattice_algebra.specs.Operator.{AreParts}
use Rattle.space_groups.specs.Keys.{Key}

-- ---- by places: 0, 1 and 2 for x, y and z

-- the number of a column in coordinate i
abbrev pub coordinate : Column → ℕ → ℤ
coordinate v i = slice_index_or (coordinates v) i (pos 0)

-- the entry of a matrix in row i and column j
abbrev pub entry : Matrix → ℕ → ℕ → ℤ
entry m i j = slice_index_or (entries m) (3 * i + j) (pos 0)

-- its column j
abbrev pub nth_column : Matrix → ℕ → Column
nth_column m j = record { x = entry m 0 j; y = entry m 1 j; z = entry m 2 j }

-- ---- free coordinates

-- v is along the image of m: it is m z for a rational z, so that some multiple of it is m z for a whole z
pub record IsAlong (m : Matrix) (v : Column) : Type 0 where
  pub number : ℤ
  pub some : number ≢ pos 0
  pub from : Column
  pub equal : times number v ≡ m ·ᶜ from

-- coordinate j is free: some vector along the image has 0 in all coordinates before j, and not in j
pub record IsFree (m : Matrix) (j : ℕ) : Type 0 where
  pub vector : Column
  pub along : IsAlong m vector
  pub before : (i : ℕ) → i < j → coordinate vector i ≡ pos 0
  pub some : coordinate vector j ≢ pos 0

-- ---- the form

-- v over d is the vector along the image that has 1 in coordinate j, and 0 in every other free coordinate
pub record IsUnitVector (m : Matrix) (d : ℤ) (j : ℕ) (v : Column) : Type 0 where
  pub along : IsAlong m v
  pub one : coordinate v j ≡ d
  pub others : (i : ℕ) → IsFree m i → i ≢ j → coordinate v i ≡ pos 0

-- B over d: the column j is that vector where coordinate j is free, and else zero
abbrev pub IsCoefficientMatrix : Matrix → ℤ → Matrix → Type 0
IsCoefficientMatrix m d b = (j : ℕ) → j < 3 → (IsFree m j × IsUnitVector m d j (nth_column b j)) ⊎ ((IsFree m j → ⊥) × (nth_column b j ≡ origin))

-- a matrix B over some number, and a column s over unit times it
pub record Form : Type 0 where
  pub b : Matrix
  pub s : Column
  pub over : ℕ

-- the same as a pair like that of a row: so a point lies on the form as it lies on a row
abbrev pub pair_of : Form → Key
pair_of f = record { m = f.b; t = f.s }

-- f is the parameter form of the pair M, t, where M stands over n and t over unit n: the matrix is B, and s is t - B t, each number modulo 1
pub record IsParameterForm (unit n : ℕ) (p : Key) (f : Form) : Type 0 where
  pub some : 0 < f.over
  pub matrix : IsCoefficientMatrix p.m (pos f.over) f.b
  pub in_cell : AreParts (unit * f.over) f.s
  pub whole : Column
  pub shift : times (pos n) f.s ≡ times (pos f.over) p.t +ᶜ neg_column (f.b ·ᶜ p.t) +ᶜ times (pos (unit * n * f.over)) whole

-- two forms are one: the entries and the shifts have equal cross products
pub record IsSameForm (f g : Form) : Type 0 where
  pub matrix : scaled (pos g.over) f.b ≡ scaled (pos f.over) g.b
  pub shift : times (pos g.over) f.s ≡ times (pos f.over) g.s
