-- Operators: a matrix and a translation in parts of a cell, modulo the cell. A cell has `unit` parts.
-- International Tables A: the symmetry operations x -> W x + t / unit + n, n three whole numbers, as one pair (W, t).
use Rattle.std.specs.Prelude.{◌≡◌, ℤ, pos, ◌≤ℤ◌, ◌<ℤ◌, ◌≤◌, ℕ, unsigned_abs}
use Rattle.std.specs.Int.{int_rem_euclid}
use Rattle.lattice_algebra.specs.Matrix.{Matrix, Column, ◌·◌, ◌·ᶜ◌, ◌+ᶜ◌, neg_column, identity, origin, IsUnimodular, inverse_matrix}

-- the rotation part W and the translation part t
pub record Operator : Type 0 where
  pub w : Matrix
  pub t : Column

-- ---- translations modulo the cell

-- each number's remainder by unit
unfoldable pub modulo : ℕ → Column → Column
modulo unit c = record { x = int_rem_euclid c.x (pos unit); y = int_rem_euclid c.y (pos unit); z = int_rem_euclid c.z (pos unit) }

abbrev pub IsPart : ℕ → ℤ → Type 0
IsPart unit n = (pos 0 ≤ℤ n) × (n <ℤ pos unit)

-- each number of the column is at least 0 and below unit
pub record AreParts (unit : ℕ) (c : Column) : Type 0 where
  pub x : IsPart unit c.x
  pub y : IsPart unit c.y
  pub z : IsPart unit c.z

-- ---- operators

-- W is unimodular, and t lies in the cell
pub record IsOperator (unit : ℕ) (f : Operator) : Type 0 where
  pub unimodular : IsUnimodular f.w
  pub in_cell : AreParts unit f.t

abbrev pub identity_operator : Operator
identity_operator = record { w = identity; t = origin }

-- first f, then g
unfoldable pub product : ℕ → Operator → Operator → Operator
product unit g f = record { w = g.w · f.w; t = modulo unit (g.w ·ᶜ f.t +ᶜ g.t) }

-- g is the inverse of f: its matrix V is the inverse of W, and its translation is -V t
pub record IsInverse (unit : ℕ) (f g : Operator) : Type 0 where
  pub left : g.w · f.w ≡ identity
  pub right : f.w · g.w ≡ identity
  pub translation : g.t ≡ modulo unit (neg_column (g.w ·ᶜ f.t))

-- the inverse of f, where its matrix is unimodular
unfoldable pub inverse : ℕ → Operator → Operator
inverse unit f = let v = inverse_matrix f.w in record { w = v; t = modulo unit (neg_column (v ·ᶜ f.t)) }

-- ---- sizes

-- three numbers are at most n in size
pub record AreWithin (n : ℕ) (a b c : ℤ) : Type 0 where
  pub first : unsigned_abs a ≤ n
  pub second : unsigned_abs b ≤ n
  pub third : unsigned_abs c ≤ n

-- each entry of the matrix is at most n in size: its rows
pub record HasEntriesWithin (n : ℕ) (m : Matrix) : Type 0 where
  pub x : AreWithin n m.xx m.xy m.xz
  pub y : AreWithin n m.yx m.yy m.yz
  pub z : AreWithin n m.zx m.zy m.zz
