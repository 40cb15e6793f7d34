-- Points as they are given and kept: numerators over one denominator, in the range of coordinates.
use Rattle.std.specs.Prelude.{◌≡◌, ◌≤◌, ◌*◌, ◌^◌, ℕ, ℤ, pos, ◌*ℤ◌, ◌≤ℤ◌, unsigned_abs, List, slice_index_or}
use Rattle.std.specs.Int.{int_rem_euclid}
use Rattle.lattice_algebra.specs.Matrix.{column_of}
use Rattle.lattice_algebra.specs.Point.{Point, IsPoint, HasCoordinatesWithin}
use Rattle.exact_ops.specs.declared.TheConstants.{UNIT, MAX_COORDINATE, MAX_DENOMINATOR}

-- n / d
abbrev pub point_with : List ℤ → ℤ → Point
point_with n d = record { n = column_of n; d = d }

-- d is a positive multiple of UNIT, and each coordinate is within range
pub record IsPointInRange (p : Point) : Type 0 where
  pub positive : IsPoint p
  pub multiple : int_rem_euclid p.d (pos UNIT) ≡ pos 0
  pub denominator : p.d ≤ℤ pos (UNIT * MAX_DENOMINATOR ^ 3)
  pub within : HasCoordinatesWithin MAX_COORDINATE p

-- ---- three coordinates, each a numerator and a denominator

abbrev pub coordinate_at : List (ℤ × ℤ) → ℕ → ℤ × ℤ
coordinate_at c i = slice_index_or c i (pos 0, pos 0)

abbrev pub IsCoordinateInRange : ℤ × ℤ → Type 0
IsCoordinateInRange q = (unsigned_abs q.0 ≤ MAX_COORDINATE) × (pos 1 ≤ℤ q.1) × (q.1 ≤ℤ pos MAX_DENOMINATOR)

pub record AreCoordinatesInRange (c : List (ℤ × ℤ)) : Type 0 where
  pub x : IsCoordinateInRange (coordinate_at c 0)
  pub y : IsCoordinateInRange (coordinate_at c 1)
  pub z : IsCoordinateInRange (coordinate_at c 2)

-- p has these coordinates, over UNIT times the product of their denominators
pub record HasCoordinates (c : List (ℤ × ℤ)) (p : Point) : Type 0 where
  pub denominator : p.d ≡ pos UNIT *ℤ ((coordinate_at c 0).1 *ℤ (coordinate_at c 1).1 *ℤ (coordinate_at c 2).1)
  pub x : p.n.x *ℤ (coordinate_at c 0).1 ≡ (coordinate_at c 0).0 *ℤ p.d
  pub y : p.n.y *ℤ (coordinate_at c 1).1 ≡ (coordinate_at c 1).0 *ℤ p.d
  pub z : p.n.z *ℤ (coordinate_at c 2).1 ≡ (coordinate_at c 2).0 *ℤ p.d
