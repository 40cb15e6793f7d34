-- Grids: the points (i/a, j/b, k/c), i, j and k whole. International Tables A for what an operator does to a point; the order of
-- the points of a cell, and which grids are kept, are this project's own.
use Rattle.std.specs.Prelude.{◌≡◌, ◌≤◌, ◌<◌, ◌+◌, ◌*◌, ◌⊎◌, ℕ, pos, ◌*ℤ◌, List, slice_index_or}
use Rattle.std.specs.List.{Contains}
use Rattle.lattice_algebra.specs.Matrix.{Column, ◌·ᶜ◌, ◌+ᶜ◌, times}
use Rattle.lattice_algebra.specs.Operator.{Operator}
use Rattle.lattice_algebra.specs.Map.{Map, map_of}
use Rattle.exact_ops.specs.declared.TheConstants.{UNIT}
use Rattle.grid_tags.specs.declared.TheConstants.{MAX_SIDE, MAX_POINTS}

-- how many points the grid has along each axis of a cell
pub record Grid : Type 0 where
  pub a : ℕ
  pub b : ℕ
  pub c : ℕ

-- how many points it has in a cell
abbrev pub points : Grid → ℕ
points s = s.a * s.b * s.c

abbrev pub IsSide : ℕ → Type 0
IsSide n = (1 ≤ n) × (n ≤ MAX_SIDE)

-- the grid is within the limits
pub record IsGridInRange (s : Grid) : Type 0 where
  pub a : IsSide s.a
  pub b : IsSide s.b
  pub c : IsSide s.c
  pub few : points s ≤ MAX_POINTS

-- the numerators of the point (i/a, j/b, k/c) over UNIT a b c
abbrev pub numerators : Grid → Column → Column
numerators s v = record {
  x = v.x *ℤ pos (UNIT * s.b * s.c);
  y = v.y *ℤ pos (UNIT * s.a * s.c);
  z = v.z *ℤ pos (UNIT * s.a * s.b);
}

-- g maps the grid point v to the grid point u: their numerators over UNIT a b c
abbrev pub IsGridImage : Grid → Map → Column → Column → Type 0
IsGridImage s g v u = g.w ·ᶜ numerators s v +ᶜ times (pos (points s)) g.s ≡ numerators s u

-- the operator maps every grid point to a grid point
abbrev pub IsKeptBy : Grid → Operator → Type 0
IsKeptBy s f = (v : Column) → (u : Column) × IsGridImage s (map_of f) v u

-- the group keeps the grid: every member maps every grid point to a grid point
abbrev pub IsKept : List Operator → Grid → Type 0
IsKept members s = (f : Operator) → Contains members f → IsKeptBy s f

-- ---- the grid points of one cell

pub record Triple : Type 0 where
  pub i : ℕ
  pub j : ℕ
  pub k : ℕ

-- each coordinate is at least 0 and below 1
pub record IsInGrid (s : Grid) (p : Triple) : Type 0 where
  pub i : p.i < s.a
  pub j : p.j < s.b
  pub k : p.k < s.c

abbrev pub column_at : Triple → Column
column_at p = record { x = pos p.i; y = pos p.j; z = pos p.k }

abbrev pub triple_of : List ℕ → Triple
triple_of n = record { i = slice_index_or n 0 0; j = slice_index_or n 1 0; k = slice_index_or n 2 0 }

-- p stands before q: lexicographically ascending
abbrev pub ComesBefore : Triple → Triple → Type 0
ComesBefore p q = (p.i < q.i) ⊎ ((p.i ≡ q.i) × ((p.j < q.j) ⊎ ((p.j ≡ q.j) × (p.k < q.k))))

-- the place of a grid point of the cell among all of them in that order, from 0 on
unfoldable pub place_of : Grid → Triple → ℕ
place_of s p = (p.i * s.b + p.j) * s.c + p.k
