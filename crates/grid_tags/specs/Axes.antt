-- The axes of a grid, along which a translation moves points by places. Nothing outside of this crate cites them.
use Rattle.std.specs.Prelude.{◌≡◌, ◌≤◌, ◌<◌, ◌*◌, ◌/◌, ℕ, ℤ, pos, ◌-ℤ◌, slice_index_or}
use Rattle.exact_ops.specs.declared.TheConstants.{UNIT}
use Rattle.grid_tags.specs.declared.TheConstants.{MAX_POINTS}
use Rattle.grid_tags.specs.declared.axes.Axis.{Axis}
use Rattle.grid_tags.specs.declared.axes.Axes.{Axes}
use Rattle.grid_tags.specs.Grids.{Grid, Triple, IsSide}

-- an axis with n points, each d places behind the one before
pub record IsAxis (n d : ℕ) (axis : Axis) : Type 0 where
  pub side : IsSide n
  pub some : 1 ≤ d
  pub few : n * d ≤ MAX_POINTS
  pub step : axis.step ≡ pos d
  pub whole : axis.whole ≡ pos (n * d)
  pub shifts : (t : ℕ) → t < UNIT → slice_index_or axis.shifts t (pos 0) ≡ pos (t * n / UNIT * d) -ℤ pos (n * d)

-- the coordinate i along the axis adds so much to a place
pub record IsOnAxis (n d : ℕ) (axis : Axis) (i : ℕ) (part : ℤ) : Type 0 where
  pub is_axis : IsAxis n d axis
  pub within : i < n
  pub is_part : part ≡ pos (i * d)

pub record AreAxes (s : Grid) (axes : Axes) : Type 0 where
  pub x : IsAxis s.a (s.b * s.c) axes.x
  pub y : IsAxis s.b s.c axes.y
  pub z : IsAxis s.c 1 axes.z

-- the coordinates of the point add x, y and z to its place
pub record AreOnAxes (s : Grid) (axes : Axes) (p : Triple) (x y z : ℤ) : Type 0 where
  pub x_on : IsOnAxis s.a (s.b * s.c) axes.x p.i x
  pub y_on : IsOnAxis s.b s.c axes.y p.j y
  pub z_on : IsOnAxis s.c 1 axes.z p.k z
