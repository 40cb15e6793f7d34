-- Which columns of the matrix of an average are enough to span its image.
use Rattle.std.specs.Prelude.{◌≡◌, ◌≢◌, ◌≤◌, ℤ, pos, negsuc, cond}
use Rattle.std.specs.Int.{from_bool}
use Rattle.lattice_algebra.specs.Matrix.{Matrix, Column, ◌·◌, ◌+ᵐ◌, scaled}
use Rattle.group_closure.specs.declared.TheConstants.{MAX_OPERATORS}
use Rattle.space_groups.specs.Regions.{diagonal}
use Rattle.affine_sets.specs.declared.keys.Sizes.{Sizes}
use Rattle.wyckoff_rows.specs.declared.spans.Taken.{Taken}

abbrev pub size_column : Sizes → Column
size_column q = record { x = pos q.x; y = pos q.y; z = pos q.z }

pub record AreFew (q : Sizes) : Type 0 where
  pub x : q.x ≤ MAX_OPERATORS
  pub y : q.y ≤ MAX_OPERATORS
  pub z : q.z ≤ MAX_OPERATORS

-- some number times m is a whole combination of these multiples of its columns
pub record AreEnough (m : Matrix) (q : Sizes) : Type 0 where
  pub number : ℤ
  pub some : number ≢ pos 0
  pub weights : Matrix
  pub combines : scaled number m ≡ (m · diagonal (size_column q)) · weights

-- n I - m
abbrev pub rest_of : ℤ → Matrix → Matrix
rest_of n m = diagonal (record { x = n; y = n; z = n }) +ᵐ scaled (negsuc 0) m

-- 1 for each column that is taken, and 0 for the others
abbrev pub taken_column : Taken → Column
taken_column t = record { x = pos (from_bool t.x); y = pos (from_bool t.y); z = pos (from_bool t.z) }

-- unit columns in place of those that are taken
abbrev pub with_units : Matrix → Taken → Matrix
with_units k t = let o = pos 0 in let i = pos 1 in record {
  xx = cond t.x i k.xx;
  xy = cond t.y o k.xy;
  xz = cond t.z o k.xz;
  yx = cond t.x o k.yx;
  yy = cond t.y i k.yy;
  yz = cond t.z o k.yz;
  zx = cond t.x o k.zx;
  zy = cond t.y o k.zy;
  zz = cond t.z i k.zz;
}
