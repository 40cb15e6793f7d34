-- Rows of three whole numbers, the indices of reflections, beside matrices and columns.
-- International Tables B: a symmetry operation (W, t) takes the index row h to h W, whose phase is that of h less h.t.
use Rattle.std.specs.Prelude.{ℤ, pos, neg_ℤ, Bool, ◌&&◌, List, slice_index_or}
use Rattle.std.specs.Ordering.{int_eq}
use Rattle.lattice_algebra.specs.Matrix.{Matrix, Column, sum_of_products}

pub record Row : Type 0 where
  pub h : ℤ
  pub k : ℤ
  pub l : ℤ

abbrev pub origin_row : Row
origin_row = record { h = pos 0; k = pos 0; l = pos 0 }

-- the row that a list has
abbrev pub row_of : List ℤ → Row
row_of xs = record { h = slice_index_or xs 0 (pos 0); k = slice_index_or xs 1 (pos 0); l = slice_index_or xs 2 (pos 0) }

-- the row times the matrix
infixl 70 ◌·ʳ◌
unfoldable pub ◌·ʳ◌ : Row → Matrix → Row
r ·ʳ m = record {
  h = sum_of_products r.h r.k r.l m.xx m.yx m.zx;
  k = sum_of_products r.h r.k r.l m.xy m.yy m.zy;
  l = sum_of_products r.h r.k r.l m.xz m.yz m.zz;
}

-- the row times the column: a whole number
infixl 70 ◌·ʳᶜ◌
unfoldable pub ◌·ʳᶜ◌ : Row → Column → ℤ
r ·ʳᶜ c = sum_of_products r.h r.k r.l c.x c.y c.z

unfoldable pub neg_row : Row → Row
neg_row r = record { h = neg_ℤ r.h; k = neg_ℤ r.k; l = neg_ℤ r.l }

-- whether two rows are the same
abbrev pub row_eq : Row → Row → Bool
row_eq a b = int_eq a.h b.h && (int_eq a.k b.k && int_eq a.l b.l)
