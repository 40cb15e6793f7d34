-- The row h P, as it is computed.
use Rattle.std.proofs.Common.{◌≡◌, ◌≤◌, ◌^◌, ℤ, unsigned_abs, w32, w64, FitsSigned, ap, sym, ◌∙◌, subst, le_trans, arith, lt_of_le_of_lt}
use Rattle.std.proofs.lemmas.Int.{fits_signed_from_abs}
use lib.Dec.{ltb→lt}
use Rattle.lattice_algebra.specs.Matrix.{Matrix, sum_of_products}
use Rattle.lattice_algebra.specs.Operator.{AreWithin, HasEntriesWithin}
use Rattle.lattice_algebra.proofs.Machine.{back, kept, read, widened}
use Rattle.exact_ops.proofs.Bounds.{three_passed}
use Rattle.phase_rules.specs.declared.TheConstants.{MAX_INDEX}
use Rattle.phase_rules.specs.Rows.{Row, ◌·ʳ◌}
use Rattle.basis_change.specs.Wide.{WIDE}

-- a number of an index, as it is passed on
pub number_wide : (a h : ℤ) → a ≡ back w32 h → unsigned_abs h ≤ MAX_INDEX → unsigned_abs a ≤ WIDE
number_wide a h e l = subst (λ v. unsigned_abs v ≤ WIDE) (sym (widened MAX_INDEX h e l tt)) (le_trans l (omega arith))

pub numbers_wide : (a b c h k l : ℤ) → a ≡ back w32 h → b ≡ back w32 k → c ≡ back w32 l → AreWithin MAX_INDEX h k l → AreWithin WIDE (back w64 a) (back w64 b) (back w64 c)
numbers_wide a b c h k l p q r w = three_passed w64 WIDE a b c (record { first = number_wide a h p w.first; second = number_wide b k q w.second; third = number_wide c l r w.third }) tt

dot_is : (a b c h k l x y z r : ℤ) → a ≡ back w32 h → b ≡ back w32 k → c ≡ back w32 l → AreWithin MAX_INDEX h k l → AreWithin WIDE x y z → FitsSigned w64 r
    → r ≡ sum_of_products (back w64 a) (back w64 b) (back w64 c) (back w64 x) (back w64 y) (back w64 z) → back w64 r ≡ sum_of_products h k l x y z
dot_is a b c h k l x y z r p q s w v f e =
    read w64 r _ f (e ∙ λ i. sum_of_products
    ((kept w64 WIDE a (number_wide a h p w.first) tt ∙ widened MAX_INDEX h p w.first tt) i)
    ((kept w64 WIDE b (number_wide b k q w.second) tt ∙ widened MAX_INDEX k q w.second tt) i)
    ((kept w64 WIDE c (number_wide c l s w.third) tt ∙ widened MAX_INDEX l s w.third tt) i)
    (kept w64 WIDE x v.first tt i) (kept w64 WIDE y v.second tt i) (kept w64 WIDE z v.third tt i))

abbrev pub IsDot : ℤ → ℤ → ℤ → ℤ → ℤ → ℤ → ℤ → Type 0
IsDot a b c x y z r = r ≡ sum_of_products (back w64 a) (back w64 b) (back w64 c) (back w64 x) (back w64 y) (back w64 z)

pub x_column_wide : (m : Matrix) → HasEntriesWithin WIDE m → AreWithin WIDE m.xx m.yx m.zx
x_column_wide m h = record { first = h.x.first; second = h.y.first; third = h.z.first }

pub y_column_wide : (m : Matrix) → HasEntriesWithin WIDE m → AreWithin WIDE m.xy m.yy m.zy
y_column_wide m h = record { first = h.x.second; second = h.y.second; third = h.z.second }

pub z_column_wide : (m : Matrix) → HasEntriesWithin WIDE m → AreWithin WIDE m.xz m.yz m.zz
z_column_wide m h = record { first = h.x.third; second = h.y.third; third = h.z.third }

pub row_is : (a b c h k l : ℤ) (m : Matrix) (x y z : ℤ) (g : Row) → a ≡ back w32 h → b ≡ back w32 k → c ≡ back w32 l → AreWithin MAX_INDEX h k l → HasEntriesWithin WIDE m → (FitsSigned w64 x) × (FitsSigned w64 y) × (FitsSigned w64 z)
    → IsDot a b c m.xx m.yx m.zx x → IsDot a b c m.xy m.yy m.zy y → IsDot a b c m.xz m.yz m.zz z → record { h = h; k = k; l = l } ≡ g → record { h = back w64 x; k = back w64 y; l = back w64 z } ≡ g ·ʳ m
unfolding ◌·ʳ◌
row_is a b c h k l m x y z g p q s w v f d e t view =
    (λ i. record {
      h = dot_is a b c h k l m.xx m.yx m.zx x p q s w (x_column_wide m v) f.0 d i;
      k = dot_is a b c h k l m.xy m.yy m.zy y p q s w (y_column_wide m v) f.1 e i;
      l = dot_is a b c h k l m.xz m.yz m.zz z p q s w (z_column_wide m v) f.2 t i;
    })
    ∙ ap (λ r. r ·ʳ m) view

pub index_fits : (n b : ℤ) → b ≡ n → unsigned_abs n ≤ MAX_INDEX → FitsSigned w32 b
index_fits n b e h = subst (FitsSigned w32) (sym e) (fits_signed_from_abs w32 n (lt_of_le_of_lt h (ltb→lt MAX_INDEX (2 ^ 31) tt)))

pub index_kept : (n b : ℤ) → b ≡ n → unsigned_abs n ≤ MAX_INDEX → back w32 b ≡ n
index_kept n b e h = ap (back w32) e ∙ kept w32 MAX_INDEX n h tt
