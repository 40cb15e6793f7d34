-- Sizes of the numbers from which the key of a conjugate is made.
use Rattle.std.proofs.Common.{◌≡◌, ◌≤◌, ◌<◌, ◌+◌, ◌*◌, ◌/◌, ◌%◌, ℕ, ℤ, pos, ◌+ℤ◌, ◌*ℤ◌, unsigned_abs, w32, w64, Fits, FitsSigned, ap, sym, subst, ◌∙◌, arith, mul-le-mul, le_refl, le_trans, to_z-of_z}
use Rattle.std.proofs.lemmas.Int.{ints, unsigned_abs-mul}
use Rattle.std.proofs.Math.Nat.{mod-lt, div-lt_iff_lt-mul}
use Rattle.lattice_algebra.specs.Matrix.{Matrix, Column, ◌·ᶜ◌, ◌+ᶜ◌, neg_column, times}
use Rattle.lattice_algebra.specs.Operator.{AreWithin, HasEntriesWithin, AreParts, IsPart}
use Rattle.lattice_algebra.proofs.Machine.{back, kept}
use Rattle.lattice_algebra.proofs.Numbers.{abs_add, abs_neg}
use Rattle.exact_ops.specs.declared.TheConstants.{UNIT}
use Rattle.group_closure.specs.declared.TheConstants.{MAX_OPERATORS}
use Rattle.affine_sets.proofs.ImageFixers.{image_within}
use Rattle.space_groups.proofs.RowSizes.{row_size}
use Rattle.affine_sets.specs.declared.keys.Sizes.{Sizes}
use Rattle.affine_sets.specs.Fields.{offset_in}
use Rattle.affine_sets.specs.Conjugates.{AreSizes, shift_number}

pub passed_size : (x : ℤ) → FitsSigned w32 x → unsigned_abs (back w32 x) ≡ unsigned_abs x
passed_size x f = ap unsigned_abs (to_z-of_z f)

pub fits_small : (n : ℕ) → n ≤ MAX_OPERATORS → Fits w32 n
fits_small n l = omega (arith, l)

-- ---- the whole shift with a number

pub record IsNumbered (q : Sizes) (i : ℕ) (x y z : ℤ) : Type 0 where
  pub value : offset_in (record { x = back w64 x; y = back w64 y; z = back w64 z }) ≡ shift_number q i
  pub size : AreWithin MAX_OPERATORS (back w64 x) (back w64 y) (back w64 z)

small_number : (n k : ℕ) (x : ℤ) → x ≡ pos k → k < n → n ≤ MAX_OPERATORS → (back w64 x ≡ pos k) × (unsigned_abs (back w64 x) ≤ MAX_OPERATORS)
small_number n k x e l w =
    let s : unsigned_abs (pos k) ≤ MAX_OPERATORS = omega (arith, l, w) in
    let q : back w64 x ≡ pos k = ap (back w64) e ∙ kept w64 MAX_OPERATORS (pos k) s tt in
    (q, subst (λ v. unsigned_abs v ≤ MAX_OPERATORS) (sym q) s)

pub numbered : (q : Sizes) (i : ℕ) (x y z : ℤ) → AreSizes q → i < q.x * q.y * q.z → x ≡ pos (i / q.z / q.y) → y ≡ pos (i / q.z % q.y) → z ≡ pos (i % q.z) → IsNumbered q i x y z
numbered q i x y z h l e f g =
    let first : i / q.z / q.y < q.x = (div-lt_iff_lt-mul h.some_y).1 ((div-lt_iff_lt-mul h.some_z).1 l) in
    let a = small_number q.x (i / q.z / q.y) x e first h.x in
    let b = small_number q.y (i / q.z % q.y) y f (mod-lt (i / q.z) h.some_y) h.y in
    let c = small_number q.z (i % q.z) z g (mod-lt i h.some_z) h.z in
    record { value = λ t. record { x = a.0 t; y = b.0 t; z = c.0 t }; size = record { first = a.1; second = b.1; third = c.1 } }

-- ---- products, sums and differences of columns

row_of : (a b : ℕ) (m0 m1 m2 x y z : ℤ) → AreWithin a m0 m1 m2 → AreWithin b x y z → unsigned_abs (m0 *ℤ x +ℤ m1 *ℤ y +ℤ m2 *ℤ z) ≤ 3 * (a * b)
row_of a b m0 m1 m2 x y z m t =
    let p = mul-le-mul m.first (le_refl b) in
    let q = mul-le-mul m.second (le_refl b) in
    let r = mul-le-mul m.third (le_refl b) in
    omega (arith, row_size m0 m1 m2 x y z b b b t.first t.second t.third, p, q, r)

pub product_within : (a b : ℕ) (m : Matrix) (t : Column) → HasEntriesWithin a m → AreWithin b t.x t.y t.z → (let c = m ·ᶜ t in AreWithin (3 * (a * b)) c.x c.y c.z)
unfolding ◌·ᶜ◌
product_within a b m t h s = record { first = row_of a b m.xx m.xy m.xz t.x t.y t.z h.x s; second = row_of a b m.yx m.yy m.yz t.x t.y t.z h.y s; third = row_of a b m.zx m.zy m.zz t.x t.y t.z h.z s }

pub sum_of_within : (a b : ℕ) (c d : Column) → AreWithin a c.x c.y c.z → AreWithin b d.x d.y d.z → (let r = c +ᶜ d in AreWithin (a + b) r.x r.y r.z)
unfolding ◌+ᶜ◌
sum_of_within a b c d p q = record { first = omega (arith, abs_add c.x d.x, p.first, q.first); second = omega (arith, abs_add c.y d.y, p.second, q.second); third = omega (arith, abs_add c.z d.z, p.third, q.third) }

pub opposite_within : (a : ℕ) (c : Column) → AreWithin a c.x c.y c.z → (let r = neg_column c in AreWithin a r.x r.y r.z)
unfolding neg_column
opposite_within a c p = record { first = omega (arith, abs_neg c.x, p.first); second = omega (arith, abs_neg c.y, p.second); third = omega (arith, abs_neg c.z, p.third) }

number_times : (k a : ℕ) (x : ℤ) → unsigned_abs x ≤ a → unsigned_abs (pos k *ℤ x) ≤ k * a
number_times k a x p = let e : unsigned_abs (pos k *ℤ x) ≡ k * unsigned_abs x = unsigned_abs-mul (pos k) x in let l = mul-le-mul (le_refl k) p in omega (arith, e, l)

pub times_within : (k a : ℕ) (c : Column) → AreWithin a c.x c.y c.z → (let r = times (pos k) c in AreWithin (k * a) r.x r.y r.z)
unfolding times
times_within k a c p = record { first = number_times k a c.x p.first; second = number_times k a c.y p.second; third = number_times k a c.z p.third }

pub parts_within : (n : ℕ) (c : Column) → AreParts n c → AreWithin n c.x c.y c.z
parts_within n c p = record { first = at c.x p.x; second = at c.y p.y; third = at c.z p.z }
  where
    at : (a : ℤ) → IsPart n a → unsigned_abs a ≤ n
    at a p = omega (arith, ints)

-- a column that equals another is as large
pub equal_within : (n k : ℕ) (c d : Column) → c ≡ d → n ≤ k → AreWithin n d.x d.y d.z → AreWithin k c.x c.y c.z
equal_within n k c d e l p = subst (λ (v : Column). AreWithin k v.x v.y v.z) (sym e) (record { first = le_trans p.first l; second = le_trans p.second l; third = le_trans p.third l })

pub row_wider : (a b : ℕ) (x y z : ℤ) → a ≤ b → AreWithin a x y z → AreWithin b x y z
row_wider a b x y z l p = record { first = le_trans p.first l; second = le_trans p.second l; third = le_trans p.third l }

pub rows_wider : (a b : ℕ) (m : Matrix) → a ≤ b → HasEntriesWithin a m → HasEntriesWithin b m
rows_wider a b m l h = record { x = row_wider a b _ _ _ l h.x; y = row_wider a b _ _ _ l h.y; z = row_wider a b _ _ _ l h.z }

-- ---- the conjugate by an operator

pub passed_number : (x : ℤ) (n : ℕ) → x ≡ pos n → n ≤ MAX_OPERATORS → unsigned_abs (back w64 x) ≤ 2304
passed_number x n e l = subst (λ v. unsigned_abs v ≤ 2304) (sym (ap (back w64) e ∙ kept w64 MAX_OPERATORS (pos n) l tt)) (omega (arith, l))

-- W t
pub there_within : (f w : Matrix) (t u there : Column) (n k : ℕ) → HasEntriesWithin 2 f → w ≡ f → n ≤ MAX_OPERATORS → AreParts (UNIT * n) t → u ≡ t → there ≡ w ·ᶜ u → 6 * (UNIT * MAX_OPERATORS) ≤ k → AreWithin k there.x there.y there.z
there_within f w t u there n k narrow e l p q r s =
    let b = UNIT * MAX_OPERATORS in
    let size = equal_within (UNIT * n) b u t q (omega (arith, l)) (parts_within (UNIT * n) t p) in
    equal_within (6 * b) k there (f ·ᶜ u) (r ∙ ap (λ m. m ·ᶜ u) e) s (image_within b f u narrow size)

-- n times the translation of the operator
pub all_within : (t by all : Column) (x : ℤ) (n k : ℕ) → x ≡ pos n → n ≤ MAX_OPERATORS → AreParts UNIT t → by ≡ t → all ≡ times (back w64 x) by → MAX_OPERATORS * UNIT ≤ k → AreWithin k all.x all.y all.z
all_within t by all x n k e l p q r s =
    let number : back w64 x ≡ pos n = ap (back w64) e ∙ kept w64 MAX_OPERATORS (pos n) l tt in
    let size = equal_within UNIT UNIT by t q (le_refl UNIT) (parts_within UNIT t p) in
    let less : n * UNIT ≤ k = le_trans (mul-le-mul l (le_refl UNIT)) s in
    equal_within (n * UNIT) k all (times (pos n) by) (r ∙ ap (λ v. times v by) number) less (times_within n UNIT by size)

-- W M W^-1 times that translation
pub back_within : (m : Matrix) (t by image : Column) (k : ℕ) → HasEntriesWithin 384 m → AreParts UNIT t → by ≡ t → image ≡ m ·ᶜ by → 3 * (384 * UNIT) ≤ k → AreWithin k image.x image.y image.z
back_within m t by image k h p q r s = equal_within (3 * (384 * UNIT)) k image (m ·ᶜ by) r s (product_within 384 UNIT m by h (equal_within UNIT UNIT by t q (le_refl UNIT) (parts_within UNIT t p)))
