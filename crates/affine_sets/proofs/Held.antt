-- Whether a point lies in the image of an average, over the point's own denominator.
use Rattle.std.proofs.Common.{◌≡◌, ◌++◌, ◌∷◌, [], ◌↔◌, ◌*◌, ◌≤◌, ◌^◌, ℕ, ℤ, pos, ◌+ℤ◌, ◌*ℤ◌, ◌<ℤ◌, unsigned_abs, Bool, IsTrue, w32, w64, ap, sym, ◌∙◌, subst, arith}
use Rattle.std.proofs.lemmas.Int.{ints}
use Rattle.lattice_algebra.specs.Matrix.{Matrix, Column, entries, coordinates, ◌·ᶜ◌, ◌+ᶜ◌, times}
use Rattle.lattice_algebra.specs.Operator.{AreWithin, HasEntriesWithin}
use Rattle.lattice_algebra.specs.Point.{Point, ◌≈◌}
use Rattle.lattice_algebra.proofs.Ring.{var, ◌⊗◌, ring}
use Rattle.lattice_algebra.proofs.MatrixRing.{matrix_at, column_at, ◌·ˢᶜ◌, ◌+ˢᶜ◌, sym_times, column_ring}
use Rattle.lattice_algebra.proofs.Columns.{cancel_column, times-times}
use Rattle.lattice_algebra.proofs.Numbers.{above}
use Rattle.lattice_algebra.proofs.Machine.{back, kept}
use mir.Syntax.{w128}
use Rattle.exact_ops.specs.Points.{IsPointInRange}
use Rattle.exact_ops.proofs.Bounds.{numerator_bound, numerators_within, passed}
use Rattle.exact_ops.proofs.Images.{unit_part, unit_part_size, IsUnitPart-computed}
use Rattle.affine_sets.specs.declared.TheConstants.{MAX_TRANSLATION}
use Rattle.affine_sets.specs.Averages.{IsSpecialBlock}
use Rattle.affine_sets.specs.Conditions.{numerator_limit}
use Rattle.exact_ops.specs.declared.TheConstants.{UNIT}
use Rattle.exact_ops.proofs.Narrow.{some_parts}
use Rattle.group_closure.specs.declared.TheConstants.{MAX_OPERATORS}
use Rattle.space_groups.specs.Space.{ScaledPoint, point_of}
use Rattle.space_groups.specs.Averages.{Block, IsInImage}

-- the test that the code makes
abbrev pub IsHeld : Block → Column → ℤ → Type 0
IsHeld a n part = a.m ·ᶜ n +ᶜ times part a.t ≡ times a.n n

-- one point over two denominators
scaled_held : (m : Matrix) (t n : Column) (d k : ℤ) → m ·ᶜ times k n +ᶜ times (d *ℤ k) t ≡ times k (m ·ᶜ n +ᶜ times d t)
unfolding ◌·ᶜ◌ ◌+ᶜ◌ times
scaled_held m t n d k =
    let D = var 0 in
    let K = var 1 in
    let M = matrix_at 2 in
    let T = column_at 11 in
    let N = column_at 14 in
    column_ring (d ∷ k ∷ (entries m ++ (coordinates t ++ coordinates n))) (M ·ˢᶜ sym_times K N +ˢᶜ sym_times (D ⊗ K) T) (sym_times K (M ·ˢᶜ N +ˢᶜ sym_times D T)) tt

swap_three : (n k : ℤ) (v : Column) → times n (times k v) ≡ times k (times n v)
unfolding times
swap_three n k v = column_ring (n ∷ k ∷ coordinates v) (sym_times (var 0) (sym_times (var 1) (column_at 2))) (sym_times (var 1) (sym_times (var 0) (column_at 2))) tt

held_scaled : (a : Block) (n : Column) (d k : ℤ) → pos 0 <ℤ k → IsHeld a n d ↔ IsHeld a (times k n) (d *ℤ k)
held_scaled a n d k p = (
  (λ e. scaled_held a.m a.t n d k ∙ ap (times k) e ∙ swap_three k a.n n),
  (λ e. cancel_column k _ _ p (sym (scaled_held a.m a.t n d k) ∙ e ∙ swap_three a.n k n)),
)

times_swap : (d part : ℤ) → d *ℤ part ≡ part *ℤ d
times_swap d part = ring (d ∷ part ∷ []) (var 0 ⊗ var 1) (var 1 ⊗ var 0) tt

-- the point, over UNIT times part
pub held_is : (a : Block) (n : Column) (d part : ℤ) (y : ScaledPoint) → pos 0 <ℤ part → d ≡ pos UNIT *ℤ part → record { n = n; d = d } ≈ point_of UNIT y → IsHeld a n part ↔ IsInImage a y
held_is a n d part y p whole e =
    let s : times (pos y.d) n ≡ times part y.n = cancel_column (pos UNIT) _ _ (above UNIT some_parts) (times-times (pos UNIT) (pos y.d) n ∙ e ∙ ap (λ k. times k y.n) whole ∙ sym (times-times (pos UNIT) part y.n)) in
    let h = held_scaled a n part (pos y.d) (above y.d y.some) in
    let i = held_scaled a y.n (pos y.d) part p in
    let same : IsHeld a (times (pos y.d) n) (part *ℤ pos y.d) ↔ IsHeld a (times part y.n) (pos y.d *ℤ part) = (
      (λ q. subst (IsHeld a (times part y.n)) (times_swap part (pos y.d)) (subst (λ v. IsHeld a v (part *ℤ pos y.d)) s q)),
      (λ q. subst (λ v. IsHeld a v (part *ℤ pos y.d)) (sym s) (subst (IsHeld a (times part y.n)) (times_swap (pos y.d) part) q)),
    ) in
    ((λ q. i.1 (same.0 (h.0 q))), (λ q. h.1 (same.1 (i.0 q))))

-- ---- row by row

pub record AreRows (a : Block) (n : Column) (part : ℤ) : Type 0 where
  pub x : a.m.xx *ℤ n.x +ℤ a.m.xy *ℤ n.y +ℤ a.m.xz *ℤ n.z +ℤ a.t.x *ℤ part ≡ a.n *ℤ n.x
  pub y : a.m.yx *ℤ n.x +ℤ a.m.yy *ℤ n.y +ℤ a.m.yz *ℤ n.z +ℤ a.t.y *ℤ part ≡ a.n *ℤ n.y
  pub z : a.m.zx *ℤ n.x +ℤ a.m.zy *ℤ n.y +ℤ a.m.zz *ℤ n.z +ℤ a.t.z *ℤ part ≡ a.n *ℤ n.z

last_swap : (s t part r : ℤ) → s +ℤ t *ℤ part ≡ r → s +ℤ part *ℤ t ≡ r
last_swap s t part r e = ap (λ v. s +ℤ v) (times_swap part t) ∙ e

pub held_rows : (a : Block) (n : Column) (part : ℤ) → AreRows a n part ↔ IsHeld a n part
unfolding ◌·ᶜ◌ ◌+ᶜ◌ times
held_rows a n part = (
  (λ h i. record { x = last_swap _ a.t.x part _ h.x i; y = last_swap _ a.t.y part _ h.y i; z = last_swap _ a.t.z part _ h.z i }),
  (λ e. record {
    x = last_swap _ part a.t.x _ (ap (λ (c : Column). c.x) e);
    y = last_swap _ part a.t.y _ (ap (λ (c : Column). c.y) e);
    z = last_swap _ part a.t.z _ (ap (λ (c : Column). c.z) e);
  }),
)

-- ---- the numbers as they are passed on

pub row_test : (b : Bool) (m0 m1 m2 t x y z n part : ℤ) (over : ℕ) → AreWithin 384 m0 m1 m2 → unsigned_abs t ≤ MAX_TRANSLATION → AreWithin numerator_limit x y z → unsigned_abs n ≤ numerator_limit → unsigned_abs part ≤ 10 ^ 18
    → IsTrue b ↔ (back w32 m0 *ℤ back w128 x +ℤ back w32 m1 *ℤ back w128 y +ℤ back w32 m2 *ℤ back w128 z +ℤ back w64 t *ℤ back w128 part ≡ pos over *ℤ back w128 n)
    → IsTrue b ↔ (m0 *ℤ x +ℤ m1 *ℤ y +ℤ m2 *ℤ z +ℤ t *ℤ part ≡ pos over *ℤ n)
row_test b m0 m1 m2 t x y z n part over m s p q r h =
    let left : back w32 m0 *ℤ back w128 x +ℤ back w32 m1 *ℤ back w128 y +ℤ back w32 m2 *ℤ back w128 z +ℤ back w64 t *ℤ back w128 part ≡ m0 *ℤ x +ℤ m1 *ℤ y +ℤ m2 *ℤ z +ℤ t *ℤ part =
    λ i. kept w32 384 m0 m.first tt i *ℤ kept w128 numerator_limit x p.first tt i +ℤ kept w32 384 m1 m.second tt i *ℤ kept w128 numerator_limit y p.second tt i +ℤ kept w32 384 m2 m.third tt i *ℤ kept w128 numerator_limit z p.third tt i
    +ℤ kept w64 MAX_TRANSLATION t s tt i *ℤ kept w128 (10 ^ 18) part r tt i in
    let right : pos over *ℤ back w128 n ≡ pos over *ℤ n = ap (λ v. pos over *ℤ v) (kept w128 numerator_limit n q tt) in
    ((λ u. sym left ∙ h.0 u ∙ right), (λ e. h.1 (left ∙ e ∙ sym right)))

-- numerators that were passed on
pub kept_within : (x y z : ℤ) → AreWithin numerator_bound x y z → AreWithin numerator_bound (back w128 x) (back w128 y) (back w128 z)
kept_within x y z h = record { first = passed w128 numerator_bound x h.first tt; second = passed w128 numerator_bound y h.second tt; third = passed w128 numerator_bound z h.third tt }

-- what is known of the point and of the average
pub record AreGood (a : Block) (n : Column) (d part : ℤ) (over : ℕ) : Type 0 where
  pub number : a.n ≡ pos over
  pub rows : HasEntriesWithin 384 a.m
  pub translation : AreWithin MAX_TRANSLATION a.t.x a.t.y a.t.z
  pub point : AreWithin numerator_limit n.x n.y n.z
  pub part_size : unsigned_abs part ≤ 10 ^ 18
  pub whole : d ≡ pos UNIT *ℤ part
  pub positive : pos 0 <ℤ d

positive_part : (d part : ℤ) → d ≡ pos UNIT *ℤ part → pos 0 <ℤ d → pos 0 <ℤ part
positive_part d part e p = omega (arith, ints)

pub good_held : (a : Block) (n : Column) (d part : ℤ) (over : ℕ) → AreGood a n d part over → (y : ScaledPoint) → record { n = n; d = d } ≈ point_of UNIT y → AreRows a n part ↔ IsInImage a y
good_held a n d part over g y e =
    let h = held_is a n d part y (positive_part d part g.whole g.positive) g.whole e in
    let r = held_rows a n part in
    ((λ x. h.0 (r.0 x)), (λ i. r.1 (h.1 i)))

pub entry_below : (n : ℕ) (a : ℤ) → n ≤ MAX_OPERATORS → unsigned_abs a ≤ 2 * n → unsigned_abs a ≤ 384
entry_below n a l h = omega (arith, l, h)

row_below : (n : ℕ) (a b c : ℤ) → n ≤ MAX_OPERATORS → AreWithin (2 * n) a b c → AreWithin 384 a b c
row_below n a b c l h = record { first = entry_below n a l h.first; second = entry_below n b l h.second; third = entry_below n c l h.third }

pub rows_below : (n : ℕ) (m : Matrix) → n ≤ MAX_OPERATORS → HasEntriesWithin (2 * n) m → HasEntriesWithin 384 m
rows_below n m l h = record { x = row_below n _ _ _ l h.x; y = row_below n _ _ _ l h.y; z = row_below n _ _ _ l h.z }

pub good : (a : Block) (p : Point) (u : ℤ) (over : ℕ) (s : IsSpecialBlock a) → a.n ≡ pos over → IsPointInRange p → u ≡ pos UNIT → AreGood a p.n p.d (unit_part p.d u) over
good a p u over s number range e = record {
  number = number;
  rows = rows_below s.over a.m s.within s.matrix;
  translation = s.translation;
  point = numerators_within p range;
  part_size = unit_part_size p u range e;
  whole = (IsUnitPart-computed p u range e).whole;
  positive = range.positive;
}
