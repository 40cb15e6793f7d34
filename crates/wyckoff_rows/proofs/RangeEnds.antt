-- The ranges of whole shifts, as they are computed.
use Rattle.std.proofs.Common.{◌≡◌, ◌<◌, ◌≤◌, ◌*◌, ◌^◌, ◌↔◌, ℕ, ℤ, pos, ◌+ℤ◌, ◌-ℤ◌, ◌*ℤ◌, ◌≤ℤ◌, ◌<ℤ◌, neg_ℤ, unsigned_abs, w32, w64, ap, sym, ◌∙◌, subst, subst₂, arith}
use Rattle.std.specs.Int.{int_div_euclid}
use Rattle.std.proofs.lemmas.Int.{ints}
use Rattle.lattice_algebra.specs.Matrix.{Matrix, Column}
use Rattle.lattice_algebra.specs.Operator.{AreWithin}
use Rattle.lattice_algebra.proofs.Machine.{back, kept}
use Rattle.exact_ops.specs.declared.TheConstants.{UNIT}
use Rattle.group_closure.specs.declared.TheConstants.{MAX_OPERATORS}
use Rattle.space_groups.specs.Intervals.{sum_below, sum_above, open_end, IsBetweenEnds, AreBetweenEnds}
use Rattle.wyckoff_rows.specs.Steps.{IsIn, AreIn}
use Rattle.wyckoff_rows.specs.declared.ranges.Range.{Range}
use Rattle.wyckoff_rows.specs.declared.ranges.Ranges.{Ranges}
use Rattle.wyckoff_rows.proofs.Quotients.{quotient_range}
use Rattle.wyckoff_rows.proofs.RangeSizes.{quotient_size}

-- ---- one range, by quotients

opposite_is : (x : ℤ) → pos 0 -ℤ x ≡ neg_ℤ x
opposite_is x = omega (arith, ints)

opposite_size : (x : ℤ) (n : ℕ) → unsigned_abs x ≤ n → unsigned_abs (neg_ℤ x) ≤ n
opposite_size x n h = omega (arith, ints, h)

opposite_kept : (x : ℤ) → unsigned_abs x ≤ 10 ^ 13 → back w64 (pos 0 -ℤ back w64 x) ≡ neg_ℤ x
opposite_kept x h = ap (λ v. back w64 (pos 0 -ℤ v)) (kept w64 (10 ^ 13) x h tt) ∙ ap (back w64) (opposite_is x) ∙ kept w64 (10 ^ 13) (neg_ℤ x) (opposite_size x (10 ^ 13) h) tt

next_size : (x : ℤ) → unsigned_abs x ≤ 10 ^ 13 → unsigned_abs (x +ℤ pos 1) ≤ 10 ^ 14
next_size x h = omega (arith, ints, h)

next_kept : (x : ℤ) → unsigned_abs x ≤ 10 ^ 13 → back w64 (back w64 x +ℤ pos 1) ≡ x +ℤ pos 1
next_kept x h = ap (λ v. back w64 (v +ℤ pos 1)) (kept w64 (10 ^ 13) x h tt) ∙ kept w64 (10 ^ 14) (x +ℤ pos 1) (next_size x h) tt

pub quotients_between : (low high p q : ℤ) (n : ℕ) → 0 < n → unsigned_abs low ≤ 10 ^ 12 → unsigned_abs high ≤ 10 ^ 12 → p ≡ int_div_euclid (back w64 (pos 0 -ℤ back w64 low)) (pos n) → q ≡ int_div_euclid (back w64 high) (pos n)
    → (k : ℤ) → ((back w64 (pos 0 -ℤ back w64 p) ≤ℤ k) × (k <ℤ back w64 (back w64 q +ℤ pos 1))) ↔ ((low ≤ℤ (pos n *ℤ k)) × ((pos n *ℤ k) ≤ℤ high))
quotients_between low high p q n some l h e f k =
    let p_is : p ≡ int_div_euclid (neg_ℤ low) (pos n) = e ∙ ap (λ v. int_div_euclid v (pos n)) (opposite_kept low (omega (arith, l))) in
    let q_is : q ≡ int_div_euclid high (pos n) = f ∙ ap (λ v. int_div_euclid v (pos n)) (kept w64 (10 ^ 12) high h tt) in
    let p_size : unsigned_abs p ≤ 10 ^ 13 = subst (λ v. unsigned_abs v ≤ 10 ^ 13) (sym p_is) (omega (arith, quotient_size n (neg_ℤ low) some, opposite_size low (10 ^ 12) l)) in
    let q_size : unsigned_abs q ≤ 10 ^ 13 = subst (λ v. unsigned_abs v ≤ 10 ^ 13) (sym q_is) (omega (arith, quotient_size n high some, h)) in
    let from : back w64 (pos 0 -ℤ back w64 p) ≡ neg_ℤ (int_div_euclid (neg_ℤ low) (pos n)) = opposite_kept p p_size ∙ ap neg_ℤ p_is in
    let end : back w64 (back w64 q +ℤ pos 1) ≡ int_div_euclid high (pos n) +ℤ pos 1 = next_kept q q_size ∙ ap (λ v. v +ℤ pos 1) q_is in
    subst₂ (λ a b. ((a ≤ℤ k) × (k <ℤ b)) ↔ ((low ≤ℤ (pos n *ℤ k)) × ((pos n *ℤ k) ≤ℤ high))) (sym from) (sym end) (quotient_range n some low high k)

-- ---- its ends

cell_size : (n : ℕ) → n ≤ MAX_OPERATORS → unsigned_abs (pos (UNIT * n)) ≤ UNIT * MAX_OPERATORS
cell_size n l = omega (arith, ints, l)

pub end_kept : (x base cell sum total : ℤ) (n : ℕ) → unsigned_abs base ≤ 10 ^ 8 → cell ≡ pos (UNIT * n) → n ≤ MAX_OPERATORS → unsigned_abs sum ≤ 42 * MAX_OPERATORS → unsigned_abs x ≤ 10 ^ 12
    → x ≡ open_end (back w64 cell) (back w64 base) (back w64 sum) → sum ≡ total → back w64 x ≡ open_end (pos (UNIT * n)) base total
end_kept x base cell sum total n hb ec l hs hx e et =
    let b = kept w64 (10 ^ 8) base hb tt in
    let c = ap (back w64) ec ∙ kept w64 (UNIT * MAX_OPERATORS) (pos (UNIT * n)) (cell_size n l) tt in
    let s = kept w64 (42 * MAX_OPERATORS) sum hs tt ∙ et in
    kept w64 (10 ^ 12) x hx tt ∙ e ∙ (λ i. open_end (c i) (b i) (s i))

-- three numbers, as they are passed on
pub below_kept : (a b c : ℤ) → AreWithin (14 * MAX_OPERATORS) a b c → sum_below (back w32 a) (back w32 b) (back w32 c) ≡ sum_below a b c
below_kept a b c w = λ i. sum_below (kept w32 (14 * MAX_OPERATORS) a w.first tt i) (kept w32 (14 * MAX_OPERATORS) b w.second tt i) (kept w32 (14 * MAX_OPERATORS) c w.third tt i)

pub above_kept : (a b c : ℤ) → AreWithin (14 * MAX_OPERATORS) a b c → sum_above (back w32 a) (back w32 b) (back w32 c) ≡ sum_above a b c
above_kept a b c w = λ i. sum_above (kept w32 (14 * MAX_OPERATORS) a w.first tt i) (kept w32 (14 * MAX_OPERATORS) b w.second tt i) (kept w32 (14 * MAX_OPERATORS) c w.third tt i)

pub between_ends : (r : Range) (base a b c u low high : ℤ) → low ≡ open_end u base (sum_below a b c) → high ≡ open_end u base (sum_above a b c) → ((k : ℤ) → IsIn r k ↔ ((low ≤ℤ (u *ℤ k)) × ((u *ℤ k) ≤ℤ high)))
    → (k : ℤ) → IsIn r k ↔ IsBetweenEnds u base a b c k
between_ends r base a b c u low high e f h k = subst₂ (λ l g. IsIn r k ↔ ((l ≤ℤ (u *ℤ k)) × ((u *ℤ k) ≤ℤ g))) e f (h k)

pub ends_passed : (r : Range) (u base a b c : ℤ) → unsigned_abs base ≤ 10 ^ 8 → AreWithin (14 * MAX_OPERATORS) a b c → ((k : ℤ) → IsIn r k ↔ IsBetweenEnds u (back w64 base) (back w32 a) (back w32 b) (back w32 c) k)
    → (k : ℤ) → IsIn r k ↔ IsBetweenEnds u base a b c k
ends_passed r u base a b c hb w h k =
    let x = kept w64 (10 ^ 8) base hb tt in
    let p = kept w32 (14 * MAX_OPERATORS) a w.first tt in
    let q = kept w32 (14 * MAX_OPERATORS) b w.second tt in
    let s = kept w32 (14 * MAX_OPERATORS) c w.third tt in
    subst (λ (T : Type 0). IsIn r k ↔ T) (λ i. IsBetweenEnds u (x i) (p i) (q i) (s i) k) (h k)

-- ---- three ranges

pub between_columns : (r : Ranges) (base : Column) (d : Matrix) (u : ℤ) → ((k : ℤ) → IsIn r.xs k ↔ IsBetweenEnds u base.x d.xx d.xy d.xz k) → ((k : ℤ) → IsIn r.ys k ↔ IsBetweenEnds u base.y d.yx d.yy d.yz k) → ((k : ℤ) → IsIn r.zs k ↔ IsBetweenEnds u base.z d.zx d.zy d.zz k)
    → (k : Column) → AreIn r k ↔ AreBetweenEnds u base d k
between_columns r base d u x y z k = ((λ i. ((x k.x).0 i.0, (y k.y).0 i.1, (z k.z).0 i.2)), (λ b. ((x k.x).1 b.0, (y k.y).1 b.1, (z k.z).1 b.2)))
