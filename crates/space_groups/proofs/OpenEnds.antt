-- The whole shift of an element that fixes a point of the first cell of an image reaches no end of its intervals but the base.
use Rattle.std.proofs.Common.{◌≡◌, ◌≢◌, ◌∷◌, [], ℕ, zero, suc, ◌<◌, ℤ, pos, negsuc, ◌+ℤ◌, ◌-ℤ◌, ◌*ℤ◌, ◌≤ℤ◌, ◌<ℤ◌, ap, sym, subst, arith, ⊎_elim}
use Rattle.std.specs.Int.{int_min, int_max, int_signum}
use Rattle.std.proofs.lemmas.Int.{ints, int_min_is, int_max_is}
use Rattle.lattice_algebra.specs.Matrix.{Matrix, Column, ◌·ᶜ◌, ◌+ᶜ◌, times}
use Rattle.lattice_algebra.specs.Operator.{Operator, IsPart}
use Rattle.lattice_algebra.proofs.Ring.{known, var, con, neg, ◌⊕◌, ◌⊖◌, ◌⊗◌, ring, ring_from}
use Rattle.lattice_algebra.proofs.Maps.{shifted}
use Rattle.lattice_algebra.proofs.Numbers.{cancel_number, zero_or_other, least_product, greatest_product}
use Rattle.lattice_algebra.proofs.Points.{positive_times}
use Rattle.space_groups.specs.Space.{ScaledPoint, moved}
use Rattle.space_groups.specs.Averages.{Block}
use Rattle.space_groups.specs.Regions.{IsInFirstCell}
use Rattle.space_groups.specs.Intervals.{differences, base_shift, sum_below, sum_above, sums_below, sums_above, lowest, highest, IsBetween, IsBetweenEnds, AreBetweenEnds}
use Rattle.space_groups.proofs.Intervals.{shift_equation, shift_is_between}

-- ---- signs

signum_below : (x : ℤ) → x ≤ℤ pos 0 → (int_signum x ≤ℤ pos 0) × (negsuc 0 ≤ℤ int_signum x)
signum_below (pos zero) h = (omega (arith, ints), omega (arith, ints))
signum_below (pos (suc n)) h = absurd (omega (arith, ints))
signum_below (negsuc n) h = (omega (arith, ints), omega (arith, ints))

signum_above : (x : ℤ) → pos 0 ≤ℤ x → (pos 0 ≤ℤ int_signum x) × (int_signum x ≤ℤ pos 1)
signum_above (pos zero) h = (omega (arith, ints), omega (arith, ints))
signum_above (pos (suc n)) h = (omega (arith, ints), omega (arith, ints))
signum_above (negsuc n) h = absurd (omega (arith, ints))

below_nothing : (a b c : ℤ) → sum_below a b c ≤ℤ pos 0
below_nothing a b c = omega (arith, ints, int_min_is a (pos 0), int_min_is b (pos 0), int_min_is c (pos 0))

above_nothing : (a b c : ℤ) → pos 0 ≤ℤ sum_above a b c
above_nothing a b c = omega (arith, ints, int_max_is a (pos 0), int_max_is b (pos 0), int_max_is c (pos 0))

-- ---- from an end that is not reached to the number before it, and back

after_low : (s e x : ℤ) → s ≤ℤ pos 0 → e ≤ℤ x → (s ≢ pos 0 → e ≢ x) → (e -ℤ int_signum s) ≤ℤ x
after_low s e x h l missed = ⊎_elim
    (λ z. subst (λ v. (e -ℤ int_signum v) ≤ℤ x) (sym z) (omega (arith, ints)))
    (λ some. let other = missed some in let sign = signum_below s h in omega (arith, ints, other, sign.1))
    (zero_or_other s)

before_high : (s e x : ℤ) → pos 0 ≤ℤ s → x ≤ℤ e → (s ≢ pos 0 → e ≢ x) → x ≤ℤ (e -ℤ int_signum s)
before_high s e x h l missed = ⊎_elim
    (λ z. subst (λ v. x ≤ℤ (e -ℤ int_signum v)) (sym z) (omega (arith, ints)))
    (λ some. let other = missed some in let sign = signum_above s h in omega (arith, ints, other, sign.1))
    (zero_or_other s)

low_reached : (e i x : ℤ) → i ≤ℤ pos 0 → (e -ℤ i) ≤ℤ x → e ≤ℤ x
low_reached e i x h l = omega (arith, ints)

high_reached : (e i x : ℤ) → pos 0 ≤ℤ i → x ≤ℤ (e -ℤ i) → x ≤ℤ e
high_reached e i x h l = omega (arith, ints)

coordinate_between : (g b c0 c1 c2 s : ℤ) → IsBetweenEnds g b c0 c1 c2 s → ((b +ℤ g *ℤ sum_below c0 c1 c2) ≤ℤ (g *ℤ s)) × ((g *ℤ s) ≤ℤ (b +ℤ g *ℤ sum_above c0 c1 c2))
coordinate_between g b c0 c1 c2 s h = (
  low_reached (b +ℤ g *ℤ sum_below c0 c1 c2) (int_signum (sum_below c0 c1 c2)) (g *ℤ s) (signum_below (sum_below c0 c1 c2) (below_nothing c0 c1 c2)).0 h.0,
  high_reached (b +ℤ g *ℤ sum_above c0 c1 c2) (int_signum (sum_above c0 c1 c2)) (g *ℤ s) (signum_above (sum_above c0 c1 c2) (above_nothing c0 c1 c2)).0 h.1,
)

pub ends_between : (unit : ℕ) (a : Block) (r : Matrix) (f : Operator) (s : Column) → AreBetweenEnds (pos unit *ℤ a.n) (base_shift a f) (differences f.w r) s
    → IsBetween (pos unit *ℤ a.n) (lowest unit a r f) (highest unit a r f) s
unfolding sums_below sums_above lowest highest ◌+ᶜ◌ times
ends_between unit a r f s h =
    let g = pos unit *ℤ a.n in
    let b = base_shift a f in
    let m = differences f.w r in
    record { x = coordinate_between g b.x m.xx m.xy m.xz s.x h.0; y = coordinate_between g b.y m.yx m.yy m.yz s.y h.1; z = coordinate_between g b.z m.zx m.zy m.zz s.z h.2 }

-- ---- one coordinate: g o s = o b + g (c0 z0 + c1 z1 + c2 z2), for z from 0 to below o

-- a sum that the end b + g l belongs to is l o
sum_at_end : (g o b l c s : ℤ) → pos 0 <ℤ g → g *ℤ o *ℤ s ≡ o *ℤ b +ℤ g *ℤ c → b +ℤ g *ℤ l ≡ g *ℤ s → c ≡ l *ℤ o
sum_at_end g o b l c s some e reached =
    let G = var 0 in
    let O = var 1 in
    let B = var 2 in
    let L = var 3 in
    let C = var 4 in
    let S = var 5 in
    cancel_number g c (l *ℤ o) some (ring_from (g ∷ o ∷ b ∷ l ∷ c ∷ s ∷ []) (G ⊗ C) (G ⊗ (L ⊗ O))
    (known (con (negsuc 0)) (G ⊗ O ⊗ S) (O ⊗ B ⊕ G ⊗ C) ∷ known (neg O) (B ⊕ G ⊗ L) (G ⊗ S) ∷ []) (e, (reached, tt)) tt)

-- but with each z up to o - 1 it is at least l (o - 1) and at most h (o - 1), for the sums l and h of what is below 0, and above
times_last : (a b c o : ℤ) → (a +ℤ b +ℤ c) *ℤ o -ℤ (a +ℤ b +ℤ c) ≡ a *ℤ (o -ℤ pos 1) +ℤ b *ℤ (o -ℤ pos 1) +ℤ c *ℤ (o -ℤ pos 1)
times_last a b c o =
    let T = var 0 ⊕ var 1 ⊕ var 2 in
    let L = var 3 ⊖ con (pos 1) in
    ring (a ∷ b ∷ c ∷ o ∷ []) (T ⊗ var 3 ⊖ T) (var 0 ⊗ L ⊕ var 1 ⊗ L ⊕ var 2 ⊗ L) tt

least_sum : (c0 c1 c2 z0 z1 z2 : ℤ) (o : ℕ) → IsPart o z0 → IsPart o z1 → IsPart o z2 → (sum_below c0 c1 c2 *ℤ pos o -ℤ sum_below c0 c1 c2) ≤ℤ (c0 *ℤ z0 +ℤ c1 *ℤ z1 +ℤ c2 *ℤ z2)
least_sum c0 c1 c2 z0 z1 z2 o p0 p1 p2 = three _ _ _ _ _ _ _ (times_last (int_min c0 (pos 0)) (int_min c1 (pos 0)) (int_min c2 (pos 0)) (pos o)) (at c0 z0 p0) (at c1 z1 p1) (at c2 z2 p2)
  where
    at : (c z : ℤ) → IsPart o z → (int_min c (pos 0) *ℤ (pos o -ℤ pos 1)) ≤ℤ (c *ℤ z)
    at c z p = least_product (int_min c (pos 0)) c z (pos o -ℤ pos 1) (omega (arith, ints, int_min_is c (pos 0))) (omega (arith, ints, int_min_is c (pos 0))) p.0 (omega (arith, ints, p.1))

    three : (l a b c x y z : ℤ) → l ≡ a +ℤ b +ℤ c → a ≤ℤ x → b ≤ℤ y → c ≤ℤ z → l ≤ℤ (x +ℤ y +ℤ z)
    three l a b c x y z e p q r = omega (arith, ints, e)

greatest_sum : (c0 c1 c2 z0 z1 z2 : ℤ) (o : ℕ) → IsPart o z0 → IsPart o z1 → IsPart o z2 → (c0 *ℤ z0 +ℤ c1 *ℤ z1 +ℤ c2 *ℤ z2) ≤ℤ (sum_above c0 c1 c2 *ℤ pos o -ℤ sum_above c0 c1 c2)
greatest_sum c0 c1 c2 z0 z1 z2 o p0 p1 p2 = three _ _ _ _ _ _ _ (times_last (int_max c0 (pos 0)) (int_max c1 (pos 0)) (int_max c2 (pos 0)) (pos o)) (at c0 z0 p0) (at c1 z1 p1) (at c2 z2 p2)
  where
    at : (c z : ℤ) → IsPart o z → (c *ℤ z) ≤ℤ (int_max c (pos 0) *ℤ (pos o -ℤ pos 1))
    at c z p = greatest_product (int_max c (pos 0)) c z (pos o -ℤ pos 1) (omega (arith, ints, int_max_is c (pos 0))) (omega (arith, ints, int_max_is c (pos 0))) p.0 (omega (arith, ints, p.1))

    three : (h a b c x y z : ℤ) → h ≡ a +ℤ b +ℤ c → x ≤ℤ a → y ≤ℤ b → z ≤ℤ c → (x +ℤ y +ℤ z) ≤ℤ h
    three h a b c x y z e p q r = omega (arith, ints, e)

-- so an end that is not the base is not reached
low_apart : (l c t : ℤ) → l ≤ℤ pos 0 → (t -ℤ l) ≤ℤ c → c ≡ t → l ≡ pos 0
low_apart l c t h least e = omega (arith, ints, e)

high_apart : (h c t : ℤ) → pos 0 ≤ℤ h → c ≤ℤ (t -ℤ h) → c ≡ t → h ≡ pos 0
high_apart h c t l greatest e = omega (arith, ints, e)

coordinate_open : (g b c0 c1 c2 z0 z1 z2 s : ℤ) (o : ℕ) → pos 0 <ℤ g → g *ℤ pos o *ℤ s ≡ pos o *ℤ b +ℤ g *ℤ (c0 *ℤ z0 +ℤ c1 *ℤ z1 +ℤ c2 *ℤ z2) → IsPart o z0 → IsPart o z1 → IsPart o z2
    → ((b +ℤ g *ℤ sum_below c0 c1 c2) ≤ℤ (g *ℤ s)) × ((g *ℤ s) ≤ℤ (b +ℤ g *ℤ sum_above c0 c1 c2)) → IsBetweenEnds g b c0 c1 c2 s
coordinate_open g b c0 c1 c2 z0 z1 z2 s o some e p0 p1 p2 closed =
    let l = sum_below c0 c1 c2 in
    let h = sum_above c0 c1 c2 in
    let c = c0 *ℤ z0 +ℤ c1 *ℤ z1 +ℤ c2 *ℤ z2 in
    let low = below_nothing c0 c1 c2 in
    let high = above_nothing c0 c1 c2 in
    let at = λ (x : ℤ) (reached : b +ℤ g *ℤ x ≡ g *ℤ s). sum_at_end g (pos o) b x c s some e reached in (
      after_low l (b +ℤ g *ℤ l) (g *ℤ s) low closed.0 (λ other reached. other (low_apart l c (l *ℤ pos o) low (least_sum c0 c1 c2 z0 z1 z2 o p0 p1 p2) (at l reached))),
      before_high h (b +ℤ g *ℤ h) (g *ℤ s) high closed.1 (λ other reached. other (high_apart h c (h *ℤ pos o) high (greatest_sum c0 c1 c2 z0 z1 z2 o p0 p1 p2) (at h reached))),
    )

-- ---- the shift of an element that fixes t + r z

pub shift_between_ends : (unit : ℕ) (a : Block) (r : Matrix) (f : Operator) (s : Column) (y : ScaledPoint) → 0 < unit → pos 0 <ℤ a.n → IsInFirstCell unit a r y → moved (shifted unit f s) y ≡ y
    → AreBetweenEnds (pos unit *ℤ a.n) (base_shift a f) (differences f.w r) s
unfolding moved base_shift sums_below sums_above lowest highest ◌·ᶜ◌ ◌+ᶜ◌ times
shift_between_ends unit a r f s y hu hn cell fix =
    let closed = shift_is_between unit a r f s y hu hn cell fix in
    let o = pos cell.over in
    let g = pos unit *ℤ a.n in
    let m = differences f.w r in
    let z = cell.at in
    let b = base_shift a f in
    let e : times (g *ℤ o) s ≡ times o b +ᶜ times g (m ·ᶜ z) = shift_equation unit a r f s y cell fix in
    let some : pos 0 <ℤ g = positive_times unit a.n hu hn in
    let p = cell.parts in (
      coordinate_open g b.x m.xx m.xy m.xz z.x z.y z.z s.x cell.over some (ap (λ (c : Column). c.x) e) p.x p.y p.z closed.x,
      coordinate_open g b.y m.yx m.yy m.yz z.x z.y z.z s.y cell.over some (ap (λ (c : Column). c.y) e) p.x p.y p.z closed.y,
      coordinate_open g b.z m.zx m.zy m.zz z.x z.y z.z s.z cell.over some (ap (λ (c : Column). c.z) e) p.x p.y p.z closed.z,
    )
