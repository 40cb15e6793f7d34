-- How large the whole shifts are that a search has to try.
use Rattle.std.proofs.Common.{◌≡◌, [], ◌∷◌, ℕ, ◌+◌, ◌*◌, ◌<◌, ◌≤◌, ℤ, pos, negsuc, ◌+ℤ◌, ◌*ℤ◌, ◌≤ℤ◌, neg_ℤ, unsigned_abs, ap, sym, ◌∙◌, subst, arith, mul-le-mul, le_refl}
use Rattle.std.specs.Int.{int_min, int_max}
use Rattle.std.proofs.lemmas.Int.{ints, unsigned_abs-mul, int_min_is, int_max_is}
use native.Mathlib.Nat.{le_of_mul-le-mul_left}
use Rattle.lattice_algebra.specs.Matrix.{Matrix, Column, ◌·◌, ◌·ᶜ◌, ◌+ᶜ◌, ◌+ᵐ◌, neg_column, times, scaled}
use Rattle.lattice_algebra.specs.Operator.{Operator, HasEntriesWithin, AreWithin, AreParts, IsPart}
use Rattle.lattice_algebra.proofs.Ring.{var, con, ◌⊕◌, ◌⊗◌, ring}
use Rattle.lattice_algebra.proofs.Numbers.{positive_product, abs_add, abs_mul, abs_neg}
use Rattle.space_groups.specs.Averages.{Block}
use Rattle.space_groups.specs.Regions.{diagonal, AreWholeColumns}
use Rattle.space_groups.specs.Intervals.{differences, base_shift, sum_below, sum_above, sums_below, sums_above, lowest, highest, IsBetween}
use Rattle.space_groups.proofs.RowSizes.{row_size}

-- ---- the columns

-- n r = m q
entry_within : (n k : ℕ) (m q r : ℤ) → 0 < n → m *ℤ q ≡ pos n *ℤ r → unsigned_abs m ≤ n * 2 → unsigned_abs q ≤ k → unsigned_abs r ≤ k * 2
entry_within n k m q r some e a b =
    let f : n * unsigned_abs r ≡ unsigned_abs m * unsigned_abs q = sym (unsigned_abs-mul (pos n) r) ∙ ap unsigned_abs (sym e) ∙ unsigned_abs-mul m q in
    let g : unsigned_abs m * unsigned_abs q ≤ n * 2 * k = mul-le-mul a b in
    let l : n * unsigned_abs r ≤ n * (k * 2) = omega arith in
    le_of_mul-le-mul_left l some

first_only : (a b c q : ℤ) → a *ℤ q ≡ a *ℤ q +ℤ b *ℤ pos 0 +ℤ c *ℤ pos 0
first_only a b c q = let o = con (pos 0) in ring (a ∷ b ∷ c ∷ q ∷ []) (var 0 ⊗ var 3) (var 0 ⊗ var 3 ⊕ var 1 ⊗ o ⊕ var 2 ⊗ o) tt

second_only : (a b c q : ℤ) → b *ℤ q ≡ a *ℤ pos 0 +ℤ b *ℤ q +ℤ c *ℤ pos 0
second_only a b c q = let o = con (pos 0) in ring (a ∷ b ∷ c ∷ q ∷ []) (var 1 ⊗ var 3) (var 0 ⊗ o ⊕ var 1 ⊗ var 3 ⊕ var 2 ⊗ o) tt

third_only : (a b c q : ℤ) → c *ℤ q ≡ a *ℤ pos 0 +ℤ b *ℤ pos 0 +ℤ c *ℤ q
third_only a b c q = let o = con (pos 0) in ring (a ∷ b ∷ c ∷ q ∷ []) (var 2 ⊗ var 3) (var 0 ⊗ o ⊕ var 1 ⊗ o ⊕ var 2 ⊗ var 3) tt

-- multiples, at most k times, of the columns of an average over n with entries up to 2 are at most 2 k
pub columns_within : (n k : ℕ) (a : Block) (q : Column) (r : Matrix) → 0 < n → a.n ≡ pos n → AreWholeColumns q r a → HasEntriesWithin (n * 2) a.m → AreWithin k q.x q.y q.z → HasEntriesWithin (k * 2) r
unfolding ◌·◌ scaled diagonal
columns_within n k a q r some number whole w s =
    let m = a.m in
    let e : m · diagonal q ≡ scaled (pos n) r = whole ∙ ap (λ v. scaled v r) number in
    let row : (a b c x y z : ℤ) → AreWithin (n * 2) a b c → a *ℤ q.x +ℤ b *ℤ pos 0 +ℤ c *ℤ pos 0 ≡ pos n *ℤ x → a *ℤ pos 0 +ℤ b *ℤ q.y +ℤ c *ℤ pos 0 ≡ pos n *ℤ y → a *ℤ pos 0 +ℤ b *ℤ pos 0 +ℤ c *ℤ q.z ≡ pos n *ℤ z → AreWithin (k * 2) x y z =
    λ a b c x y z h f g i. record {
      first = entry_within n k a q.x x some (first_only a b c q.x ∙ f) h.first s.first;
      second = entry_within n k b q.y y some (second_only a b c q.y ∙ g) h.second s.second;
      third = entry_within n k c q.z z some (third_only a b c q.z ∙ i) h.third s.third;
    } in
    record {
      x = row m.xx m.xy m.xz r.xx r.xy r.xz w.x (ap (λ (v : Matrix). v.xx) e) (ap (λ (v : Matrix). v.xy) e) (ap (λ (v : Matrix). v.xz) e);
      y = row m.yx m.yy m.yz r.yx r.yy r.yz w.y (ap (λ (v : Matrix). v.yx) e) (ap (λ (v : Matrix). v.yy) e) (ap (λ (v : Matrix). v.yz) e);
      z = row m.zx m.zy m.zz r.zx r.zy r.zz w.z (ap (λ (v : Matrix). v.zx) e) (ap (λ (v : Matrix). v.zy) e) (ap (λ (v : Matrix). v.zz) e);
    }

-- ---- the ends of the intervals

below_size : (x : ℤ) → unsigned_abs (int_min x (pos 0)) ≤ unsigned_abs x
below_size x = omega (arith, ints, int_min_is x (pos 0))

above_size : (x : ℤ) → unsigned_abs (int_max x (pos 0)) ≤ unsigned_abs x
above_size x = omega (arith, ints, int_max_is x (pos 0))

sum_size : (a b c : ℤ) → unsigned_abs (a +ℤ b +ℤ c) ≤ unsigned_abs a + unsigned_abs b + unsigned_abs c
sum_size a b c = omega (arith, abs_add (a +ℤ b) c, abs_add a b)

-- a row of W times a column
pub turned_size : (w0 w1 w2 r0 r1 r2 : ℤ) (b : ℕ) → AreWithin 2 w0 w1 w2 → unsigned_abs r0 ≤ b → unsigned_abs r1 ≤ b → unsigned_abs r2 ≤ b → unsigned_abs (w0 *ℤ r0 +ℤ w1 *ℤ r1 +ℤ w2 *ℤ r2) ≤ 6 * b
turned_size w0 w1 w2 r0 r1 r2 b w p q r =
    let x : unsigned_abs w0 * b ≤ 2 * b = mul-le-mul w.first (le_refl b) in
    let y : unsigned_abs w1 * b ≤ 2 * b = mul-le-mul w.second (le_refl b) in
    let z : unsigned_abs w2 * b ≤ 2 * b = mul-le-mul w.third (le_refl b) in
    omega (arith, row_size w0 w1 w2 r0 r1 r2 b b b p q r)

difference_size : (x y : ℤ) (b : ℕ) → unsigned_abs x ≤ b → unsigned_abs y ≤ 6 * b → unsigned_abs (x +ℤ negsuc 0 *ℤ y) ≤ 7 * b
difference_size x y b p q = omega (arith, abs_add x (negsuc 0 *ℤ y), unsigned_abs-mul (negsuc 0) y)

differences_within : (b : ℕ) (w r : Matrix) → HasEntriesWithin 2 w → HasEntriesWithin b r → HasEntriesWithin (7 * b) (differences w r)
unfolding differences ◌·◌ ◌+ᵐ◌ scaled
differences_within b w r h k =
    let entry : (x w0 w1 w2 r0 r1 r2 : ℤ) → AreWithin 2 w0 w1 w2 → unsigned_abs x ≤ b → unsigned_abs r0 ≤ b → unsigned_abs r1 ≤ b → unsigned_abs r2 ≤ b → unsigned_abs (x +ℤ negsuc 0 *ℤ (w0 *ℤ r0 +ℤ w1 *ℤ r1 +ℤ w2 *ℤ r2)) ≤ 7 * b =
    λ x w0 w1 w2 r0 r1 r2 v p a c d. difference_size x (w0 *ℤ r0 +ℤ w1 *ℤ r1 +ℤ w2 *ℤ r2) b p (turned_size w0 w1 w2 r0 r1 r2 b v a c d) in
    record {
      x = record { first = entry _ _ _ _ _ _ _ h.x k.x.first k.x.first k.y.first k.z.first; second = entry _ _ _ _ _ _ _ h.x k.x.second k.x.second k.y.second k.z.second; third = entry _ _ _ _ _ _ _ h.x k.x.third k.x.third k.y.third k.z.third };
      y = record { first = entry _ _ _ _ _ _ _ h.y k.y.first k.x.first k.y.first k.z.first; second = entry _ _ _ _ _ _ _ h.y k.y.second k.x.second k.y.second k.z.second; third = entry _ _ _ _ _ _ _ h.y k.y.third k.x.third k.y.third k.z.third };
      z = record { first = entry _ _ _ _ _ _ _ h.z k.z.first k.x.first k.y.first k.z.first; second = entry _ _ _ _ _ _ _ h.z k.z.second k.x.second k.y.second k.z.second; third = entry _ _ _ _ _ _ _ h.z k.z.third k.x.third k.y.third k.z.third };
    }

base_size : (unit n : ℕ) (t y f : ℤ) (b : ℕ) → unsigned_abs t ≤ b → unsigned_abs y ≤ 6 * b → IsPart unit f → unsigned_abs (t +ℤ neg_ℤ (y +ℤ pos n *ℤ f)) ≤ 7 * b + n * unit
base_size unit n t y f b p q part =
    let s : unsigned_abs f ≤ unit = omega (arith, ints) in
    omega (arith, abs_add t (neg_ℤ (y +ℤ pos n *ℤ f)), abs_neg (y +ℤ pos n *ℤ f), abs_add y (pos n *ℤ f), abs_mul (pos n) f unit s)

pub base_within : (unit n b : ℕ) (a : Block) (f : Operator) → a.n ≡ pos n → AreWithin b a.t.x a.t.y a.t.z → HasEntriesWithin 2 f.w → AreParts unit f.t → (let s = base_shift a f in AreWithin (7 * b + n * unit) s.x s.y s.z)
unfolding base_shift ◌·ᶜ◌ ◌+ᶜ◌ times neg_column
base_within unit n b a f number t w p =
    subst (λ v. let s = a.t +ᶜ neg_column (f.w ·ᶜ a.t +ᶜ times v f.t) in AreWithin (7 * b + n * unit) s.x s.y s.z) (sym number) (record {
      first = base_size unit n a.t.x _ f.t.x b t.first (turned_size _ _ _ _ _ _ b w.x t.first t.second t.third) p.x;
      second = base_size unit n a.t.y _ f.t.y b t.second (turned_size _ _ _ _ _ _ b w.y t.first t.second t.third) p.y;
      third = base_size unit n a.t.z _ f.t.z b t.third (turned_size _ _ _ _ _ _ b w.z t.first t.second t.third) p.z;
    })

-- a base and g times a sum
end_size : (unit n c b : ℕ) (s x : ℤ) → unsigned_abs s ≤ 7 * (unit * n * c) + n * unit → unsigned_abs x ≤ 21 * b → unsigned_abs (s +ℤ pos (unit * n) *ℤ x) ≤ unit * n * (7 * c + 21 * b + 1)
end_size unit n c b s x p q = omega (arith, abs_add s (pos (unit * n) *ℤ x), abs_mul (pos (unit * n)) x (21 * b) q)

sums_size : (b : ℕ) (x y z : ℤ) → AreWithin (7 * b) x y z → (unsigned_abs (sum_below x y z) ≤ 21 * b) × (unsigned_abs (sum_above x y z) ≤ 21 * b)
sums_size b x y z h = (
  omega (arith, sum_size (int_min x (pos 0)) (int_min y (pos 0)) (int_min z (pos 0)), below_size x, below_size y, below_size z, h.first, h.second, h.third),
  omega (arith, sum_size (int_max x (pos 0)) (int_max y (pos 0)) (int_max z (pos 0)), above_size x, above_size y, above_size z, h.first, h.second, h.third),
)

-- the ends, over unit n, where the translation is up to c cells and the columns up to b
pub ends_within : (unit n c b : ℕ) (a : Block) (r : Matrix) (f : Operator) → a.n ≡ pos n → AreWithin (unit * n * c) a.t.x a.t.y a.t.z → HasEntriesWithin b r → HasEntriesWithin 2 f.w → AreParts unit f.t
    → (let l = lowest unit a r f in AreWithin (unit * n * (7 * c + 21 * b + 1)) l.x l.y l.z) × (let h = highest unit a r f in AreWithin (unit * n * (7 * c + 21 * b + 1)) h.x h.y h.z)
unfolding lowest highest sums_below sums_above ◌+ᶜ◌ times
ends_within unit n c b a r f number t k w p =
    let s = base_shift a f in
    let m = differences f.w r in
    let base = base_within unit n (unit * n * c) a f number t w p in
    let d = differences_within b f.w r w k in
    let x = sums_size b m.xx m.xy m.xz d.x in
    let y = sums_size b m.yx m.yy m.yz d.y in
    let z = sums_size b m.zx m.zy m.zz d.z in
    let at : (e x : ℤ) → unsigned_abs e ≤ 7 * (unit * n * c) + n * unit → unsigned_abs x ≤ 21 * b → unsigned_abs (e +ℤ pos unit *ℤ a.n *ℤ x) ≤ unit * n * (7 * c + 21 * b + 1) =
    λ e x q v. subst (λ u. unsigned_abs (e +ℤ pos unit *ℤ u *ℤ x) ≤ unit * n * (7 * c + 21 * b + 1)) (sym number) (end_size unit n c b e x q v) in (
      record { first = at s.x _ base.first x.0; second = at s.y _ base.second y.0; third = at s.z _ base.third z.0 },
      record { first = at s.x _ base.first x.1; second = at s.y _ base.second y.1; third = at s.z _ base.third z.1 },
    )

-- what lies between ends of up to m cells is at most m
pub between_within : (g m : ℕ) (low high s : Column) → 0 < g → AreWithin (g * m) low.x low.y low.z → AreWithin (g * m) high.x high.y high.z → IsBetween (pos g) low high s → AreWithin m s.x s.y s.z
between_within g m low high s some l h b = record { first = at low.x high.x s.x l.first h.first b.x.0 b.x.1; second = at low.y high.y s.y l.second h.second b.y.0 b.y.1; third = at low.z high.z s.z l.third h.third b.z.0 b.z.1 }
  where
    inside : (l h x : ℤ) (k : ℕ) → unsigned_abs l ≤ k → unsigned_abs h ≤ k → l ≤ℤ x → x ≤ℤ h → unsigned_abs x ≤ k
    inside l h x k p q u v = omega (arith, ints)

    at : (l h x : ℤ) → unsigned_abs l ≤ g * m → unsigned_abs h ≤ g * m → l ≤ℤ (pos g *ℤ x) → (pos g *ℤ x) ≤ℤ h → unsigned_abs x ≤ m
    at l h x p q u v = le_of_mul-le-mul_left (subst (λ k. k ≤ g * m) (unsigned_abs-mul (pos g) x) (inside l h (pos g *ℤ x) (g * m) p q u v)) some

-- so the shifts in the intervals are at most 7 c + 21 b + 1
pub shifts_within : (unit n c b : ℕ) (a : Block) (r : Matrix) (f : Operator) (s : Column) → 0 < unit → 0 < n → a.n ≡ pos n → AreWithin (unit * n * c) a.t.x a.t.y a.t.z → HasEntriesWithin b r → HasEntriesWithin 2 f.w → AreParts unit f.t
    → IsBetween (pos unit *ℤ a.n) (lowest unit a r f) (highest unit a r f) s → AreWithin (7 * c + 21 * b + 1) s.x s.y s.z
shifts_within unit n c b a r f s hu hn number t k w p between =
    let ends = ends_within unit n c b a r f number t k w p in
    between_within (unit * n) (7 * c + 21 * b + 1) (lowest unit a r f) (highest unit a r f) s (positive_product unit n hu hn) ends.0 ends.1
    (subst (λ v. IsBetween (pos unit *ℤ v) (lowest unit a r f) (highest unit a r f) s) number between)
