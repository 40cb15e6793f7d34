-- Some point of an image is fixed by no element but those that fix the whole image: one whose coordinates are the powers of a large base.
use Rattle.std.proofs.Common.{◌≡◌, ◌∷◌, [], ℕ, ◌+◌, ◌*◌, ◌<◌, ◌≤◌, List, length, ℤ, pos, ◌+ℤ◌, ◌-ℤ◌, ◌*ℤ◌, unsigned_abs, Contains, ap, sym, ◌∙◌, refl, arith, mul-le-mul, le_refl}
use Rattle.std.proofs.lemmas.Int.{ints, unsigned_abs-mul}
use native.Mathlib.Nat.{le_of_mul-le-mul_left}
use Rattle.lattice_algebra.specs.Matrix.{Matrix, ◌·◌, ◌·ᶜ◌, ◌+ᶜ◌, times, scaled, no_matrix}
use Rattle.lattice_algebra.proofs.Powers.{within-+ᵐ}
use Rattle.lattice_algebra.specs.Operator.{HasEntriesWithin, AreWithin}
use Rattle.lattice_algebra.specs.Map.{Map}
use Rattle.lattice_algebra.proofs.Numbers.{abs_sub, positive_product, digits}
use Rattle.lattice_algebra.proofs.Ring.{Expr, var, con, ◌⊕◌, ◌⊖◌, ◌⊗◌, known, ring_from}
use Rattle.finite_groups.proofs.Members as lists
use Rattle.space_groups.specs.Space.{ScaledPoint, moved}
use Rattle.space_groups.specs.Averages.{Block, Vector, block_of, block_plus, block_times, block_scaled, block_on, sum_of, IsMean, IsInImage}
use Rattle.space_groups.proofs.RowSizes.{row_size}
use Rattle.space_groups.proofs.Blocks.{block_path, on_times, number_times}
use Rattle.space_groups.proofs.Means.{vec, vec-moved, vec-made, made, made_in_image, Keeps}

-- ---- the entries of an average are at most twice its number

nothing_within : HasEntriesWithin 0 no_matrix
nothing_within =
    let row : AreWithin 0 (pos 0) (pos 0) (pos 0) = record { first = le_refl 0; second = le_refl 0; third = le_refl 0 } in
    record { x = row; y = row; z = row }

sum_within : (list : List Map) → ((e : Map) → Contains list e → HasEntriesWithin 2 e.w) → HasEntriesWithin (length list * 2) (sum_of list).m
unfolding block_plus block_of
sum_within [] h = nothing_within
sum_within (g ∷ gs) h =
    let rest = sum_within gs (λ e c. h e (lists.Contains-later e g gs c)) in
    within-+ᵐ 2 (length gs * 2) (length (g ∷ gs) * 2) g.w (sum_of gs).m (h g (lists.Contains-here g gs)) rest (omega arith)

-- where l x = n y and y is at most l b, x is at most n b
divided : (l n b : ℕ) (x y : ℤ) → 0 < l → pos l *ℤ x ≡ pos n *ℤ y → unsigned_abs y ≤ l * b → unsigned_abs x ≤ n * b
divided l n b x y some e h =
    let f : l * unsigned_abs x ≡ n * unsigned_abs y = sym (unsigned_abs-mul (pos l) x) ∙ ap unsigned_abs e ∙ unsigned_abs-mul (pos n) y in
    let g : n * unsigned_abs y ≤ n * (l * b) = mul-le-mul (le_refl n) h in
    let o : l * unsigned_abs x ≤ l * (n * b) = omega arith in
    le_of_mul-le-mul_left o some

matrix_mean : (n : ℕ) (list : List Map) (a : Block) → IsMean n list a → scaled (pos (length list)) a.m ≡ scaled (pos n) (sum_of list).m
unfolding block_scaled
matrix_mean n list a mean = ap (λ (v : Block). v.m) mean

divided_entries : (l n b : ℕ) (a s : Matrix) → 0 < l → scaled (pos l) a ≡ scaled (pos n) s → HasEntriesWithin (l * b) s → HasEntriesWithin (n * b) a
unfolding scaled
divided_entries l n b a s some e h =
    let at : (f : Matrix → ℤ) (x y : ℤ) → f (scaled (pos l) a) ≡ pos l *ℤ x → f (scaled (pos n) s) ≡ pos n *ℤ y → unsigned_abs y ≤ l * b → unsigned_abs x ≤ n * b =
    λ f x y p q. divided l n b x y some (sym p ∙ ap f e ∙ q) in
    record {
      x = record { first = at (λ m. m.xx) a.xx s.xx refl refl h.x.first; second = at (λ m. m.xy) a.xy s.xy refl refl h.x.second; third = at (λ m. m.xz) a.xz s.xz refl refl h.x.third };
      y = record { first = at (λ m. m.yx) a.yx s.yx refl refl h.y.first; second = at (λ m. m.yy) a.yy s.yy refl refl h.y.second; third = at (λ m. m.yz) a.yz s.yz refl refl h.y.third };
      z = record { first = at (λ m. m.zx) a.zx s.zx refl refl h.z.first; second = at (λ m. m.zy) a.zy s.zy refl refl h.z.second; third = at (λ m. m.zz) a.zz s.zz refl refl h.z.third };
    }

pub mean_within : (n : ℕ) (list : List Map) (a : Block) → 0 < length list → IsMean n list a → ((e : Map) → Contains list e → HasEntriesWithin 2 e.w) → HasEntriesWithin (n * 2) a.m
mean_within n list a some mean h = divided_entries (length list) n 2 a.m (sum_of list).m some (matrix_mean n list a mean) (sum_within list h)

-- ---- the generic point

-- over n, entries of W m - m are below this
abbrev base : ℕ → ℕ
base n = 14 * n + 1

base_some : (n : ℕ) → 0 < base n
base_some n = omega arith

-- the square of the base, the base and 1, over the cube
abbrev powers : ℕ → ScaledPoint
powers n =
    let b = base n in
    record { n = record { x = pos b *ℤ pos b; y = pos b; z = pos 1 }; d = b * (b * b); some = positive_product b (b * b) (base_some n) (positive_product b b (base_some n) (base_some n)) }

-- an entry of W m - m
change_within : (n : ℕ) (w0 w1 w2 m0 m1 m2 m : ℤ) → unsigned_abs w0 ≤ 2 → unsigned_abs w1 ≤ 2 → unsigned_abs w2 ≤ 2 → unsigned_abs m0 ≤ n * 2 → unsigned_abs m1 ≤ n * 2 → unsigned_abs m2 ≤ n * 2 → unsigned_abs m ≤ n * 2
    → unsigned_abs ((w0 *ℤ m0 +ℤ w1 *ℤ m1 +ℤ w2 *ℤ m2) -ℤ m) < base n
change_within n w0 w1 w2 m0 m1 m2 m p0 p1 p2 q0 q1 q2 q =
    let row = w0 *ℤ m0 +ℤ w1 *ℤ m1 +ℤ w2 *ℤ m2 in
    let a0 : unsigned_abs w0 * (n * 2) ≤ 2 * (n * 2) = mul-le-mul p0 (le_refl (n * 2)) in
    let a1 : unsigned_abs w1 * (n * 2) ≤ 2 * (n * 2) = mul-le-mul p1 (le_refl (n * 2)) in
    let a2 : unsigned_abs w2 * (n * 2) ≤ 2 * (n * 2) = mul-le-mul p2 (le_refl (n * 2)) in
    let s : unsigned_abs row ≤ 12 * n = omega (arith, row_size w0 w1 w2 m0 m1 m2 (n * 2) (n * 2) (n * 2) q0 q1 q2) in
    omega (arith, abs_sub row m)

same_from_zero : (a b : ℤ) → a -ℤ b ≡ pos 0 → a ≡ b
same_from_zero a b e = omega (arith, ints)

-- one row: W m and m agree on the powers of a base, and so do their translations
same_row : (n : ℕ) (a b c a' b' c' t t' : ℤ)
    → a *ℤ (pos n *ℤ pos n) +ℤ b *ℤ pos n +ℤ c *ℤ pos 1 +ℤ pos n *ℤ (pos n *ℤ pos n) *ℤ t ≡ a' *ℤ (pos n *ℤ pos n) +ℤ b' *ℤ pos n +ℤ c' *ℤ pos 1 +ℤ pos n *ℤ (pos n *ℤ pos n) *ℤ t'
    → unsigned_abs (a -ℤ a') < n → unsigned_abs (b -ℤ b') < n → unsigned_abs (c -ℤ c') < n
    → (a ≡ a') × (b ≡ b') × (c ≡ c') × (t ≡ t')
same_row n a b c a' b' c' t t' e p q r =
    let N = var 8 in
    let side : ℕ → Expr = λ k. var k ⊗ (N ⊗ N) ⊕ var (k + 1) ⊗ N ⊕ var (k + 2) ⊗ con (pos 1) ⊕ N ⊗ (N ⊗ N) ⊗ var (k + 3) in
    let z = digits n (a -ℤ a') (b -ℤ b') (c -ℤ c') (t' -ℤ t)
    (ring_from (a ∷ b ∷ c ∷ t ∷ a' ∷ b' ∷ c' ∷ t' ∷ pos n ∷ [])
    ((var 0 ⊖ var 4) ⊗ (N ⊗ N) ⊕ (var 1 ⊖ var 5) ⊗ N ⊕ (var 2 ⊖ var 6)) ((var 7 ⊖ var 3) ⊗ (N ⊗ (N ⊗ N)))
    (known (con (pos 1)) (side 0) (side 4) ∷ []) (e, tt) tt) p q r in
    (same_from_zero a a' z.0, same_from_zero b b' z.1, same_from_zero c c' z.2, sym (same_from_zero t' t z.3))

keeps_from_powers : (n : ℕ) (a : Block) (e : Map) → HasEntriesWithin (n * 2) a.m → HasEntriesWithin 2 e.w → block_on (block_times (block_of e) a) (vec (powers n)) ≡ block_on a (vec (powers n)) → Keeps a e
unfolding block_on block_times block_of ◌·◌ ◌·ᶜ◌ ◌+ᶜ◌ times
keeps_from_powers n a e m w h =
    let b = block_times (block_of e) a in
    let at : (v0 v1 v2 m0 m1 m2 m' : ℤ) → AreWithin 2 v0 v1 v2 → unsigned_abs m0 ≤ n * 2 → unsigned_abs m1 ≤ n * 2 → unsigned_abs m2 ≤ n * 2 → unsigned_abs m' ≤ n * 2 → _ = λ v0 v1 v2 m0 m1 m2 m' p. change_within n v0 v1 v2 m0 m1 m2 m' p.first p.second p.third in
    let x = same_row (base n) b.m.xx b.m.xy b.m.xz a.m.xx a.m.xy a.m.xz b.t.x a.t.x (ap (λ (v : Vector). v.p.x) h)
    (at _ _ _ _ _ _ _ w.x m.x.first m.y.first m.z.first m.x.first) (at _ _ _ _ _ _ _ w.x m.x.second m.y.second m.z.second m.x.second) (at _ _ _ _ _ _ _ w.x m.x.third m.y.third m.z.third m.x.third) in
    let y = same_row (base n) b.m.yx b.m.yy b.m.yz a.m.yx a.m.yy a.m.yz b.t.y a.t.y (ap (λ (v : Vector). v.p.y) h)
    (at _ _ _ _ _ _ _ w.y m.x.first m.y.first m.z.first m.y.first) (at _ _ _ _ _ _ _ w.y m.x.second m.y.second m.z.second m.y.second) (at _ _ _ _ _ _ _ w.y m.x.third m.y.third m.z.third m.y.third) in
    let z = same_row (base n) b.m.zx b.m.zy b.m.zz a.m.zx a.m.zy a.m.zz b.t.z a.t.z (ap (λ (v : Vector). v.p.z) h)
    (at _ _ _ _ _ _ _ w.z m.x.first m.y.first m.z.first m.z.first) (at _ _ _ _ _ _ _ w.z m.x.second m.y.second m.z.second m.z.second) (at _ _ _ _ _ _ _ w.z m.x.third m.y.third m.z.third m.z.third) in
    block_path b a
    (λ i. record {
      xx = x.0 i;
      xy = x.1 i;
      xz = x.2 i;
      yx = y.0 i;
      yy = y.1 i;
      yz = y.2 i;
      zx = z.0 i;
      zy = z.1 i;
      zz = z.2 i;
    })
    (λ i. record { x = x.3 i; y = y.3 i; z = z.3 i })
    (number_times e a)

pub generic : (n : ℕ) (h : 0 < n) (a : Block) → a.n ≡ pos n → block_times a a ≡ block_scaled a.n a → HasEntriesWithin (n * 2) a.m
    → (y : ScaledPoint) × IsInImage a y × ((e : Map) → HasEntriesWithin 2 e.w → moved e y ≡ y → Keeps a e)
generic n h a number two m =
    let is = vec-made n h a (powers n) number in (
      made n h a (powers n),
      made_in_image n h a (powers n) number two,
      λ e w fix. keeps_from_powers n a e m w (on_times (block_of e) a (vec (powers n)) ∙ ap (block_on (block_of e)) (sym is) ∙ vec-moved e (made n h a (powers n)) ∙ ap vec fix ∙ is),
    )
