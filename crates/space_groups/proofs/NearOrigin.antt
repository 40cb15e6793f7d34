-- A set moved by the whole part of its average's translation has small shifts.
-- For the search to come: how far it has to look.
use Rattle.std.proofs.Common.{◌≡◌, ◌++◌, ◌∷◌, ℕ, ◌*◌, ◌<◌, ◌≤◌, ℤ, pos, ◌+ℤ◌, ◌*ℤ◌, neg_ℤ, unsigned_abs, ap, ap₂, sym, ◌∙◌, arith, mul-le-mul, le_refl}
use Rattle.std.proofs.lemmas.Int.{ints, unsigned_abs-mul}
use native.Mathlib.Nat.{le_of_mul-le-mul_left}
use Rattle.lattice_algebra.specs.Matrix.{Matrix, Column, entries, coordinates, ◌·ᶜ◌, ◌+ᶜ◌, neg_column, times, origin}
use Rattle.lattice_algebra.specs.Operator.{HasEntriesWithin, AreParts, AreWithin, IsPart}
use Rattle.lattice_algebra.proofs.Ring.{var, ◌⊗◌}
use Rattle.lattice_algebra.proofs.MatrixRing.{matrix_at, column_at, ◌·ˢᶜ◌, ◌+ˢᶜ◌, sym_times, sym_neg, sym_origin, column_ring}
use Rattle.lattice_algebra.proofs.Numbers.{abs_sub}
use Rattle.space_groups.proofs.RowSizes.{row_size}
use Rattle.space_groups.specs.Averages.{Block, block_times, block_scaled}
use Rattle.space_groups.specs.Regions.{shift_by}
use Rattle.space_groups.specs.Keys.{carried}
use Rattle.space_groups.proofs.Keys.{shifted_block, carried_shift}
use Rattle.space_groups.proofs.Blocks.{translation_part}

-- t = u n f + r, moved by -f
near_form : (m : Matrix) (f r : Column) (n u : ℤ) → times n ((times (u *ℤ n) f +ᶜ r) +ᶜ (times (u *ℤ n) (neg_column f) +ᶜ neg_column (times u (m ·ᶜ neg_column f)))) ≡ times n r +ᶜ neg_column (m ·ᶜ r) +ᶜ m ·ᶜ (times (u *ℤ n) f +ᶜ r)
unfolding ◌·ᶜ◌ ◌+ᶜ◌ times neg_column
near_form m f r n u =
    let N = var 0 in
    let U = var 1 in
    let M = matrix_at 2 in
    let F = column_at 11 in
    let R = column_at 14 in
    let T = sym_times (U ⊗ N) F +ˢᶜ R in
    column_ring (n ∷ u ∷ (entries m ++ (coordinates f ++ coordinates r)))
    (sym_times N (T +ˢᶜ (sym_times (U ⊗ N) (sym_neg F) +ˢᶜ sym_neg (sym_times U (M ·ˢᶜ sym_neg F)))))
    (sym_times N R +ˢᶜ sym_neg (M ·ˢᶜ R) +ˢᶜ M ·ˢᶜ T)
    tt

no_more : (a : Column) → a +ᶜ origin ≡ a
unfolding ◌+ᶜ◌
no_more a = column_ring (coordinates a) (column_at 0 +ˢᶜ sym_origin) (column_at 0) tt

-- one coordinate: n t = n r - m r
near_row : (unit n : ℕ) (m0 m1 m2 r0 r1 r2 r t : ℤ) → 0 < n → pos n *ℤ t ≡ pos n *ℤ r +ℤ neg_ℤ (m0 *ℤ r0 +ℤ m1 *ℤ r1 +ℤ m2 *ℤ r2) → AreWithin (n * 2) m0 m1 m2
    → IsPart (unit * n) r0 → IsPart (unit * n) r1 → IsPart (unit * n) r2 → IsPart (unit * n) r → unsigned_abs t ≤ unit * n * 7
near_row unit n m0 m1 m2 r0 r1 r2 r t h e m p0 p1 p2 p =
    let b = unit * n in
    let s0 : unsigned_abs r0 ≤ b = omega (arith, ints) in
    let s1 : unsigned_abs r1 ≤ b = omega (arith, ints) in
    let s2 : unsigned_abs r2 ≤ b = omega (arith, ints) in
    let s : unsigned_abs r ≤ b = omega (arith, ints) in
    sized n b m0 m1 m2 r0 r1 r2 r t h e m.first m.second m.third s0 s1 s2 s
  where
    sized : (n b : ℕ) (m0 m1 m2 r0 r1 r2 r t : ℤ) → 0 < n → pos n *ℤ t ≡ pos n *ℤ r +ℤ neg_ℤ (m0 *ℤ r0 +ℤ m1 *ℤ r1 +ℤ m2 *ℤ r2) → unsigned_abs m0 ≤ n * 2 → unsigned_abs m1 ≤ n * 2 → unsigned_abs m2 ≤ n * 2
        → unsigned_abs r0 ≤ b → unsigned_abs r1 ≤ b → unsigned_abs r2 ≤ b → unsigned_abs r ≤ b → unsigned_abs t ≤ b * 7
    sized n b m0 m1 m2 r0 r1 r2 r t h e q0 q1 q2 s0 s1 s2 s =
        let row = m0 *ℤ r0 +ℤ m1 *ℤ r1 +ℤ m2 *ℤ r2 in
        let a0 : unsigned_abs m0 * b ≤ n * 2 * b = mul-le-mul q0 (le_refl b) in
        let a1 : unsigned_abs m1 * b ≤ n * 2 * b = mul-le-mul q1 (le_refl b) in
        let a2 : unsigned_abs m2 * b ≤ n * 2 * b = mul-le-mul q2 (le_refl b) in
        let a : n * unsigned_abs r ≤ n * b = mul-le-mul (le_refl n) s in
        let f : n * unsigned_abs t ≡ unsigned_abs (pos n *ℤ r +ℤ neg_ℤ row) = sym (unsigned_abs-mul (pos n) t) ∙ ap unsigned_abs e in
        let g : unsigned_abs (pos n *ℤ r) ≡ n * unsigned_abs r = unsigned_abs-mul (pos n) r in
        let l : n * unsigned_abs t ≤ n * (b * 7) = omega (arith, abs_sub (pos n *ℤ r) row, row_size m0 m1 m2 r0 r1 r2 b b b s0 s1 s2) in
        le_of_mul-le-mul_left l h

moved_translation : (unit n : ℕ) (a : Block) (f r : Column) → a.n ≡ pos n → block_times a a ≡ block_scaled a.n a → a.t ≡ times (pos unit *ℤ pos n) f +ᶜ r → times (pos n) (carried (shift_by unit (neg_column f)) a).t ≡ times (pos n) r +ᶜ neg_column (a.m ·ᶜ r)
unfolding shifted_block
moved_translation unit n a f r number two split =
    ap (λ (v : Block). times (pos n) v.t) (carried_shift unit (neg_column f) a)
    ∙ ap₂ (λ v k. times (pos n) (v +ᶜ (times (pos unit *ℤ k) (neg_column f) +ᶜ neg_column (times (pos unit) (a.m ·ᶜ neg_column f))))) split number
    ∙ near_form a.m f r (pos n) (pos unit)
    ∙ ap (λ v. times (pos n) r +ᶜ neg_column (a.m ·ᶜ r) +ᶜ v) (ap (λ v. a.m ·ᶜ v) (sym split) ∙ translation_part a two) ∙ no_more (times (pos n) r +ᶜ neg_column (a.m ·ᶜ r))

rows : (unit n : ℕ) → 0 < n → (m : Matrix) (r t : Column) → HasEntriesWithin (n * 2) m → AreParts (unit * n) r → times (pos n) t ≡ times (pos n) r +ᶜ neg_column (m ·ᶜ r) → AreWithin (unit * n * 7) t.x t.y t.z
unfolding ◌·ᶜ◌ ◌+ᶜ◌ times neg_column
rows unit n h m r t w p e = record {
  first = near_row unit n m.xx m.xy m.xz r.x r.y r.z r.x t.x h (ap (λ (c : Column). c.x) e) w.x p.x p.y p.z p.x;
  second = near_row unit n m.yx m.yy m.yz r.x r.y r.z r.y t.y h (ap (λ (c : Column). c.y) e) w.y p.x p.y p.z p.y;
  third = near_row unit n m.zx m.zy m.zz r.x r.y r.z r.z t.z h (ap (λ (c : Column). c.z) e) w.z p.x p.y p.z p.z;
}

-- the translation of the moved average is at most 7 cells
pub near_origin : (unit n : ℕ) → 0 < n → (a : Block) (f r : Column) → a.n ≡ pos n → block_times a a ≡ block_scaled a.n a → HasEntriesWithin (n * 2) a.m → a.t ≡ times (pos unit *ℤ pos n) f +ᶜ r → AreParts (unit * n) r
    → (let t = (carried (shift_by unit (neg_column f)) a).t in AreWithin (unit * n * 7) t.x t.y t.z)
near_origin unit n h a f r number two m split parts =
    let b = carried (shift_by unit (neg_column f)) a in
    let t = moved_translation unit n a f r number two split in
    rows unit n h a.m r b.t m parts t
