-- Below which sizes the whole shifts give all keys of the conjugates by whole shifts.
use Rattle.std.proofs.Common.{◌≡◌, ◌++◌, ◌∷◌, [], ◌<◌, ◌≤◌, ◌⊎◌, ℕ, ℤ, pos, negsuc, ◌+ℤ◌, ◌-ℤ◌, ◌*ℤ◌, neg_ℤ, unsigned_abs, w32, ap, ap₂, sym, subst, ◌∙◌, ⊎_elim, arith}
use Rattle.std.proofs.lemmas.Int.{ints}
use Rattle.std.specs.Int.{int_div_euclid, int_rem_euclid}
use Rattle.lattice_algebra.specs.Matrix.{Matrix, Column, entries, coordinates, scaled, ◌·◌, ◌·ᶜ◌, ◌+ᶜ◌, neg_column, times}
use Rattle.lattice_algebra.specs.Operator.{AreWithin, HasEntriesWithin}
use Rattle.lattice_algebra.proofs.Machine.{back, kept}
use Rattle.lattice_algebra.proofs.Numbers.{abs_add, abs_sub}
use Rattle.lattice_algebra.proofs.Ring.{var, con, neg, known, ◌⊕◌, ◌⊗◌, ring, ring_from}
use Rattle.lattice_algebra.proofs.MatrixRing.{matrix_at, column_at, ◌·ˢ◌, ◌·ˢᶜ◌, ◌+ˢᶜ◌, sym_times, sym_scaled, column_ring}
use Rattle.lattice_algebra.proofs.Remainders.{quotient_is, rem_is}
use Rattle.group_closure.specs.declared.TheConstants.{MAX_OPERATORS}
use Rattle.space_groups.specs.Regions.{diagonal}
use Rattle.space_groups.proofs.FirstCell.{sym_diagonals}
use Rattle.affine_sets.specs.declared.keys.Sizes.{Sizes}
use Rattle.affine_sets.specs.Conjugates.{AreSizes, AreWholeFor, AreEnoughFor, IsMultiple}
use Rattle.affine_sets.proofs.KeyWalk.{some_number}

-- ---- periods

-- m takes the whole shift to whole cells
pub record IsPeriod (m : Matrix) (n : ℕ) (u : Column) : Type 0 where
  pub cells : Column
  pub whole : m ·ᶜ u ≡ times (pos n) cells

-- periods along x alone, along x and y, and along all three, whose last numbers are the sizes
pub record ArePeriods (m : Matrix) (n : ℕ) (q : Sizes) : Type 0 where
  pub first : IsPeriod m n (record { x = pos q.x; y = pos 0; z = pos 0 })
  pub second_x : ℤ
  pub second : IsPeriod m n (record { x = second_x; y = pos q.y; z = pos 0 })
  pub third_x : ℤ
  pub third_y : ℤ
  pub third : IsPeriod m n (record { x = third_x; y = third_y; z = pos q.z })

along_periods : (m : Matrix) (l u v w c1 c2 c3 : Column) (d e f n : ℤ) → m ·ᶜ u ≡ times n c1 → m ·ᶜ v ≡ times n c2 → m ·ᶜ w ≡ times n c3
    → m ·ᶜ (l +ᶜ (times d u +ᶜ (times e v +ᶜ times f w))) ≡ m ·ᶜ l +ᶜ times n (times d c1 +ᶜ (times e c2 +ᶜ times f c3))
unfolding ◌·ᶜ◌ ◌+ᶜ◌ times
along_periods m l u v w c1 c2 c3 d e f n p q r =
    let D = var 0 in
    let E = var 1 in
    let F = var 2 in
    let N = var 3 in
    let M = matrix_at 4 in
    let L = column_at 13 in
    let U = column_at 16 in
    let V = column_at 19 in
    let W = column_at 22 in
    let A = column_at 25 in
    let B = column_at 28 in
    let C = column_at 31 in
    let env = d ∷ e ∷ f ∷ n ∷ (entries m ++ (coordinates l ++ (coordinates u ++ (coordinates v ++ (coordinates w ++ (coordinates c1 ++ (coordinates c2 ++ coordinates c3))))))) in
    column_ring env (M ·ˢᶜ (L +ˢᶜ (sym_times D U +ˢᶜ (sym_times E V +ˢᶜ sym_times F W)))) (M ·ˢᶜ L +ˢᶜ (sym_times D (M ·ˢᶜ U) +ˢᶜ (sym_times E (M ·ˢᶜ V) +ˢᶜ sym_times F (M ·ˢᶜ W)))) tt
    ∙ ap (λ x. m ·ᶜ l +ᶜ (times d x +ᶜ (times e (m ·ᶜ v) +ᶜ times f (m ·ᶜ w)))) p
    ∙ ap₂ (λ y z. m ·ᶜ l +ᶜ (times d (times n c1) +ᶜ (times e y +ᶜ times f z))) q r
    ∙ column_ring env (M ·ˢᶜ L +ˢᶜ (sym_times D (sym_times N A) +ˢᶜ (sym_times E (sym_times N B) +ˢᶜ sym_times F (sym_times N C)))) (M ·ˢᶜ L +ˢᶜ sym_times N (sym_times D A +ˢᶜ (sym_times E B +ˢᶜ sym_times F C))) tt

-- k from its remainder without what the longer periods give
put_back : (k less r q d : ℤ) → k +ℤ neg_ℤ less ≡ r +ℤ q *ℤ d → k ≡ r +ℤ (d *ℤ q +ℤ less)
put_back k less r q d e = ring_from (k ∷ less ∷ r ∷ q ∷ d ∷ []) (var 0) (var 2 ⊕ (var 4 ⊗ var 3 ⊕ var 1)) (known (con (pos 1)) (var 0 ⊕ neg (var 1)) (var 2 ⊕ var 3 ⊗ var 4) ∷ []) (e, tt) tt

nothing_before : (k r q d e f : ℤ) → k ≡ r +ℤ q *ℤ d → k ≡ r +ℤ (e *ℤ pos 0 +ℤ (f *ℤ pos 0 +ℤ d *ℤ q))
nothing_before k r q d e f h = h ∙ ring (r ∷ q ∷ d ∷ e ∷ f ∷ []) (var 0 ⊕ var 1 ⊗ var 2) (var 0 ⊕ (var 3 ⊗ con (pos 0) ⊕ (var 4 ⊗ con (pos 0) ⊕ var 2 ⊗ var 1))) tt

one_before : (k b r q d e f : ℤ) → k +ℤ neg_ℤ (f *ℤ b) ≡ r +ℤ q *ℤ d → k ≡ r +ℤ (e *ℤ pos 0 +ℤ (d *ℤ q +ℤ f *ℤ b))
one_before k b r q d e f h = put_back k (f *ℤ b) r q d h ∙ ring (r ∷ d ∷ q ∷ f ∷ b ∷ e ∷ []) (var 0 ⊕ (var 1 ⊗ var 2 ⊕ var 3 ⊗ var 4)) (var 0 ⊕ (var 5 ⊗ con (pos 0) ⊕ (var 1 ⊗ var 2 ⊕ var 3 ⊗ var 4))) tt

pub enough : (m : Matrix) (n : ℕ) (q : Sizes) → AreSizes q → ArePeriods m n q → AreEnoughFor q m n
unfolding ◌+ᶜ◌ times
enough m n q s p k =
    let f = int_div_euclid k.z (pos q.z) in
    let ky = k.y +ℤ neg_ℤ (f *ℤ p.third_y) in
    let e = int_div_euclid ky (pos q.y) in
    let less = e *ℤ p.second_x +ℤ f *ℤ p.third_x in
    let kx = k.x +ℤ neg_ℤ less in
    let d = int_div_euclid kx (pos q.x) in
    let l : Column = record { x = int_rem_euclid kx (pos q.x); y = int_rem_euclid ky (pos q.y); z = int_rem_euclid k.z (pos q.z) } in
    let i = some_number q l (record { first = (rem_is q.x s.some_x kx).2; second = (rem_is q.y s.some_y ky).2; third = (rem_is q.z s.some_z k.z).2 }) in
    let u : Column = record { x = pos q.x; y = pos 0; z = pos 0 } in
    let v : Column = record { x = p.second_x; y = pos q.y; z = pos 0 } in
    let w : Column = record { x = p.third_x; y = p.third_y; z = pos q.z } in
    let cells = times d p.first.cells +ᶜ (times e p.second.cells +ᶜ times f p.third.cells) in
    let split : k ≡ l +ᶜ (times d u +ᶜ (times e v +ᶜ times f w)) = λ t. record {
      x = put_back k.x less l.x (pos q.x) d (quotient_is q.x s.some_x kx) t;
      y = one_before k.y p.third_y l.y (pos q.y) e d f (quotient_is q.y s.some_y ky) t;
      z = nothing_before k.z l.z (pos q.z) f d e (quotient_is q.z s.some_z k.z) t;
    } in (
      i.0,
      i.1,
      cells,
      ap (λ x. m ·ᶜ x) split ∙ along_periods m l u v w p.first.cells p.second.cells p.third.cells d e f (pos n) p.first.whole p.second.whole p.third.whole ∙ ap (λ x. m ·ᶜ x +ᶜ times (pos n) cells) (sym i.2),
    )

-- ---- periods by the sizes that make the columns whole

along_diagonal : (m r : Matrix) (q e : Column) (n : ℤ) → m · diagonal q ≡ scaled n r → m ·ᶜ (diagonal q ·ᶜ e) ≡ times n (r ·ᶜ e)
unfolding ◌·◌ ◌·ᶜ◌ times scaled diagonal
along_diagonal m r q e n h =
    let N = var 0 in
    let M = matrix_at 1 in
    let R = matrix_at 10 in
    let Q = sym_diagonals (column_at 19) in
    let E = column_at 22 in
    let env = n ∷ (entries m ++ (entries r ++ (coordinates q ++ coordinates e))) in
    column_ring env (M ·ˢᶜ (Q ·ˢᶜ E)) ((M ·ˢ Q) ·ˢᶜ E) tt ∙ ap (λ x. x ·ᶜ e) h ∙ column_ring env (sym_scaled N R ·ˢᶜ E) (sym_times N (R ·ˢᶜ E)) tt

on_diagonal : (q e : Column) → diagonal q ·ᶜ e ≡ record { x = q.x *ℤ e.x; y = q.y *ℤ e.y; z = q.z *ℤ e.z }
unfolding ◌·ᶜ◌ diagonal
on_diagonal q e = column_ring (coordinates q ++ coordinates e) (sym_diagonals (column_at 0) ·ˢᶜ column_at 3) (record { x = var 0 ⊗ var 3; y = var 1 ⊗ var 4; z = var 2 ⊗ var 5 }) tt

-- the size times a unit shift
whole_period : (m : Matrix) (n : ℕ) (q : Sizes) (e u : Column) → AreWholeFor q m n → record { x = pos q.x *ℤ e.x; y = pos q.y *ℤ e.y; z = pos q.z *ℤ e.z } ≡ u → IsPeriod m n u
whole_period m n q e u h is =
    let d : Column = record { x = pos q.x; y = pos q.y; z = pos q.z } in
    record { cells = h.0 ·ᶜ e; whole = ap (λ v. m ·ᶜ v) (sym (on_diagonal d e ∙ is)) ∙ along_diagonal m h.0 d e (pos n) h.1 }

by_one : (a b c x y z : ℤ) → a ≡ x → b ≡ y → c ≡ z → ◌≡◌ {A = Column} (record { x = a; y = b; z = c }) (record { x = x; y = y; z = z })
by_one a b c x y z p q r = λ i. record { x = p i; y = q i; z = r i }

once : (q : ℕ) → pos q *ℤ pos 1 ≡ pos q
once q = ring (pos q ∷ []) (var 0 ⊗ con (pos 1)) (var 0) tt

never : (q : ℕ) → pos q *ℤ pos 0 ≡ pos 0
never q = ring (pos q ∷ []) (var 0 ⊗ con (pos 0)) (con (pos 0)) tt

-- ---- periods by a column that is a multiple of another

abbrev pub column_x : Matrix → Column
column_x m = record { x = m.xx; y = m.yx; z = m.zx }

abbrev pub column_y : Matrix → Column
column_y m = record { x = m.xy; y = m.yy; z = m.zy }

abbrev pub column_z : Matrix → Column
column_z m = record { x = m.xz; y = m.yz; z = m.zz }

-- what is left of a column without the multiple
left_cells : (a b c : Column) (e n : ℤ) → b ≡ times e a +ᶜ times n c → b +ᶜ times (neg_ℤ e) a ≡ times n c
unfolding ◌+ᶜ◌ times
left_cells a b c e n h =
    let E = var 0 in
    let N = var 1 in
    let A = column_at 2 in
    let C = column_at 5 in
    ap (λ v. v +ᶜ times (neg_ℤ e) a) h ∙ column_ring (e ∷ n ∷ (coordinates a ++ coordinates c)) (sym_times E A +ˢᶜ sym_times N C +ˢᶜ sym_times (neg E) A) (sym_times N C) tt

y_less_x : (m : Matrix) (e : ℤ) → m ·ᶜ record { x = neg_ℤ e; y = pos 1; z = pos 0 } ≡ column_y m +ᶜ times (neg_ℤ e) (column_x m)
unfolding ◌·ᶜ◌ ◌+ᶜ◌ times
y_less_x m e = column_ring (e ∷ entries m) (matrix_at 1 ·ˢᶜ record { x = neg (var 0); y = con (pos 1); z = con (pos 0) }) (record { x = var 2; y = var 5; z = var 8 } +ˢᶜ sym_times (neg (var 0)) (record { x = var 1; y = var 4; z = var 7 })) tt

z_less_x : (m : Matrix) (e : ℤ) → m ·ᶜ record { x = neg_ℤ e; y = pos 0; z = pos 1 } ≡ column_z m +ᶜ times (neg_ℤ e) (column_x m)
unfolding ◌·ᶜ◌ ◌+ᶜ◌ times
z_less_x m e = column_ring (e ∷ entries m) (matrix_at 1 ·ˢᶜ record { x = neg (var 0); y = con (pos 0); z = con (pos 1) }) (record { x = var 3; y = var 6; z = var 9 } +ˢᶜ sym_times (neg (var 0)) (record { x = var 1; y = var 4; z = var 7 })) tt

z_less_y : (m : Matrix) (e : ℤ) → m ·ᶜ record { x = pos 0; y = neg_ℤ e; z = pos 1 } ≡ column_z m +ᶜ times (neg_ℤ e) (column_y m)
unfolding ◌·ᶜ◌ ◌+ᶜ◌ times
z_less_y m e = column_ring (e ∷ entries m) (matrix_at 1 ·ˢᶜ record { x = con (pos 0); y = neg (var 0); z = con (pos 1) }) (record { x = var 3; y = var 6; z = var 9 } +ˢᶜ sym_times (neg (var 0)) (record { x = var 2; y = var 5; z = var 8 })) tt

-- ---- the tests that two columns are one or opposite, but for whole cells

passed_less : (a b : ℤ) → unsigned_abs a ≤ 384 → unsigned_abs b ≤ 384 → back w32 (back w32 a -ℤ back w32 b) ≡ a -ℤ b
passed_less a b p q = ap₂ (λ x y. back w32 (x -ℤ y)) (kept w32 384 a p tt) (kept w32 384 b q tt) ∙ kept w32 768 (a -ℤ b) (omega (arith, abs_sub a b, p, q)) tt

passed_sum : (a b : ℤ) → unsigned_abs a ≤ 384 → unsigned_abs b ≤ 384 → back w32 (back w32 a +ℤ back w32 b) ≡ a +ℤ b
passed_sum a b p q = ap₂ (λ x y. back w32 (x +ℤ y)) (kept w32 384 a p tt) (kept w32 384 b q tt) ∙ kept w32 768 (a +ℤ b) (omega (arith, abs_add a b, p, q)) tt

one_time : (a b k : ℤ) → a -ℤ b ≡ k → a ≡ pos 1 *ℤ b +ℤ k
one_time a b k e = omega (arith, ints)

taken_once : (a b k : ℤ) → a +ℤ b ≡ k → a ≡ negsuc 0 *ℤ b +ℤ k
taken_once a b k e = omega (arith, ints)

pub same_but_cells : (n : ℕ) (a b c : Column) → AreWithin 384 a.x a.y a.z → AreWithin 384 b.x b.y b.z
    → record { x = back w32 (back w32 a.x -ℤ back w32 b.x); y = back w32 (back w32 a.y -ℤ back w32 b.y); z = back w32 (back w32 a.z -ℤ back w32 b.z) } ≡ times (pos n) c → IsMultiple b a n
unfolding ◌+ᶜ◌ times
same_but_cells n a b c p q e = (
  pos 1,
  c,
  λ i. record {
    x = one_time a.x b.x (pos n *ℤ c.x) (sym (passed_less a.x b.x p.first q.first) ∙ ap (λ (v : Column). v.x) e) i;
    y = one_time a.y b.y (pos n *ℤ c.y) (sym (passed_less a.y b.y p.second q.second) ∙ ap (λ (v : Column). v.y) e) i;
    z = one_time a.z b.z (pos n *ℤ c.z) (sym (passed_less a.z b.z p.third q.third) ∙ ap (λ (v : Column). v.z) e) i;
  },
)

pub opposite_but_cells : (n : ℕ) (a b c : Column) → AreWithin 384 a.x a.y a.z → AreWithin 384 b.x b.y b.z
    → record { x = back w32 (back w32 a.x +ℤ back w32 b.x); y = back w32 (back w32 a.y +ℤ back w32 b.y); z = back w32 (back w32 a.z +ℤ back w32 b.z) } ≡ times (pos n) c → IsMultiple b a n
unfolding ◌+ᶜ◌ times
opposite_but_cells n a b c p q e = (
  negsuc 0,
  c,
  λ i. record {
    x = taken_once a.x b.x (pos n *ℤ c.x) (sym (passed_sum a.x b.x p.first q.first) ∙ ap (λ (v : Column). v.x) e) i;
    y = taken_once a.y b.y (pos n *ℤ c.y) (sym (passed_sum a.y b.y p.second q.second) ∙ ap (λ (v : Column). v.y) e) i;
    z = taken_once a.z b.z (pos n *ℤ c.z) (sym (passed_sum a.z b.z p.third q.third) ∙ ap (λ (v : Column). v.z) e) i;
  },
)

less_is : (a b k : ℤ) → a ≡ b +ℤ k → a -ℤ b ≡ k
less_is a b k e = omega (arith, ints)

sum_is : (a b k : ℤ) → a ≡ neg_ℤ b +ℤ k → a +ℤ b ≡ k
sum_is a b k e = omega (arith, ints)

-- and back
pub cells_less : (n : ℕ) (a b c : Column) → AreWithin 384 a.x a.y a.z → AreWithin 384 b.x b.y b.z → a ≡ b +ᶜ times (pos n) c
    → record { x = back w32 (back w32 a.x -ℤ back w32 b.x); y = back w32 (back w32 a.y -ℤ back w32 b.y); z = back w32 (back w32 a.z -ℤ back w32 b.z) } ≡ times (pos n) c
unfolding ◌+ᶜ◌ times
cells_less n a b c p q e = λ i. record {
  x = (passed_less a.x b.x p.first q.first ∙ less_is a.x b.x (pos n *ℤ c.x) (ap (λ (v : Column). v.x) e)) i;
  y = (passed_less a.y b.y p.second q.second ∙ less_is a.y b.y (pos n *ℤ c.y) (ap (λ (v : Column). v.y) e)) i;
  z = (passed_less a.z b.z p.third q.third ∙ less_is a.z b.z (pos n *ℤ c.z) (ap (λ (v : Column). v.z) e)) i;
}

pub cells_sum : (n : ℕ) (a b c : Column) → AreWithin 384 a.x a.y a.z → AreWithin 384 b.x b.y b.z → a ≡ neg_column b +ᶜ times (pos n) c
    → record { x = back w32 (back w32 a.x +ℤ back w32 b.x); y = back w32 (back w32 a.y +ℤ back w32 b.y); z = back w32 (back w32 a.z +ℤ back w32 b.z) } ≡ times (pos n) c
unfolding ◌+ᶜ◌ neg_column times
cells_sum n a b c p q e = λ i. record {
  x = (passed_sum a.x b.x p.first q.first ∙ sum_is a.x b.x (pos n *ℤ c.x) (ap (λ (v : Column). v.x) e)) i;
  y = (passed_sum a.y b.y p.second q.second ∙ sum_is a.y b.y (pos n *ℤ c.y) (ap (λ (v : Column). v.y) e)) i;
  z = (passed_sum a.z b.z p.third q.third ∙ sum_is a.z b.z (pos n *ℤ c.z) (ap (λ (v : Column). v.z) e)) i;
}

-- ---- the sizes that are tried

-- the size of a column beside another one
abbrev pub IsBeside : ℕ → ℕ → Column → Column → ℕ → Type 0
IsBeside size known other column n = (size ≡ known) ⊎ ((size ≡ 1) × IsMultiple other column n)

size_within : (size known : ℕ) (other column : Column) (n : ℕ) → 0 < known → known ≤ MAX_OPERATORS → IsBeside size known other column n → (0 < size) × (size ≤ MAX_OPERATORS)
size_within size known other column n p q h = ⊎_elim (λ e. (omega (arith, e, p), omega (arith, e, q))) (λ r. let e = r.0 in (omega (arith, e), omega (arith, e))) h

-- the size of the second column beside the first, and of the third beside the first and then the second
pub record AreBeside (m : Matrix) (n : ℕ) (q : Sizes) (y z zx : ℕ) : Type 0 where
  pub y_to_x : IsBeside y q.y (column_x m) (column_y m) n
  pub z_to_x : IsBeside zx q.z (column_x m) (column_z m) n
  pub z_to_y : IsBeside z zx (column_y m) (column_z m) n

pub sizes_beside : (m : Matrix) (n : ℕ) (q : Sizes) (y z zx : ℕ) → AreSizes q → AreBeside m n q y z zx → AreSizes (record { x = q.x; y = y; z = z })
sizes_beside m n q y z zx s h =
    let p = size_within y q.y (column_x m) (column_y m) n s.some_y s.y h.y_to_x in
    let i = size_within zx q.z (column_x m) (column_z m) n s.some_z s.z h.z_to_x in
    let r = size_within z zx (column_y m) (column_z m) n i.0 i.1 h.z_to_y in
    record { some_x = s.some_x; some_y = p.0; some_z = r.0; x = s.x; y = p.1; z = r.1 }

period_at : (m : Matrix) (n : ℕ) (u a b : Column) (e : ℤ) (c : Column) → m ·ᶜ u ≡ b +ᶜ times (neg_ℤ e) a → b ≡ times e a +ᶜ times (pos n) c → IsPeriod m n u
period_at m n u a b e c h k = record { cells = c; whole = h ∙ left_cells a b c e (pos n) k }

record IsSecond (m : Matrix) (n size : ℕ) : Type 0 where
  x : ℤ
  period : IsPeriod m n (record { x = x; y = pos size; z = pos 0 })

record IsThird (m : Matrix) (n size : ℕ) : Type 0 where
  x : ℤ
  y : ℤ
  period : IsPeriod m n (record { x = x; y = y; z = pos size })

second_of : (m : Matrix) (n : ℕ) (q : Sizes) (y : ℕ) → AreWholeFor q m n → IsBeside y q.y (column_x m) (column_y m) n → IsSecond m n y
second_of m n q y w h =
    ⊎_elim
    (λ e. record { x = pos 0; period = whole_period m n q (record { x = pos 0; y = pos 1; z = pos 0 }) _ w (by_one _ _ _ _ _ _ (never q.x) (once q.y ∙ ap pos (sym e)) (never q.z)) })
    (λ r. let t = r.1 in record { x = neg_ℤ t.0; period = subst (λ v. IsPeriod m n (record { x = neg_ℤ t.0; y = pos v; z = pos 0 })) (sym r.0) (period_at m n _ (column_x m) (column_y m) t.0 t.1 (y_less_x m t.0) t.2) })
    h

third_of : (m : Matrix) (n : ℕ) (q : Sizes) (z zx : ℕ) → AreWholeFor q m n → IsBeside zx q.z (column_x m) (column_z m) n → IsBeside z zx (column_y m) (column_z m) n → IsThird m n z
third_of m n q z zx w h k =
    ⊎_elim
    (λ e. subst (IsThird m n) (sym e) (⊎_elim
    (λ e. record { x = pos 0; y = pos 0; period = whole_period m n q (record { x = pos 0; y = pos 0; z = pos 1 }) _ w (by_one _ _ _ _ _ _ (never q.x) (never q.y) (once q.z ∙ ap pos (sym e))) })
    (λ r. let t = r.1 in record { x = neg_ℤ t.0; y = pos 0; period = subst (λ v. IsPeriod m n (record { x = neg_ℤ t.0; y = pos 0; z = pos v })) (sym r.0) (period_at m n _ (column_x m) (column_z m) t.0 t.1 (z_less_x m t.0) t.2) })
    h))
    (λ r. let t = r.1 in record { x = pos 0; y = neg_ℤ t.0; period = subst (λ v. IsPeriod m n (record { x = pos 0; y = neg_ℤ t.0; z = pos v })) (sym r.0) (period_at m n _ (column_y m) (column_z m) t.0 t.1 (z_less_y m t.0) t.2) })
    k

pub enough_beside : (m : Matrix) (n : ℕ) (q : Sizes) (y z zx : ℕ) → AreSizes q → AreWholeFor q m n → AreBeside m n q y z zx → AreEnoughFor (record { x = q.x; y = y; z = z }) m n
enough_beside m n q y z zx s w h =
    let second = second_of m n q y w h.y_to_x in
    let third = third_of m n q z zx w h.z_to_x h.z_to_y in
    enough m n (record { x = q.x; y = y; z = z }) (sizes_beside m n q y z zx s h) (record {
      first = whole_period m n q (record { x = pos 1; y = pos 0; z = pos 0 }) _ w (by_one _ _ _ _ _ _ (once q.x) (never q.y) (never q.z));
      second_x = second.x;
      second = second.period;
      third_x = third.x;
      third_y = third.y;
      third = third.period;
    })

-- ---- columns as they are passed on

abbrev passed : Column → Column
passed c = record { x = back w32 c.x; y = back w32 c.y; z = back w32 c.z }

passed_is : (c : Column) → AreWithin 384 c.x c.y c.z → passed c ≡ c
passed_is c p = λ i. record { x = kept w32 384 c.x p.first tt i; y = kept w32 384 c.y p.second tt i; z = kept w32 384 c.z p.third tt i }

beside_passed : (size known : ℕ) (a b : Column) (n : ℕ) → AreWithin 384 a.x a.y a.z → AreWithin 384 b.x b.y b.z → IsBeside size known (passed a) (passed b) n → IsBeside size known a b n
beside_passed size known a b n p q h = subst (λ v. IsBeside size known v b n) (passed_is a p) (subst (λ v. IsBeside size known (passed a) v n) (passed_is b q) h)

pub all_passed : (m : Matrix) (n : ℕ) (q : Sizes) (y z zx : ℕ) → HasEntriesWithin 384 m → IsBeside y q.y (passed (column_x m)) (passed (column_y m)) n → IsBeside zx q.z (passed (column_x m)) (passed (column_z m)) n → IsBeside z zx (passed (column_y m)) (passed (column_z m)) n → AreBeside m n q y z zx
all_passed m n q y z zx r a b c =
    let p : AreWithin 384 m.xx m.yx m.zx = record { first = r.x.first; second = r.y.first; third = r.z.first } in
    let s : AreWithin 384 m.xy m.yy m.zy = record { first = r.x.second; second = r.y.second; third = r.z.second } in
    let t : AreWithin 384 m.xz m.yz m.zz = record { first = r.x.third; second = r.y.third; third = r.z.third } in
    record { y_to_x = beside_passed y q.y (column_x m) (column_y m) n p s a; z_to_x = beside_passed zx q.z (column_x m) (column_z m) n p t b; z_to_y = beside_passed z zx (column_y m) (column_z m) n s t c }
