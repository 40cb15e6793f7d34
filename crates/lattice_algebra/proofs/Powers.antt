-- The laws of powers: their sum, what they fix, and the powers of the opposite matrix.
use Rattle.std.proofs.Common.{◌≡◌, ◌++◌, ◌∷◌, ◌⊎◌, inl, inr, ⊎_elim, ℕ, zero, suc, ◌+◌, ◌≤◌, ℤ, pos, negsuc, ◌+ℤ◌, ◌*ℤ◌, unsigned_abs, ap, ap₂, sym, ◌∙◌, refl, arith, add-one}
use Rattle.std.proofs.lemmas.Int.{ints}
use Rattle.lattice_algebra.specs.Matrix.{Matrix, Column, entries, coordinates, ◌·◌, ◌·ᶜ◌, ◌+ᶜ◌, ◌+ᵐ◌, times, scaled, origin, identity, no_matrix}
use Rattle.lattice_algebra.specs.Operator.{AreWithin, HasEntriesWithin}
use Rattle.lattice_algebra.specs.Powers.{power, sum_of_powers}
use Rattle.lattice_algebra.proofs.Ring.{var, con, ◌⊕◌, ◌⊗◌}
use Rattle.lattice_algebra.proofs.MatrixRing.{matrix_at, column_at, ◌·ˢ◌, ◌·ˢᶜ◌, ◌+ˢ◌, ◌+ˢᶜ◌, sym_scaled, sym_times, sym_identity, sym_nothing, sym_origin, matrix_ring, column_ring}
use Rattle.lattice_algebra.proofs.Matrices.{·_assoc, ·-identity, identity-·, ·ᶜ_assoc}
use Rattle.lattice_algebra.proofs.Columns.{no_times}
use Rattle.lattice_algebra.proofs.Numbers.{abs_add}

-- ---- sums of matrices

·-+ᵐ : (a b c : Matrix) → a · (b +ᵐ c) ≡ a · b +ᵐ a · c
unfolding ◌·◌ ◌+ᵐ◌
·-+ᵐ a b c =
    let x = matrix_at 0 in
    let y = matrix_at 9 in
    let z = matrix_at 18 in
    matrix_ring (entries a ++ (entries b ++ entries c)) (x ·ˢ (y +ˢ z)) (x ·ˢ y +ˢ x ·ˢ z) tt

swap : (a b c : Matrix) → (a +ᵐ b) +ᵐ c ≡ (a +ᵐ c) +ᵐ b
unfolding ◌+ᵐ◌
swap a b c =
    let x = matrix_at 0 in
    let y = matrix_at 9 in
    let z = matrix_at 18 in
    matrix_ring (entries a ++ (entries b ++ entries c)) ((x +ˢ y) +ˢ z) ((x +ˢ z) +ˢ y) tt

·-no_matrix : (a : Matrix) → a · no_matrix +ᵐ identity ≡ no_matrix +ᵐ identity
unfolding ◌·◌ ◌+ᵐ◌
·-no_matrix a = matrix_ring (entries a) (matrix_at 0 ·ˢ sym_nothing +ˢ sym_identity) (sym_nothing +ˢ sym_identity) tt

without : (a c : Matrix) → (a +ᵐ c) +ᵐ scaled (negsuc 0) c ≡ a
unfolding ◌+ᵐ◌ scaled
without a c = let z = matrix_at 9 in matrix_ring (entries a ++ entries c) (matrix_at 0 +ˢ z +ˢ sym_scaled (con (negsuc 0)) z) (matrix_at 0) tt

cancel_sum : (a b c : Matrix) → a +ᵐ c ≡ b +ᵐ c → a ≡ b
cancel_sum a b c e = sym (without a c) ∙ ap (λ m. m +ᵐ scaled (negsuc 0) c) e ∙ without b c

-- ---- powers

pub power-zero : (w : Matrix) → power w 0 ≡ identity
unfolding power
power-zero w = refl

pub power-more : (w : Matrix) (k : ℕ) → power w (k + 1) ≡ w · power w k
unfolding power
power-more w k = rw add-one refl

pub power-one : (w : Matrix) → power w 1 ≡ w
unfolding power
power-one w = ·-identity w

pub power-add : (w : Matrix) (j k : ℕ) → power w (j + k) ≡ power w j · power w k
power-add w zero k = ap (power w) (let e : 0 + k ≡ k = omega arith in e) ∙ sym (identity-· (power w k)) ∙ ap (λ m. m · power w k) (sym (power-zero w))
power-add w (suc j) k =
    let e : suc j + k ≡ (j + k) + 1 = omega arith in
    let d : j + 1 ≡ suc j = omega arith in
    ap (power w) e ∙ power-more w (j + k) ∙ ap (λ m. w · m) (power-add w j k) ∙ sym (·_assoc w (power w j) (power w k)) ∙ ap (λ m. m · power w k) (sym (power-more w j) ∙ ap (power w) d)

-- ---- the sum of powers

pub sum_of_powers-zero : (w : Matrix) → sum_of_powers w 0 ≡ no_matrix
unfolding sum_of_powers
sum_of_powers-zero w = refl

pub sum_of_powers-more : (w : Matrix) (k : ℕ) → sum_of_powers w (k + 1) ≡ sum_of_powers w k +ᵐ power w k
unfolding sum_of_powers
sum_of_powers-more w k = rw add-one refl

-- W S + I is S + W^k
shifted : (w : Matrix) (k : ℕ) → w · sum_of_powers w k +ᵐ identity ≡ sum_of_powers w k +ᵐ power w k
unfolding power sum_of_powers
shifted w zero = ·-no_matrix w
shifted w (suc k) =
    let s = sum_of_powers w k in
    let p = power w k in
    ap (λ m. m +ᵐ identity) (·-+ᵐ w s p) ∙ swap (w · s) (w · p) identity ∙ ap (λ m. m +ᵐ w · p) (shifted w k)

-- W fixes the sum of its powers where they return
pub ·-sum_of_powers : (w : Matrix) (k : ℕ) → power w k ≡ identity → w · sum_of_powers w k ≡ sum_of_powers w k
·-sum_of_powers w k e = cancel_sum (w · sum_of_powers w k) (sum_of_powers w k) identity (shifted w k ∙ ap (λ m. sum_of_powers w k +ᵐ m) e)

-- ---- what is fixed

identity-·ᶜ : (c : Column) → identity ·ᶜ c ≡ c
unfolding ◌·ᶜ◌
identity-·ᶜ c = column_ring (coordinates c) (sym_identity ·ˢᶜ column_at 0) (column_at 0) tt

power-fixed : (w : Matrix) (k : ℕ) (c : Column) → w ·ᶜ c ≡ c → power w k ·ᶜ c ≡ c
unfolding power
power-fixed w zero c e = identity-·ᶜ c
power-fixed w (suc k) c e = ·ᶜ_assoc w (power w k) c ∙ ap (λ d. w ·ᶜ d) (power-fixed w k c e) ∙ e

pub no_matrix-·ᶜ : (c : Column) → no_matrix ·ᶜ c ≡ origin
unfolding ◌·ᶜ◌
no_matrix-·ᶜ c = column_ring (coordinates c) (sym_nothing ·ˢᶜ column_at 0) sym_origin tt

pub +ᵐ-·ᶜ : (a b : Matrix) (c : Column) → (a +ᵐ b) ·ᶜ c ≡ a ·ᶜ c +ᶜ b ·ᶜ c
unfolding ◌·ᶜ◌ ◌+ᵐ◌ ◌+ᶜ◌
+ᵐ-·ᶜ a b c =
    let x = matrix_at 0 in
    let y = matrix_at 9 in
    let z = column_at 18 in
    column_ring (entries a ++ (entries b ++ coordinates c)) ((x +ˢ y) ·ˢᶜ z) (x ·ˢᶜ z +ˢᶜ y ·ˢᶜ z) tt

once_more : (n : ℤ) (c : Column) → times n c +ᶜ c ≡ times (n +ℤ pos 1) c
unfolding ◌+ᶜ◌ times
once_more n c =
    let v = column_at 1 in
    column_ring (n ∷ coordinates c) (sym_times (var 0) v +ˢᶜ v) (sym_times (var 0 ⊕ con (pos 1)) v) tt

-- a column that W fixes is taken k times
pub sum_of_powers-fixed : (w : Matrix) (k : ℕ) (c : Column) → w ·ᶜ c ≡ c → sum_of_powers w k ·ᶜ c ≡ times (pos k) c
unfolding sum_of_powers
sum_of_powers-fixed w zero c e = no_matrix-·ᶜ c ∙ sym (no_times c)
sum_of_powers-fixed w (suc k) c e =
    let more : pos k +ℤ pos 1 ≡ pos (suc k) = omega (arith, ints) in
    +ᵐ-·ᶜ (sum_of_powers w k) (power w k) c ∙ ap₂ (λ x y. x +ᶜ y) (sum_of_powers-fixed w k c e) (power-fixed w k c e) ∙ once_more (pos k) c ∙ ap (λ n. times n c) more

-- ---- the opposite matrix

scaled-· : (a b : ℤ) (m n : Matrix) → scaled a m · scaled b n ≡ scaled (a *ℤ b) (m · n)
unfolding ◌·◌ scaled
scaled-· a b m n =
    let x = matrix_at 2 in
    let y = matrix_at 11 in
    matrix_ring (a ∷ (b ∷ (entries m ++ entries n))) (sym_scaled (var 0) x ·ˢ sym_scaled (var 1) y) (sym_scaled (var 0 ⊗ var 1) (x ·ˢ y)) tt

one_scaled : (m : Matrix) → scaled (pos 1) m ≡ m
unfolding scaled
one_scaled m = matrix_ring (entries m) (sym_scaled (con (pos 1)) (matrix_at 0)) (matrix_at 0) tt

-- the powers of -W are those of W or their opposites
pub power-opposite : (w : Matrix) (k : ℕ) → (power (scaled (negsuc 0) w) k ≡ power w k) ⊎ (power (scaled (negsuc 0) w) k ≡ scaled (negsuc 0) (power w k))
unfolding power
power-opposite w zero = inl refl
power-opposite w (suc k) =
    let v = scaled (negsuc 0) w in
    let p = power w k in
    ⊎_elim (λ e. inr (ap (λ m. v · m) (e ∙ sym (one_scaled p)) ∙ scaled-· (negsuc 0) (pos 1) w p))
    (λ e. inl (ap (λ m. v · m) e ∙ scaled-· (negsuc 0) (negsuc 0) w p ∙ one_scaled (w · p)))
    (power-opposite w k)

-- ---- sizes

-- what f makes of two rows, number by number, where it takes numbers within j and k to one within n
row_within : {j k n : ℕ} (f : ℤ → ℤ → ℤ) → ((x y : ℤ) → unsigned_abs x ≤ j → unsigned_abs y ≤ k → unsigned_abs (f x y) ≤ n) → (a b c x y z : ℤ) → AreWithin j a b c → AreWithin k x y z → AreWithin n (f a x) (f b y) (f c z)
row_within f s a b c x y z p q = record { first = s a x p.first q.first; second = s b y p.second q.second; third = s c z p.third q.third }

each_within : {j k n : ℕ} (f : ℤ → ℤ → ℤ) → ((x y : ℤ) → unsigned_abs x ≤ j → unsigned_abs y ≤ k → unsigned_abs (f x y) ≤ n) → (a b : Matrix) → HasEntriesWithin j a → HasEntriesWithin k b
    → HasEntriesWithin n (record { xx = f a.xx b.xx; xy = f a.xy b.xy; xz = f a.xz b.xz; yx = f a.yx b.yx; yy = f a.yy b.yy; yz = f a.yz b.yz; zx = f a.zx b.zx; zy = f a.zy b.zy; zz = f a.zz b.zz })
each_within f s a b p q = record { x = row_within f s a.xx a.xy a.xz b.xx b.xy b.xz p.x q.x; y = row_within f s a.yx a.yy a.yz b.yx b.yy b.yz p.y q.y; z = row_within f s a.zx a.zy a.zz b.zx b.zy b.zz p.z q.z }

pub within-opposite : (n : ℕ) (m : Matrix) → HasEntriesWithin n m → HasEntriesWithin n (scaled (negsuc 0) m)
unfolding scaled
within-opposite n m h = each_within (λ x y. negsuc 0 *ℤ x) (λ x y p q. let l : unsigned_abs (negsuc 0 *ℤ x) ≤ n = omega (arith, ints) in l) m m h h

pub within-+ᵐ : (j k n : ℕ) (a b : Matrix) → HasEntriesWithin j a → HasEntriesWithin k b → j + k ≡ n → HasEntriesWithin n (a +ᵐ b)
unfolding ◌+ᵐ◌
within-+ᵐ j k n a b p q e = each_within (λ x y. x +ℤ y) (λ x y l m. let t : unsigned_abs (x +ℤ y) ≤ n = omega (arith, abs_add x y) in t) a b p q
