-- Common divisors of the entries of a column, and what is left when it is divided by them.
use Rattle.std.proofs.Common.{◌≡◌, ◌≢◌, ◌∷◌, [], ℕ, suc, ◌*◌, ◌^◌, ◌<◌, ◌≤◌, ℤ, pos, negsuc, ◌-ℤ◌, ◌*ℤ◌, neg_ℤ, unsigned_abs, int_div, FitsSigned, w32, to_z, of_z, ap, ap₂, sym, subst, ◌∙◌, refl, arith, le_trans}
use Rattle.std.specs.Int.{IsGcd, ◌∣◌}
use Rattle.std.proofs.lemmas.Int.{ints, unsigned_abs-mul, fits_signed_from_abs, to_z-of_z}
use Rattle.std.proofs.lemmas.Nat.Gcd.{le_of_dvd, dvd_trans}
use Rattle.std.proofs.Math.Nat.{pos_of_dvd_of_pos, dvd-mul_right, dvd_of_mul-dvd-mul_left, le-mul_of_pos_right}
use Rattle.lattice_algebra.specs.Matrix.{Column, coordinates, times, origin}
use Rattle.lattice_algebra.specs.Operator.{AreWithin}
use Rattle.lattice_algebra.proofs.Ring.{var, con, ◌⊗◌, neg, ring}
use Rattle.lattice_algebra.proofs.Quotients.{rem_of_multiple, multiple_of_quotient, signed_multiple}
use lib.IntN.{*ℤ_comm}
use Rattle.lattice_algebra.proofs.Columns.{times-times, cancel_times, times_origin}
use Rattle.lattice_algebra.proofs.Numbers.{some_size, some_gcd, abs_mul}
use Rattle.lattice_algebra.proofs.MatrixRing.{column_at, sym_times, column_ring}
use Rattle.group_closure.specs.declared.TheConstants.{MAX_OPERATORS}
use Rattle.op_types.specs.Axis.{HasNoDivisor}
use Rattle.op_types.specs.Vector.{Divides}
use Rattle.op_types.proofs.Directions.{leading, leading_times, no_leading, leading_within}

-- ---- exact division

pub exact_quotient : (n d q : ℤ) → d ≢ pos 0 → n ≡ d *ℤ q → n ≡ d *ℤ int_div n d
exact_quotient n d q some e = multiple_of_quotient n d (rem_of_multiple n d q (some_size d some) (e ∙ *ℤ_comm d q)) ∙ *ℤ_comm (int_div n d) d

-- it is no greater than what was divided
pub quotient_fits : (n d q : ℤ) (b : ℕ) → d ≢ pos 0 → n ≡ d *ℤ q → unsigned_abs n ≤ b → b < 2 ^ 31 → FitsSigned w32 q
quotient_fits n d q b some e l m =
    let s : unsigned_abs n ≡ unsigned_abs d * unsigned_abs q = ap unsigned_abs e ∙ unsigned_abs-mul d q in
    let le : unsigned_abs q ≤ unsigned_abs q * unsigned_abs d = le-mul_of_pos_right (unsigned_abs q) (some_size d some) in
    fits_signed_from_abs w32 q (omega (arith, s, le))

-- ---- the greatest common divisor of three entries

divides_entry : (x d b : ℤ) → x ≡ d *ℤ b → unsigned_abs d ∣ unsigned_abs x
divides_entry x d b e = subst (λ n. unsigned_abs d ∣ n) (sym (ap unsigned_abs e ∙ unsigned_abs-mul d b)) (dvd-mul_right (unsigned_abs d) (unsigned_abs b))

-- g is the greatest common divisor of the entries of c
pub record IsDivisorOf (c : Column) (g : ℕ) : Type 0 where
  pub positive : 0 < g
  pub divides : Divides (pos g) c
  pub greatest : (d : ℤ) → Divides d c → unsigned_abs d ∣ g

-- a divisor divides the first entry other than 0
divides_leading : (g : ℕ) (c : Column) → c ≢ origin → Divides (pos g) c → (0 < unsigned_abs (leading c)) × (g ∣ unsigned_abs (leading c))
divides_leading g c some h = (some_size (leading c) (λ z. some (no_leading c z)), divides_entry (leading c) (pos g) (leading h.0) (ap leading h.1 ∙ leading_times (pos g) h.0))

-- and is no greater than the entries
pub divisor_within : (n g : ℕ) (c : Column) → c ≢ origin → Divides (pos g) c → AreWithin n c.x c.y c.z → g ≤ n
divisor_within n g c some h w = let d = divides_leading g c some h in le_trans (le_of_dvd d.0 d.1) (leading_within n c w)

pub divisor_by : (c : Column) (r g : ℕ) → c ≢ origin → IsGcd (unsigned_abs c.y) (unsigned_abs c.z) r → IsGcd (unsigned_abs c.x) r g → IsDivisorOf c g
unfolding times
divisor_by c r g some inner outer =
    let x = signed_multiple c.x g outer.0 in
    let y = signed_multiple c.y g (dvd_trans g outer.1 inner.0) in
    let z = signed_multiple c.z g (dvd_trans g outer.1 inner.1) in
    let divides : Divides (pos g) c = (record { x = x.0; y = y.0; z = z.0 }, λ i. record { x = x.1 i; y = y.1 i; z = z.1 i }) in
    let d = divides_leading g c some divides in
    record {
      positive = pos_of_dvd_of_pos d.1 d.0;
      divides = divides;
      greatest = λ d h. outer.2 (unsigned_abs d) (divides_entry c.x d h.0.x (ap (λ (v : Column). v.x) h.1)) (inner.2 (unsigned_abs d) (divides_entry c.y d h.0.y (ap (λ (v : Column). v.y) h.1)) (divides_entry c.z d h.0.z (ap (λ (v : Column). v.z) h.1)));
    }

pub some_divisor : (c : Column) → c ≢ origin → (g : ℕ) × IsDivisorOf c g
some_divisor c some =
    let inner = some_gcd (unsigned_abs c.y) (unsigned_abs c.z) in
    let outer = some_gcd (unsigned_abs c.x) inner.0 in
    (outer.0, divisor_by c inner.0 outer.0 some inner.1 outer.1)

-- ---- what is left has no divisor

pub no_divisor_left : (k : ℤ) (c a : Column) → k ≢ pos 0 → c ≡ times k a → ((d : ℤ) → Divides d c → unsigned_abs d ∣ unsigned_abs k) → HasNoDivisor a
no_divisor_left k c a some e greatest d b h =
    let both : unsigned_abs (k *ℤ pos d) ∣ unsigned_abs k = greatest (k *ℤ pos d) (b, e ∙ ap (times k) h ∙ times-times k (pos d) b) in
    let one : unsigned_abs k * d ∣ unsigned_abs k * 1 = subst (λ n. unsigned_abs k * d ∣ n) (omega arith) (subst (λ n. n ∣ unsigned_abs k) (unsigned_abs-mul k (pos d)) both) in
    le_of_dvd (omega arith) (dvd_of_mul-dvd-mul_left d (some_size k some) one)

-- the opposite of a divisor is a divisor
pub opposite_divides : (k : ℤ) (c : Column) → Divides k c → Divides (neg_ℤ k) c
unfolding times
opposite_divides k c h =
    let b = h.0 in
    (times (negsuc 0) b, h.1 ∙ column_ring (k ∷ coordinates b) (sym_times (var 0) (column_at 1)) (sym_times (neg (var 0)) (sym_times (con (negsuc 0)) (column_at 1))) tt)

-- each divisor of a multiple of a column without divisor divides the factor
pub whole_divisor : (k : ℤ) (a : Column) → k ≢ pos 0 → a ≢ origin → HasNoDivisor a → (d : ℤ) → Divides d (times k a) → unsigned_abs d ∣ unsigned_abs k
whole_divisor k a some_k some whole d h =
    let g = some_divisor (times k a) (λ z. some (cancel_times k a origin some_k (z ∙ sym (times_origin k)))) in
    let b = g.1.divides.0 in
    let divides : unsigned_abs k ∣ g.0 = g.1.greatest k (a, refl) in
    let j = factor_of k (pos g.0) divides in
    let one = no_greater j.0 a b whole (cancel_times k a (times j.0 b) some_k (g.1.divides.1 ∙ ap (λ n. times n b) j.1 ∙ sym (times-times k j.0 b))) in
    let above : g.0 ≤ unsigned_abs k * 1 = subst (λ n. unsigned_abs n ≤ unsigned_abs k * 1) (sym j.1) (abs_mul k j.0 1 one) in
    let below = le_of_dvd g.1.positive divides in
    let same : g.0 ≡ unsigned_abs k = omega (arith, above, below) in
    subst (λ n. unsigned_abs d ∣ n) same (g.1.greatest d h)
  where
    no_greater : (j : ℤ) (a b : Column) → HasNoDivisor a → a ≡ times j b → unsigned_abs j ≤ 1
    no_greater (pos n) a b whole e = whole n b e
    no_greater (negsuc n) a b whole e = let o = opposite_divides (negsuc n) a (b, e) in whole (suc n) o.0 o.1

    factor_of : (k x : ℤ) → unsigned_abs k ∣ unsigned_abs x → (j : ℤ) × (x ≡ k *ℤ j)
    factor_of (pos n) x h = signed_multiple x n h
    factor_of (negsuc n) x h = let r = signed_multiple x (suc n) h in (neg_ℤ r.0, r.1 ∙ ring (pos (suc n) ∷ r.0 ∷ []) (var 0 ⊗ var 1) (neg (var 0) ⊗ neg (var 1)) tt)

-- ---- what the code computes

size_of : (x : ℤ) (n : ℕ) → unsigned_abs x ≤ 2 * MAX_OPERATORS → n ≡ unsigned_abs (to_z w32 (of_z w32 x)) → n ≡ unsigned_abs x
size_of x n l e = omega (arith, ints)

pub as_signed : (g : ℕ) → g ≤ 2 * MAX_OPERATORS → to_z w32 g ≡ pos g
as_signed g l = omega (arith, ints)

pub divisor_of : (c : Column) (y z x r g : ℕ) → c ≢ origin → AreWithin (2 * MAX_OPERATORS) c.x c.y c.z
    → y ≡ unsigned_abs (to_z w32 (of_z w32 c.y)) → z ≡ unsigned_abs (to_z w32 (of_z w32 c.z)) → x ≡ unsigned_abs (to_z w32 (of_z w32 c.x)) → IsGcd y z r → IsGcd x r g → IsDivisorOf c g
divisor_of c y z x r g some w ey ez ex i o =
    let inner = subst (λ n. IsGcd n (unsigned_abs c.z) r) (size_of c.y y w.second ey) (subst (λ n. IsGcd y n r) (size_of c.z z w.third ez) i) in
    let outer = subst (λ n. IsGcd n r g) (size_of c.x x w.first ex) o in
    divisor_by c r g some inner outer

pub same_back : (z : ℤ) → unsigned_abs z ≤ 2 * MAX_OPERATORS → to_z w32 (of_z w32 z) ≡ z
same_back z l = omega (arith, ints)

pub opposite_back : (z : ℤ) → unsigned_abs z ≤ 2 * MAX_OPERATORS → to_z w32 (of_z w32 (pos 0 -ℤ to_z w32 (of_z w32 z))) ≡ neg_ℤ z
opposite_back z l = omega (arith, ints)

-- an entry and a divisor that were passed to a function
pub entry_divides : (x k b : ℤ) → unsigned_abs x ≤ 2 * MAX_OPERATORS → unsigned_abs k ≤ 2 * MAX_OPERATORS → x ≡ k *ℤ b → (q : ℤ) × (to_z w32 (of_z w32 x) ≡ to_z w32 (of_z w32 k) *ℤ q)
entry_divides x k b l m e = (b, same_back x l ∙ e ∙ ap (λ v. v *ℤ b) (sym (same_back k m)))

entry_quotient : (x k q : ℤ) → unsigned_abs x ≤ 2 * MAX_OPERATORS → unsigned_abs k ≤ 2 * MAX_OPERATORS → FitsSigned w32 q → to_z w32 (of_z w32 x) ≡ to_z w32 (of_z w32 k) *ℤ q → x ≡ k *ℤ to_z w32 (of_z w32 q)
entry_quotient x k q l m f e = sym (same_back x l) ∙ e ∙ ap₂ (λ u v. u *ℤ v) (same_back k m) (sym (to_z-of_z w32 q f))

pub column_quotient : (c : Column) (k x y z : ℤ) → AreWithin (2 * MAX_OPERATORS) c.x c.y c.z → unsigned_abs k ≤ 2 * MAX_OPERATORS → (FitsSigned w32 x) × (FitsSigned w32 y) × (FitsSigned w32 z)
    → to_z w32 (of_z w32 c.x) ≡ to_z w32 (of_z w32 k) *ℤ x → to_z w32 (of_z w32 c.y) ≡ to_z w32 (of_z w32 k) *ℤ y → to_z w32 (of_z w32 c.z) ≡ to_z w32 (of_z w32 k) *ℤ z
    → c ≡ times k (record { x = to_z w32 (of_z w32 x); y = to_z w32 (of_z w32 y); z = to_z w32 (of_z w32 z) })
unfolding times
column_quotient c k x y z w m f ex ey ez = λ i. record { x = entry_quotient c.x k x w.first m f.0 ex i; y = entry_quotient c.y k y w.second m f.1 ey i; z = entry_quotient c.z k z w.third m f.2 ez i }
