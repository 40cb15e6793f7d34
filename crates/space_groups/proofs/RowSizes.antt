-- How large the product of a row and a column is.
use Rattle.std.proofs.Common.{ℕ, ◌+◌, ◌*◌, ◌≤◌, ℤ, ◌+ℤ◌, ◌*ℤ◌, unsigned_abs, arith}
use Rattle.lattice_algebra.proofs.Numbers.{abs_add, abs_mul}

pub row_size : (m0 m1 m2 r0 r1 r2 : ℤ) (b0 b1 b2 : ℕ) → unsigned_abs r0 ≤ b0 → unsigned_abs r1 ≤ b1 → unsigned_abs r2 ≤ b2
    → unsigned_abs (m0 *ℤ r0 +ℤ m1 *ℤ r1 +ℤ m2 *ℤ r2) ≤ unsigned_abs m0 * b0 + unsigned_abs m1 * b1 + unsigned_abs m2 * b2
row_size m0 m1 m2 r0 r1 r2 b0 b1 b2 q0 q1 q2 =
    omega (arith, abs_add (m0 *ℤ r0 +ℤ m1 *ℤ r1) (m2 *ℤ r2), abs_add (m0 *ℤ r0) (m1 *ℤ r1), abs_mul m0 r0 b0 q0, abs_mul m1 r1 b1 q1, abs_mul m2 r2 b2 q2)
