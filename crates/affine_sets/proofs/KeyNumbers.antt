-- The matrix of a conjugate, as it is computed.
use Rattle.std.proofs.Common.{◌≤◌, ℤ, ◌+ℤ◌, ◌*ℤ◌, unsigned_abs, arith}
use Rattle.lattice_algebra.specs.Matrix.{Matrix, ◌·◌}
use Rattle.lattice_algebra.specs.Operator.{AreWithin, HasEntriesWithin}
use Rattle.space_groups.proofs.RowSizes.{row_size}

-- a row within 2 times a column within 384
row_turned : (w0 w1 w2 x y z : ℤ) → AreWithin 2 w0 w1 w2 → unsigned_abs x ≤ 384 → unsigned_abs y ≤ 384 → unsigned_abs z ≤ 384 → unsigned_abs (w0 *ℤ x +ℤ w1 *ℤ y +ℤ w2 *ℤ z) ≤ 2304
row_turned w0 w1 w2 x y z w p q r = let l = row_size w0 w1 w2 x y z 384 384 384 p q r in omega (arith, l, w.first, w.second, w.third)

pub half_within : (w m : Matrix) → HasEntriesWithin 2 w → HasEntriesWithin 384 m → HasEntriesWithin 2304 (w · m)
unfolding ◌·◌
half_within w m h k =
    let row : (a b c : ℤ) → AreWithin 2 a b c → AreWithin 2304 (a *ℤ m.xx +ℤ b *ℤ m.yx +ℤ c *ℤ m.zx) (a *ℤ m.xy +ℤ b *ℤ m.yy +ℤ c *ℤ m.zy) (a *ℤ m.xz +ℤ b *ℤ m.yz +ℤ c *ℤ m.zz) = λ a b c u. record {
      first = row_turned a b c m.xx m.yx m.zx u k.x.first k.y.first k.z.first;
      second = row_turned a b c m.xy m.yy m.zy u k.x.second k.y.second k.z.second;
      third = row_turned a b c m.xz m.yz m.zz u k.x.third k.y.third k.z.third;
    } in
    record { x = row w.xx w.xy w.xz h.x; y = row w.yx w.yy w.yz h.y; z = row w.zx w.zy w.zz h.z }
