-- The least numbers that make the columns of a matrix whole, by greatest common divisors.
use Rattle.std.proofs.Common.{◌≡◌, ◌++◌, ◌∷◌, [], ◌≤◌, ◌<◌, ◌*◌, ◌/◌, ℕ, ℤ, pos, ◌*ℤ◌, unsigned_abs, w32, ap, sym, subst, ◌∙◌, arith}
use Rattle.std.specs.Int.{IsGcd, ◌∣◌}
use Rattle.std.proofs.lemmas.Int.{unsigned_abs-mul}
use Rattle.std.proofs.lemmas.Nat.Gcd.{dvd_trans}
use Rattle.std.proofs.Math.Nat.{mul-div_cancel', pos_of_dvd_of_pos, dvd-mul_right}
use Rattle.lattice_algebra.specs.Matrix.{Matrix, Column, entries, coordinates, scaled, ◌·◌}
use Rattle.lattice_algebra.proofs.Ring.{var, ◌⊗◌, ring}
use Rattle.lattice_algebra.proofs.MatrixRing.{matrix_at, column_at, ◌·ˢ◌, matrix_ring}
use Rattle.space_groups.proofs.FirstCell.{sym_diagonals}
use Rattle.lattice_algebra.proofs.Quotients.{signed_multiple}
use Rattle.lattice_algebra.proofs.Machine.{back, kept}
use Rattle.group_closure.specs.declared.TheConstants.{MAX_OPERATORS}
use Rattle.affine_sets.proofs.Held.{entry_below}
use Rattle.space_groups.specs.Regions.{diagonal}
use Rattle.affine_sets.specs.declared.keys.Sizes.{Sizes}
use Rattle.affine_sets.specs.Conjugates.{AreWholeFor}

-- d divides all three numbers and over
pub record IsCommon (a b c : ℤ) (over d : ℕ) : Type 0 where
  pub some : 0 < d
  pub whole : d ∣ over
  pub first : d ∣ unsigned_abs a
  pub second : d ∣ unsigned_abs b
  pub third : d ∣ unsigned_abs c

pub common : (a b c : ℤ) (over x y z : ℕ) → 0 < over → IsGcd (unsigned_abs a) over x → IsGcd (unsigned_abs b) x y → IsGcd (unsigned_abs c) y z → IsCommon a b c over z
common a b c over x y z some f g h =
    let whole : z ∣ over = dvd_trans z h.1 (dvd_trans y g.1 f.1) in
    record {
      some = pos_of_dvd_of_pos whole some;
      whole = whole;
      first = dvd_trans z h.1 (dvd_trans y g.1 f.0);
      second = dvd_trans z h.1 g.0;
      third = h.0;
    }

-- a number divides the size of each multiple of it
pub divides_multiple : (x : ℤ) (g : ℕ) (b : ℤ) → x ≡ pos g *ℤ b → g ∣ unsigned_abs x
divides_multiple x g b e = subst (λ n. g ∣ n) (sym (ap unsigned_abs e ∙ unsigned_abs-mul (pos g) b)) (dvd-mul_right g (unsigned_abs b))

-- q times a is a multiple of over
abbrev pub IsWholeEntry : ℤ → ℕ → ℕ → Type 0
IsWholeEntry a q over = (k : ℤ) × (a *ℤ pos q ≡ pos over *ℤ k)

swapped : (d b q : ℤ) → d *ℤ b *ℤ q ≡ d *ℤ q *ℤ b
swapped d b q = ring (d ∷ b ∷ q ∷ []) (var 0 ⊗ var 1 ⊗ var 2) (var 0 ⊗ var 2 ⊗ var 1) tt

pub whole_entry : (a : ℤ) (over d : ℕ) → d ∣ over → d ∣ unsigned_abs a → (k : ℤ) × (a *ℤ pos (over / d) ≡ pos over *ℤ k)
whole_entry a over d h k =
    let b = signed_multiple a d k in
    (b.0, ap (λ v. v *ℤ pos (over / d)) b.1 ∙ swapped (pos d) b.0 (pos (over / d)) ∙ ap (λ v. pos v *ℤ b.0) (mul-div_cancel' d h))

-- an entry as it is passed on
pub whole_kept : (a : ℤ) (q over : ℕ) → over ≤ MAX_OPERATORS → unsigned_abs a ≤ 2 * over → IsWholeEntry (back w32 a) q over → IsWholeEntry a q over
whole_kept a q over l s h = subst (λ v. IsWholeEntry v q over) (kept w32 384 a (entry_below over a l s) tt) h

pub some_size : (over d : ℕ) → 0 < over → d ∣ over → 0 < over / d
some_size over d some h = let e = mul-div_cancel' d h in at (over / d) e
  where
    at : (q : ℕ) → d * q ≡ over → 0 < q
    at q e = grind (arith, some)

-- ---- the columns

pub on_columns : (m : Matrix) (q : Column) → m · diagonal q ≡ record { xx = m.xx *ℤ q.x; xy = m.xy *ℤ q.y; xz = m.xz *ℤ q.z; yx = m.yx *ℤ q.x; yy = m.yy *ℤ q.y; yz = m.yz *ℤ q.z; zx = m.zx *ℤ q.x; zy = m.zy *ℤ q.y; zz = m.zz *ℤ q.z }
unfolding ◌·◌ diagonal
on_columns m q = matrix_ring (entries m ++ coordinates q) (matrix_at 0 ·ˢ sym_diagonals (column_at 9)) (record { xx = var 0 ⊗ var 9; xy = var 1 ⊗ var 10; xz = var 2 ⊗ var 11; yx = var 3 ⊗ var 9; yy = var 4 ⊗ var 10; yz = var 5 ⊗ var 11; zx = var 6 ⊗ var 9; zy = var 7 ⊗ var 10; zz = var 8 ⊗ var 11 }) tt

pub columns_whole : (m : Matrix) (q : Sizes) (n : ℕ) → IsWholeEntry m.xx q.x n → IsWholeEntry m.xy q.y n → IsWholeEntry m.xz q.z n → IsWholeEntry m.yx q.x n → IsWholeEntry m.yy q.y n → IsWholeEntry m.yz q.z n → IsWholeEntry m.zx q.x n → IsWholeEntry m.zy q.y n → IsWholeEntry m.zz q.z n → AreWholeFor q m n
unfolding scaled
columns_whole m q n xx xy xz yx yy yz zx zy zz = (
  record { xx = xx.0; xy = xy.0; xz = xz.0; yx = yx.0; yy = yy.0; yz = yz.0; zx = zx.0; zy = zy.0; zz = zz.0 },
  on_columns m (record { x = pos q.x; y = pos q.y; z = pos q.z }) ∙ λ i. record { xx = xx.1 i; xy = xy.1 i; xz = xz.1 i; yx = yx.1 i; yy = yy.1 i; yz = yz.1 i; zx = zx.1 i; zy = zy.1 i; zz = zz.1 i },
)
