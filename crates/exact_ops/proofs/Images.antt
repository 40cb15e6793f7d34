-- The numbers that the image of a point is computed from.
use Rattle.std.proofs.Common.{◌≡◌, ◌≤◌, ◌+◌, ◌-◌, ◌*◌, ◌/◌, ◌%◌, ◌^◌, ◌++◌, ℕ, ℤ, pos, negsuc, ◌+ℤ◌, ◌*ℤ◌, ◌<ℤ◌, unsigned_abs, [], ◌∷◌, sym, ap, ap₂, ◌∙◌, subst, arith, w32, to_z-of_z, FitsSigned, le_refl, le_trans}
use Rattle.std.proofs.lemmas.Int.{ints}
use mir.Syntax.{w128}
use lib.Signed.{quot_z}
use Rattle.std.specs.Int.{int_rem_euclid}
use Rattle.lattice_algebra.specs.Matrix.{Matrix, Column, entries, coordinates, sum_of_products, ◌·ᶜ◌, ◌+ᶜ◌, times}
use Rattle.lattice_algebra.specs.Operator.{Operator, AreWithin, HasEntriesWithin}
use Rattle.lattice_algebra.specs.Map.{map_of}
use Rattle.lattice_algebra.specs.Point.{Point, ◌≈◌, image, HasCoordinatesWithin}
use Rattle.lattice_algebra.proofs.Ring.{var, ◌⊕◌, ◌⊗◌}
use Rattle.lattice_algebra.proofs.MatrixRing.{matrix_at, column_at, ◌·ˢᶜ◌, ◌+ˢᶜ◌, sym_times, column_ring}
use Rattle.lattice_algebra.proofs.Machine.{back, kept, value-size}
use Rattle.exact_ops.specs.declared.TheConstants.{UNIT, MAX_COORDINATE, MAX_DENOMINATOR}
use Rattle.exact_ops.specs.Narrow.{IsNarrow}
use Rattle.exact_ops.specs.Points.{point_with, IsPointInRange}
use Rattle.exact_ops.proofs.Narrow.{AreWithin-parts}
use Rattle.exact_ops.proofs.Bounds.{denominator_bound, numerator_bound, image_limit, denominator_within, numerators_within, kept_denominator, kept_numerator, passed}

-- ---- one part of a cell

-- the numerator of one part of a cell
pub record IsUnitPart (d part : ℤ) : Type 0 where
  pub whole : d ≡ pos UNIT *ℤ part
  pub size : UNIT * unsigned_abs part ≡ unsigned_abs d

exact_part : (n : ℕ) → n % UNIT ≡ 0 → UNIT * (n / UNIT) ≡ n
exact_part n e = omega arith

part_of : (d : ℤ) → pos 0 <ℤ d → int_rem_euclid d (pos UNIT) ≡ pos 0 → IsUnitPart d (quot_z d (pos UNIT))
part_of (pos n) p e =
    let f : UNIT * (n / UNIT) ≡ n = exact_part n (omega (arith, ints, e)) in
    record { whole = ap pos (sym f); size = f }
part_of (negsuc n) p e = absurd (omega (arith, ints))

part_within : (d part : ℤ) → IsUnitPart d part → unsigned_abs d ≤ denominator_bound → unsigned_abs part ≤ MAX_DENOMINATOR ^ 3
part_within d part h l = omega (arith, h.size)

-- what the code computes for it
abbrev pub unit_part : ℤ → ℤ → ℤ
unit_part d u = quot_z (back w128 d) (back w128 u)

pub unit_part_is : (p : Point) (u : ℤ) → IsPointInRange p → u ≡ pos UNIT → unit_part p.d u ≡ quot_z p.d (pos UNIT)
unit_part_is p u r e = ap₂ quot_z (kept_denominator p r) (ap (back w128) e)

pub IsUnitPart-computed : (p : Point) (u : ℤ) → IsPointInRange p → u ≡ pos UNIT → IsUnitPart p.d (unit_part p.d u)
IsUnitPart-computed p u r e = subst (IsUnitPart p.d) (sym (unit_part_is p u r e)) (part_of p.d r.positive r.multiple)

pub unit_part_size : (p : Point) (u : ℤ) → IsPointInRange p → u ≡ pos UNIT → unsigned_abs (unit_part p.d u) ≤ MAX_DENOMINATOR ^ 3
unit_part_size p u r e = part_within p.d (unit_part p.d u) (IsUnitPart-computed p u r e) (denominator_within p r)

-- ---- the image

-- one numerator of it
abbrev pub numerator : ℤ → ℤ → ℤ → ℤ → Column → ℤ → ℤ
numerator a b c t n part = sum_of_products a b c n.x n.y n.z +ℤ t *ℤ part

pub numerator_is : (a b c t : ℤ) (n : Column) (part r : ℤ) → AreWithin 2 a b c → unsigned_abs t ≤ UNIT - 1 → AreWithin numerator_bound n.x n.y n.z → unsigned_abs part ≤ MAX_DENOMINATOR ^ 3
    → r ≡ numerator (back w32 a) (back w32 b) (back w32 c) (back w32 t) (record { x = back w128 n.x; y = back w128 n.y; z = back w128 n.z }) (back w128 part) → r ≡ numerator a b c t n part
numerator_is a b c t n part r h k l m e =
    e ∙ λ i. numerator (kept w32 2 a h.first tt i) (kept w32 2 b h.second tt i) (kept w32 2 c h.third tt i) (kept w32 (UNIT - 1) t k tt i)
    (record { x = kept_numerator n.x l.first i; y = kept_numerator n.y l.second i; z = kept_numerator n.z l.third i }) (kept w128 (MAX_DENOMINATOR ^ 3) part m tt i)

abbrev pub numerators : Operator → Column → ℤ → Column
numerators f n part = record {
  x = numerator f.w.xx f.w.xy f.w.xz f.t.x n part;
  y = numerator f.w.yx f.w.yy f.w.yz f.t.y n part;
  z = numerator f.w.zx f.w.zy f.w.zz f.t.z n part;
}

numerators_ring : (w : Matrix) (t n : Column) (u part : ℤ) → times (u *ℤ (u *ℤ part)) (numerators (record { w = w; t = t }) n part) ≡ times (u *ℤ part) (times u (w ·ᶜ n) +ᶜ times (u *ℤ part) t)
unfolding ◌·ᶜ◌ ◌+ᶜ◌ times
numerators_ring w t n u part =
    let U = var 0 in
    let P = var 1 in
    let W = matrix_at 2 in
    let T = column_at 11 in
    let N = column_at 14 in
    column_ring (u ∷ part ∷ (entries w ++ (coordinates t ++ coordinates n)))
    (sym_times (U ⊗ (U ⊗ P)) (W ·ˢᶜ N +ˢᶜ (record { x = T.x ⊗ P; y = T.y ⊗ P; z = T.z ⊗ P })))
    (sym_times (U ⊗ P) (sym_times U (W ·ˢᶜ N) +ˢᶜ sym_times (U ⊗ P) T)) tt

pub numerators_are : (f : Operator) (n : Column) (d part : ℤ) → IsUnitPart d part → record { n = numerators f n part; d = d } ≈ image UNIT (map_of f) (record { n = n; d = d })
unfolding image
numerators_are f n d part h =
    subst (λ k. times (pos UNIT *ℤ k) (numerators f n part) ≡ times k (times (pos UNIT) (f.w ·ᶜ n) +ᶜ times k f.t)) (sym h.whole) (numerators_ring f.w f.t n (pos UNIT) part)

image_size : (d p : ℕ) → UNIT * p ≡ d → 2 * (MAX_COORDINATE * d) + 2 * (MAX_COORDINATE * d) + 2 * (MAX_COORDINATE * d) + (UNIT - 1) * p ≤ image_limit * d
image_size d p e = omega (arith, e)

numerator_size : (a b c t : ℤ) (n : Column) (d part : ℤ) → AreWithin 2 a b c → unsigned_abs t ≤ UNIT - 1 → HasCoordinatesWithin MAX_COORDINATE (record { n = n; d = d }) → IsUnitPart d part → unsigned_abs (numerator a b c t n part) ≤ image_limit * unsigned_abs d
numerator_size a b c t n d part h k l m =
    let m₁ = MAX_COORDINATE * unsigned_abs d in
    le_trans (value-size (2 ∷ 2 ∷ 2 ∷ (UNIT - 1) ∷ m₁ ∷ m₁ ∷ m₁ ∷ unsigned_abs part ∷ []) (a ∷ b ∷ c ∷ t ∷ n.x ∷ n.y ∷ n.z ∷ part ∷ []) (var 0 ⊗ var 4 ⊕ var 1 ⊗ var 5 ⊕ var 2 ⊗ var 6 ⊕ var 3 ⊗ var 7)
    (h.first, (h.second, (h.third, (k, (l.first, (l.second, (l.third, (le_refl (unsigned_abs part), tt)))))))))
    (image_size (unsigned_abs d) (unsigned_abs part) m.size)

pub numerators_within_image : (f : Operator) (n : Column) (d part : ℤ) → HasEntriesWithin 2 f.w → AreWithin (UNIT - 1) f.t.x f.t.y f.t.z → HasCoordinatesWithin MAX_COORDINATE (record { n = n; d = d }) → IsUnitPart d part → HasCoordinatesWithin image_limit (record { n = numerators f n part; d = d })
numerators_within_image f n d part h k l m = record {
  first = numerator_size f.w.xx f.w.xy f.w.xz f.t.x n d part h.x k.first l m;
  second = numerator_size f.w.yx f.w.yy f.w.yz f.t.y n d part h.y k.second l m;
  third = numerator_size f.w.zx f.w.zy f.w.zz f.t.z n d part h.z k.third l m;
}

-- what the code computes from the numbers of an operator and a point
abbrev pub IsComputed : ℤ → ℤ → ℤ → ℤ → Point → ℤ → ℤ → Type 0
IsComputed a b c t p part r =
    r ≡ numerator (back w32 a) (back w32 b) (back w32 c) (back w32 t) (record { x = back w128 p.n.x; y = back w128 p.n.y; z = back w128 p.n.z }) (back w128 part)

pub image_is : (f : Operator) (p : Point) (u x y z : ℤ) → IsNarrow f → IsPointInRange p → u ≡ pos UNIT → (FitsSigned w128 x) × (FitsSigned w128 y) × (FitsSigned w128 z)
    → IsComputed f.w.xx f.w.xy f.w.xz f.t.x p (unit_part p.d u) x → IsComputed f.w.yx f.w.yy f.w.yz f.t.y p (unit_part p.d u) y → IsComputed f.w.zx f.w.zy f.w.zz f.t.z p (unit_part p.d u) z
    → point_with (back w128 x ∷ back w128 y ∷ back w128 z ∷ []) p.d ≡ record { n = numerators f p.n (unit_part p.d u); d = p.d }
image_is f p u x y z n r e k g h i =
    let t = AreWithin-parts f.t n.is_operator.in_cell in
    let s = numerators_within p r in
    let q = unit_part_size p u r e in
    λ j. record {
      n = record {
        x = (to_z-of_z k.0 ∙ numerator_is f.w.xx f.w.xy f.w.xz f.t.x p.n (unit_part p.d u) x n.within_two.x t.first s q g) j;
        y = (to_z-of_z k.1 ∙ numerator_is f.w.yx f.w.yy f.w.yz f.t.y p.n (unit_part p.d u) y n.within_two.y t.second s q h) j;
        z = (to_z-of_z k.2 ∙ numerator_is f.w.zx f.w.zy f.w.zz f.t.z p.n (unit_part p.d u) z n.within_two.z t.third s q i) j;
      };
      d = p.d;
    }

pub image_equals : (f g : Operator) (p : Point) (u : ℤ) (q : Point) → f ≡ g → IsPointInRange p → u ≡ pos UNIT → q ≡ record { n = numerators f p.n (unit_part p.d u); d = p.d } → q ≈ image UNIT (map_of g) p
image_equals f g p u q v r e h =
    subst (λ k. q ≈ image UNIT (map_of k) p) v (subst (λ k. k ≈ image UNIT (map_of f) p) (sym h) (numerators_are f p.n p.d (unit_part p.d u) (IsUnitPart-computed p u r e)))

pub image_within : (f : Operator) (p : Point) (u : ℤ) (q : Point) → IsNarrow f → IsPointInRange p → u ≡ pos UNIT → q ≡ record { n = numerators f p.n (unit_part p.d u); d = p.d } → HasCoordinatesWithin image_limit q
image_within f p u q n r e g = subst (HasCoordinatesWithin image_limit) (sym g) (numerators_within_image f p.n p.d (unit_part p.d u) n.within_two (AreWithin-parts f.t n.is_operator.in_cell) r.within (IsUnitPart-computed p u r e))

pub kept_part : (p : Point) (u : ℤ) → IsPointInRange p → u ≡ pos UNIT → unsigned_abs (back w128 (unit_part p.d u)) ≤ MAX_DENOMINATOR ^ 3
kept_part p u r e = passed w128 (MAX_DENOMINATOR ^ 3) (unit_part p.d u) (unit_part_size p u r e) tt
