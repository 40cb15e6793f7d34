-- The point c x, as it is computed.
use Rattle.std.proofs.Common.{◌≡◌, ◌↔◌, ◌≤◌, ◌-◌, ◌^◌, ◌∷◌, [], ℤ, pos, ◌*ℤ◌, ◌<ℤ◌, ◌≤ℤ◌, unsigned_abs, List, w32, FitsSigned, to_z-of_z, ap, sym, ◌∙◌, subst, refl}
use mir.Syntax.{w128}
use Rattle.std.specs.Int.{int_rem_euclid}
use Rattle.lattice_algebra.specs.Matrix.{Matrix, Column, ◌·ᶜ◌, ◌+ᶜ◌, times}
use Rattle.lattice_algebra.specs.Operator.{Operator, AreParts, AreWithin, HasEntriesWithin}
use Rattle.lattice_algebra.specs.Map.{map_of}
use Rattle.lattice_algebra.specs.Point.{Point, ◌≈◌, image, HasCoordinatesWithin}
use Rattle.lattice_algebra.proofs.Machine.{back, kept}
use Rattle.lattice_algebra.proofs.Points.{≈_sym, IsPoint-image, HasCoordinatesWithin-same}
use Rattle.lattice_algebra.proofs.Ring.{one_times}
use Rattle.exact_ops.specs.declared.TheConstants.{UNIT, MAX_ENTRY, MAX_COORDINATE, MAX_DENOMINATOR}
use Rattle.exact_ops.specs.Points.{point_with, IsPointInRange}
use Rattle.exact_ops.proofs.Narrow.{some_parts, AreWithin-parts}
use Rattle.exact_ops.proofs.Bounds.{denominator_bound, numerator_bound, numerators_within, kept_denominator, kept_numerator}
use Rattle.exact_ops.proofs.Images.{numerator, numerators, numerators_are, unit_part, unit_part_size, IsUnitPart-computed, IsComputed}
use Rattle.space_groups.specs.Bases.{CoordinateChange, changed_point}

-- ---- the numerators

numerator_is : (a b c t : ℤ) (n : Column) (part r : ℤ) → AreWithin MAX_ENTRY a b c → unsigned_abs t ≤ UNIT - 1 → AreWithin numerator_bound n.x n.y n.z → unsigned_abs part ≤ MAX_DENOMINATOR ^ 3
    → r ≡ numerator (back w32 a) (back w32 b) (back w32 c) (back w32 t) (record { x = back w128 n.x; y = back w128 n.y; z = back w128 n.z }) (back w128 part) → r ≡ numerator a b c t n part
numerator_is a b c t n part r h k l m e =
    e ∙ λ i. numerator (kept w32 MAX_ENTRY a h.first tt i) (kept w32 MAX_ENTRY b h.second tt i) (kept w32 MAX_ENTRY c h.third tt i) (kept w32 (UNIT - 1) t k tt i)
    (record { x = kept_numerator n.x l.first i; y = kept_numerator n.y l.second i; z = kept_numerator n.z l.third i }) (kept w128 (MAX_DENOMINATOR ^ 3) part m tt i)

pub image_computed : (f : Operator) (p : Point) (u x y z : ℤ) → HasEntriesWithin MAX_ENTRY f.w → AreParts UNIT f.t → IsPointInRange p → u ≡ pos UNIT → (FitsSigned w128 x) × (FitsSigned w128 y) × (FitsSigned w128 z)
    → IsComputed f.w.xx f.w.xy f.w.xz f.t.x p (unit_part p.d u) x → IsComputed f.w.yx f.w.yy f.w.yz f.t.y p (unit_part p.d u) y → IsComputed f.w.zx f.w.zy f.w.zz f.t.z p (unit_part p.d u) z
    → point_with (back w128 x ∷ back w128 y ∷ back w128 z ∷ []) p.d ≈ image UNIT (map_of f) p
image_computed f p u x y z w v r e k g h i =
    let t = AreWithin-parts f.t v in
    let s = numerators_within p r in
    let q = unit_part_size p u r e in
    let same : point_with (back w128 x ∷ back w128 y ∷ back w128 z ∷ []) p.d ≡ record { n = numerators f p.n (unit_part p.d u); d = p.d } =
    λ j. record {
      n = record {
        x = (to_z-of_z k.0 ∙ numerator_is f.w.xx f.w.xy f.w.xz f.t.x p.n (unit_part p.d u) x w.x t.first s q g) j;
        y = (to_z-of_z k.1 ∙ numerator_is f.w.yx f.w.yy f.w.yz f.t.y p.n (unit_part p.d u) y w.y t.second s q h) j;
        z = (to_z-of_z k.2 ∙ numerator_is f.w.zx f.w.zy f.w.zz f.t.z p.n (unit_part p.d u) z w.z t.third s q i) j;
      };
      d = p.d;
    } in
    subst (λ v. v ≈ image UNIT (map_of f) p) (sym same) (numerators_are f p.n p.d (unit_part p.d u) (IsUnitPart-computed p u r e))

-- ---- the point

-- over a denominator of 1 a change maps points as an operator does
image_by : (w : Matrix) (t : Column) (p : Point) → image UNIT (map_of (record { w = w; t = t })) p ≡ changed_point UNIT (record { w = w; t = t; d = pos 1 }) p
unfolding image changed_point
image_by w t p = ap (λ d. record { n = times (pos UNIT) (w ·ᶜ p.n) +ᶜ times d t; d = pos UNIT *ℤ d }) (sym (one_times p.d))

-- a point with the numerators of c p, as it is stored
pub record IsThere (c : CoordinateChange) (p q : Point) : Type 0 where
  pub denominator : q.d ≡ p.d
  pub equal : q ≈ changed_point UNIT c p
  pub range : HasCoordinatesWithin MAX_COORDINATE q ↔ HasCoordinatesWithin MAX_COORDINATE (changed_point UNIT c p)

pub is_there : (w : Matrix) (t : Column) (c : CoordinateChange) (n : List ℤ) (p : Point) → record { w = w; t = t; d = pos 1 } ≡ c → IsPointInRange p → point_with n p.d ≈ image UNIT (map_of (record { w = w; t = t })) p → IsThere c p (point_with n (back w128 p.d))
is_there w t c n p same r e =
    let v : Point = image UNIT (map_of (record { w = w; t = t })) p in
    let there = image_by w t p ∙ ap (λ k. changed_point UNIT k p) same in
    let q = point_with n p.d in
    let range : HasCoordinatesWithin MAX_COORDINATE q ↔ HasCoordinatesWithin MAX_COORDINATE v =
    (HasCoordinatesWithin-same MAX_COORDINATE q v r.positive e, HasCoordinatesWithin-same MAX_COORDINATE v q (IsPoint-image UNIT some_parts (map_of (record { w = w; t = t })) p r.positive) (≈_sym q v e)) in
    subst (λ d. IsThere c p (point_with n d)) (sym (kept_denominator p r)) (record {
      denominator = refl;
      equal = subst (λ y. q ≈ y) there e;
      range = subst (λ y. HasCoordinatesWithin MAX_COORDINATE q ↔ HasCoordinatesWithin MAX_COORDINATE y) there range;
    })

-- a point over the same denominator
pub IsPointInRange-over : (p q : Point) → IsPointInRange p → q.d ≡ p.d → HasCoordinatesWithin MAX_COORDINATE q → IsPointInRange q
IsPointInRange-over p q r e h = record {
  positive = subst (λ d. pos 0 <ℤ d) (sym e) r.positive;
  multiple = subst (λ d. int_rem_euclid d (pos UNIT) ≡ pos 0) (sym e) r.multiple;
  denominator = subst (λ d. d ≤ℤ pos denominator_bound) (sym e) r.denominator;
  within = h;
}
