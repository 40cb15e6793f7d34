-- An element that fixes a point near the origin has a small whole shift. So the average of a point of the cell is one of a group with
-- small shifts.
use Rattle.std.proofs.Common.{◌≡◌, ◌<◌, ◌≤◌, ◌+◌, ◌*◌, ℕ, ℤ, pos, ◌+ℤ◌, ◌*ℤ◌, ◌≤ℤ◌, ◌<ℤ◌, unsigned_abs, List, get_or, ap, sym, ◌∙◌, arith, mul-le-mul, le_refl}
use Rattle.std.proofs.lemmas.Int.{ints, unsigned_abs-mul}
use Rattle.std.proofs.lemmas.List.Elements.{Contains-get_or}
use native.Mathlib.Nat.{le_of_mul-le-mul_left}
use Rattle.lattice_algebra.specs.Matrix.{Column, ◌·ᶜ◌, ◌+ᶜ◌, times}
use Rattle.lattice_algebra.specs.Operator.{Operator, AreWithin, IsPart, HasEntriesWithin, modulo}
use Rattle.lattice_algebra.specs.Map.{Map, IsShift}
use Rattle.lattice_algebra.specs.Point.{Point, IsPoint, ◌≈◌}
use Rattle.lattice_algebra.proofs.Numbers.{positive_size}
use Rattle.lattice_algebra.proofs.Remainders.{modulo_parts}
use Rattle.exact_ops.specs.declared.TheConstants.{UNIT}
use Rattle.exact_ops.proofs.Narrow.{some_parts}
use Rattle.group_closure.specs.GroupList.{IsGroup}
use Rattle.site_symmetry.proofs.SpaceOfGroup.{space_of}
use Rattle.space_groups.specs.Space.{IsInCell, ScaledPoint, moved, point_of}
use Rattle.space_groups.specs.Averages.{Block}
use Rattle.space_groups.specs.Rows.{IsSpecial}
use Rattle.space_groups.proofs.Elements.{SpaceGroup}
use Rattle.space_groups.proofs.Points.{scaled_of, site-scaled}
use Rattle.space_groups.proofs.RowSizes.{row_size}
use Rattle.affine_sets.specs.declared.TheConstants.{MAX_GROWN_SHIFT}
use Rattle.affine_sets.specs.Conditions.{IsAverage}
use Rattle.affine_sets.proofs.Groups.{narrow_element}
use Rattle.affine_sets.proofs.SitesOfPoints.{site_sub}

-- one row of n s = t - W t, where s is t' + UNIT k
shift_row : (w0 w1 w2 t0 t1 t2 t s p k : ℤ) (n : ℕ) → 0 < n → AreWithin 2 w0 w1 w2 → AreWithin (n * (UNIT * 51)) t0 t1 t2 → unsigned_abs t ≤ n * (UNIT * 51) → (w0 *ℤ t0 +ℤ w1 *ℤ t1 +ℤ w2 *ℤ t2) +ℤ pos n *ℤ s ≡ t → s ≡ p +ℤ pos UNIT *ℤ k → IsPart UNIT p
    → unsigned_abs k ≤ 358
shift_row w0 w1 w2 t0 t1 t2 t s p k n some w h g e f part =
    let b = n * (UNIT * 51) in
    let row = w0 *ℤ t0 +ℤ w1 *ℤ t1 +ℤ w2 *ℤ t2 in
    let size = row_size w0 w1 w2 t0 t1 t2 b b b h.first h.second h.third in
    let c0 : unsigned_abs w0 * b ≤ 2 * b = mul-le-mul w.first (le_refl b) in
    let c1 : unsigned_abs w1 * b ≤ 2 * b = mul-le-mul w.second (le_refl b) in
    let c2 : unsigned_abs w2 * b ≤ 2 * b = mul-le-mul w.third (le_refl b) in
    let l : n * unsigned_abs s ≤ n * (UNIT * 357) = omega (arith, moved_size row t (pos n *ℤ s) e, unsigned_abs-mul (pos n) s) in
    last s p k (le_of_mul-le-mul_left l some) f part
  where
    moved_size : (r t x : ℤ) → r +ℤ x ≡ t → unsigned_abs x ≤ unsigned_abs t + unsigned_abs r
    moved_size r t x e = omega (arith, ints, e)

    last : (s p k : ℤ) → unsigned_abs s ≤ UNIT * 357 → s ≡ p +ℤ pos UNIT *ℤ k → IsPart UNIT p → unsigned_abs k ≤ 358
    last s p k h e q = omega (arith, ints)

pub fixing_shift_small : (e : Map) (t k : Column) (n : ℕ) (some : 0 < n) → HasEntriesWithin 2 e.w → AreWithin (n * (UNIT * 51)) t.x t.y t.z → moved e (record { n = t; d = n; some = some }) ≡ record { n = t; d = n; some = some } → IsShift UNIT e k → AreWithin MAX_GROWN_SHIFT k.x k.y k.z
unfolding moved ◌·ᶜ◌ ◌+ᶜ◌ times
fixing_shift_small e t k n some w h fix s =
    let c : e.w ·ᶜ t +ᶜ times (pos n) e.s ≡ t = ap (λ (y : ScaledPoint). y.n) fix in
    let p = modulo_parts UNIT some_parts e.s in
    let x = shift_row e.w.xx e.w.xy e.w.xz t.x t.y t.z t.x e.s.x (modulo UNIT e.s).x k.x n some w.x h h.first (ap (λ (v : Column). v.x) c) (ap (λ (v : Column). v.x) s) p.x in
    let y = shift_row e.w.yx e.w.yy e.w.yz t.x t.y t.z t.y e.s.y (modulo UNIT e.s).y k.y n some w.y h h.second (ap (λ (v : Column). v.y) c) (ap (λ (v : Column). v.y) s) p.y in
    let z = shift_row e.w.zx e.w.zy e.w.zz t.x t.y t.z t.z e.s.z (modulo UNIT e.s).z k.z n some w.z h h.third (ap (λ (v : Column). v.z) c) (ap (λ (v : Column). v.z) s) p.z in
    record { first = omega (arith, x); second = omega (arith, y); third = omega (arith, z) }

-- a point of the cell over a denominator that is a multiple of UNIT
scaled_in_cell : (y : Point) (z : ScaledPoint) → IsPoint y → IsInCell y → y ≈ point_of UNIT z → AreWithin (z.d * (UNIT * 51)) z.n.x z.n.y z.n.z
unfolding times
scaled_in_cell y z p c e = record {
  first = row y.n.x z.n.x y.d z.d p c.0 c.1 (ap (λ (v : Column). v.x) e);
  second = row y.n.y z.n.y y.d z.d p c.2 c.3 (ap (λ (v : Column). v.y) e);
  third = row y.n.z z.n.z y.d z.d p c.4 c.5 (ap (λ (v : Column). v.z) e);
}
  where
    row : (a b d : ℤ) (k : ℕ) → pos 0 <ℤ d → pos 0 ≤ℤ a → a <ℤ d → (pos UNIT *ℤ pos k) *ℤ a ≡ d *ℤ b → unsigned_abs b ≤ k * (UNIT * 51)
    row a b d k p g h e =
        let f : unsigned_abs d * unsigned_abs b ≡ UNIT * k * unsigned_abs a = sym (unsigned_abs-mul d b) ∙ ap unsigned_abs (sym e) ∙ unsigned_abs-mul (pos UNIT *ℤ pos k) a in
        let s : unsigned_abs a ≤ unsigned_abs d = omega (arith, ints, g, h) in
        let m : UNIT * k * unsigned_abs a ≤ UNIT * k * unsigned_abs d = mul-le-mul (le_refl (UNIT * k)) s in
        let l : unsigned_abs d * unsigned_abs b ≤ unsigned_abs d * (k * (UNIT * 51)) = omega (arith, f, m) in
        le_of_mul-le-mul_left l (positive_size d p)

-- the average over the group of a point of the cell is one of a group with small shifts
pub cell_average : (members : List Operator) → IsGroup members → (y : Point) (a : Block) → IsPoint y → IsInCell y → IsSpecial UNIT members y a → IsAverage members a
cell_average members group y a p c s =
    let L : SpaceGroup = space_of members group in
    let z = scaled_of UNIT some_parts y p in
    record {
      group = s.site;
      is_group = site_sub members group y p s.site s.is_site;
      mean = s.mean;
      shifts = λ i d l k h.
          let e : Map = get_or s.site i d in
          let f = (site-scaled L y z.0 p z.1 e).0 ((s.is_site.exactly e).0 (Contains-get_or s.site i d l)) in
          fixing_shift_small e z.0.n k z.0.d z.0.some (narrow_element members group e f.0) (scaled_in_cell y z.0 p c z.1) f.1 h;
    }
