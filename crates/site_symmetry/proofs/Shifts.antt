-- Which whole shifts of an operator fix a point: those by (n - r) / d, where r / d is the image of the point n / d.
use Rattle.std.proofs.Common.{◌≡◌, ◌∷◌, [], ◌≤◌, ◌+◌, ◌*◌, ◌↔◌, ℕ, ℤ, pos, ◌+ℤ◌, ◌-ℤ◌, ◌*ℤ◌, unsigned_abs, List, Some, slice_get, Contains, w64, ap, sym, subst, ◌∙◌, arith, FitsSigned, le_trans}
use Rattle.std.proofs.lemmas.List.Elements.{All-contains}
use mir.Syntax.{w128}
use Rattle.lattice_algebra.specs.Matrix.{Column, ◌+ᶜ◌, times}
use Rattle.lattice_algebra.specs.Operator.{Operator, IsOperator}
use Rattle.lattice_algebra.specs.Map.{Map, map_of, operator_of}
use Rattle.lattice_algebra.specs.Point.{Point, IsPoint, ◌≈◌, image, HasCoordinatesWithin}
use Rattle.lattice_algebra.proofs.Ring.{var, con, ◌⊕◌, ◌⊖◌, ◌⊗◌, neg, known, ring_from}
use Rattle.lattice_algebra.proofs.Machine.{back, kept, fits, computed, IsWithin}
use Rattle.lattice_algebra.proofs.Maps.{shifted, operator_of-shifted, shift_of}
use Rattle.lattice_algebra.proofs.Numbers.{abs_sub}
use Rattle.lattice_algebra.proofs.Columns.{cancel_column}
use Rattle.lattice_algebra.proofs.Points.{positive_times, image-shifted}
use Rattle.exact_ops.specs.declared.TheConstants.{UNIT, MAX_COORDINATE}
use Rattle.exact_ops.specs.Narrow.{IsNarrow}
use Rattle.exact_ops.specs.Points.{IsPointInRange}
use Rattle.exact_ops.proofs.Narrow.{some_parts}
use Rattle.exact_ops.proofs.Bounds.{numerator_bound, image_limit, image_bound, numerator_within, kept_denominator}
use Rattle.group_closure.specs.GroupList.{IsGroup}
use Rattle.group_closure.proofs.Places.{contains_at, same_at}
use Rattle.space_groups.specs.Space.{IsInSite}
use Rattle.site_symmetry.specs.OrderedSite.{SomeElementFixes}

-- ---- the image of a point by a map of an operator

pub fixed_by_shift : (f : Operator) (p : Point) (r k : Column) → IsPoint p → record { n = r; d = p.d } ≈ image UNIT (map_of f) p → image UNIT (shifted UNIT f k) p ≈ p ↔ (r +ᶜ times p.d k ≡ p.n)
unfolding image
fixed_by_shift f p r k h e =
    let m = image-shifted UNIT f k r p e in (
      (λ a. cancel_column (pos UNIT *ℤ p.d) (r +ᶜ times p.d k) p.n (positive_times UNIT p.d some_parts h) (m ∙ a)),
      (λ a. sym m ∙ ap (times (pos UNIT *ℤ p.d)) a),
    )

-- ---- coordinate by coordinate

-- one of the three coordinates
pub data Coordinate : Type 0 where
  in_x : Coordinate
  in_y : Coordinate
  in_z : Coordinate

abbrev pub of : Coordinate → Column → ℤ
of in_x c = c.x
of in_y c = c.y
of in_z c = c.z

-- the equation of one coordinate, solved for the image and for the difference
difference_is : (n r k d : ℤ) → r +ℤ d *ℤ k ≡ n → n -ℤ r ≡ k *ℤ d
difference_is n r k d e =
    let N = var 0 in
    let R = var 1 in
    let K = var 2 in
    let D = var 3 in
    ring_from (n ∷ r ∷ k ∷ d ∷ []) (N ⊖ R) (K ⊗ D) (known (neg (con (pos 1))) (R ⊕ D ⊗ K) N ∷ []) (e, tt) tt

from_difference : (n r k d : ℤ) → n -ℤ r ≡ k *ℤ d → r +ℤ d *ℤ k ≡ n
from_difference n r k d e =
    let N = var 0 in
    let R = var 1 in
    let K = var 2 in
    let D = var 3 in
    ring_from (n ∷ r ∷ k ∷ d ∷ []) (R ⊕ D ⊗ K) N (known (neg (con (pos 1))) (N ⊖ R) (K ⊗ D) ∷ []) (e, tt) tt

-- the shift k, coordinate by coordinate
pub record AreShifts (d : ℤ) (n r k : Column) : Type 0 where
  pub x : n.x -ℤ r.x ≡ k.x *ℤ d
  pub y : n.y -ℤ r.y ≡ k.y *ℤ d
  pub z : n.z -ℤ r.z ≡ k.z *ℤ d

shift_in : (v : Coordinate) (d : ℤ) (n r k : Column) → AreShifts d n r k → of v n -ℤ of v r ≡ of v k *ℤ d
shift_in in_x d n r k a = a.x
shift_in in_y d n r k a = a.y
shift_in in_z d n r k a = a.z

column_of_shifts : (d : ℤ) (n r k : Column) → AreShifts d n r k → r +ᶜ times d k ≡ n
unfolding ◌+ᶜ◌ times
column_of_shifts d n r k h = λ i. record {
  x = from_difference n.x r.x k.x d h.x i;
  y = from_difference n.y r.y k.y d h.y i;
  z = from_difference n.z r.z k.z d h.z i;
}

shifts_of_column : (d : ℤ) (n r k : Column) → r +ᶜ times d k ≡ n → AreShifts d n r k
unfolding ◌+ᶜ◌ times
shifts_of_column d n r k e = record {
  x = difference_is n.x r.x k.x d (ap (λ (v : Column). v.x) e);
  y = difference_is n.y r.y k.y d (ap (λ (v : Column). v.y) e);
  z = difference_is n.z r.z k.z d (ap (λ (v : Column). v.z) e);
}

abbrev pub IsImage : Operator → Point → Column → Type 0
IsImage f p r = record { n = r; d = p.d } ≈ image UNIT (map_of f) p

-- an element of f that fixes p has such a shift
shifts_of_fixing : (f : Operator) (p : Point) (r : Column) → IsPoint p → IsImage f p r → SomeElementFixes f p → (k : Column) × AreShifts p.d p.n r k
shifts_of_fixing f p r h e s =
    let k = shift_of UNIT some_parts f s.0 s.1 in
    (k.0, shifts_of_column p.d p.n r k.0 ((fixed_by_shift f p r k.0 h e).0 (subst (λ (m : Map). image UNIT m p ≈ p) k.1 s.2)))

-- and each such shift makes one
pub fixing_of_shifts : (f : Operator) (p : Point) (r k : Column) → IsPoint p → IsImage f p r → AreShifts p.d p.n r k → image UNIT (shifted UNIT f k) p ≈ p
fixing_of_shifts f p r k h e a = (fixed_by_shift f p r k h e).1 (column_of_shifts p.d p.n r k a)

-- ---- what the code computes

-- a numerator of the point, and one of its image
pub record AreNear (p : Point) (n r : ℤ) : Type 0 where
  pub range : IsPointInRange p
  pub given : unsigned_abs n ≤ MAX_COORDINATE * unsigned_abs p.d
  pub image : unsigned_abs r ≤ image_limit * unsigned_abs p.d

abbrev pub IsNearImage : Point → Column → Type 0
IsNearImage p r = HasCoordinatesWithin image_limit (record { n = r; d = p.d })

near : (v : Coordinate) (p : Point) (r : Column) → IsPointInRange p → IsNearImage p r → AreNear p (of v p.n) (of v r)
near in_x p r h k = record { range = h; given = h.within.first; image = k.first }
near in_y p r h k = record { range = h; given = h.within.second; image = k.second }
near in_z p r h k = record { range = h; given = h.within.third; image = k.third }

abbrev bounds : List ℕ
bounds = numerator_bound ∷ image_bound ∷ []

within : (p : Point) (n r : ℤ) → AreNear p n r → IsWithin bounds (n ∷ r ∷ [])
within p n r h = (numerator_within MAX_COORDINATE p n h.range h.given, (numerator_within image_limit p r h.range h.image, tt))

pub fits_difference : (v : Coordinate) (p : Point) (r : Column) → IsPointInRange p → IsNearImage p r → FitsSigned w128 (back w128 (of v p.n) -ℤ back w128 (of v r))
fits_difference v p r h k = fits w128 bounds (of v p.n ∷ of v r ∷ []) (var 0 ⊖ var 1) (within p (of v p.n) (of v r) (near v p r h k)) tt

abbrev pub difference : ℤ → ℤ → ℤ
difference n r = back w128 (back w128 n -ℤ back w128 r)

difference_value : (p : Point) (n r : ℤ) → AreNear p n r → difference n r ≡ n -ℤ r
difference_value p n r h = computed w128 bounds (n ∷ r ∷ []) (var 0 ⊖ var 1) (within p n r h) tt

sum_of_sizes : (m a b d : ℕ) → a ≤ m * d → b ≤ (6 * m + 1) * d → a + b ≤ (7 * m + 1) * d
sum_of_sizes m a b d h k = omega (arith, h, k)

near_difference : (p : Point) (n r : ℤ) → AreNear p n r → unsigned_abs (difference n r) ≤ (7 * MAX_COORDINATE + 1) * unsigned_abs (back w128 p.d)
near_difference p n r h =
    rw (difference_value p n r h) (rw (kept_denominator p h.range) (le_trans (abs_sub n r) (sum_of_sizes MAX_COORDINATE (unsigned_abs n) (unsigned_abs r) (unsigned_abs p.d) h.given h.image)))

pub difference_within : (v : Coordinate) (p : Point) (r : Column) → IsPointInRange p → IsNearImage p r → unsigned_abs (difference (of v p.n) (of v r)) ≤ (7 * MAX_COORDINATE + 1) * unsigned_abs (back w128 p.d)
difference_within v p r h k = near_difference p (of v p.n) (of v r) (near v p r h k)

-- the multiples that the code looks for
multiple_computed : (p : Point) (n r k : ℤ) → AreNear p n r → n -ℤ r ≡ k *ℤ p.d → difference n r ≡ k *ℤ back w128 p.d
multiple_computed p n r k h e = difference_value p n r h ∙ e ∙ ap (λ d. k *ℤ d) (sym (kept_denominator p h.range))

-- and that it stores
abbrev pub IsFound : Point → ℤ → ℤ → ℤ → Type 0
IsFound p n r k = (difference n r ≡ k *ℤ back w128 p.d) × (unsigned_abs k ≤ 7 * MAX_COORDINATE + 1)

multiple_stored : (p : Point) (n r k : ℤ) → AreNear p n r → IsFound p n r k → n -ℤ r ≡ back w64 k *ℤ p.d
multiple_stored p n r k h e =
    sym (difference_value p n r h) ∙ e.0 ∙ ap (λ d. k *ℤ d) (kept_denominator p h.range) ∙ ap (λ j. j *ℤ p.d) (sym (kept w64 (7 * MAX_COORDINATE + 1) k e.1 tt))

pub shifts_stored : (p : Point) (r : Column) (x y z : ℤ) → IsPointInRange p → IsNearImage p r → IsFound p p.n.x r.x x → IsFound p p.n.y r.y y → IsFound p p.n.z r.z z → AreShifts p.d p.n r (record { x = back w64 x; y = back w64 y; z = back w64 z })
shifts_stored p r x y z h k a b c = record {
  x = multiple_stored p p.n.x r.x x (near in_x p r h k) a;
  y = multiple_stored p p.n.y r.y y (near in_y p r h k) b;
  z = multiple_stored p p.n.z r.z z (near in_z p r h k) c;
}

-- ---- elements of the group

operator_at : (members : List Operator) (f : Operator) (i : ℕ) → IsGroup members → slice_get members i ≡ Some f → IsOperator UNIT f
operator_at members f i g e = (All-contains IsNarrow members f g.narrow (contains_at members f i e)).is_operator

pub operator_of_member : (members : List Operator) (op : Operator) (i : ℕ) (k : Column) → IsGroup members → slice_get members i ≡ Some op → operator_of UNIT (shifted UNIT op k) ≡ op
operator_of_member members op i k g e = operator_of-shifted UNIT some_parts op k (operator_at members op i g e)

pub some_fixes : (members : List Operator) (op f : Operator) (i : ℕ) (p : Point) (r k : Column) → IsGroup members → slice_get members i ≡ Some op → IsPoint p → IsImage op p r → AreShifts p.d p.n r k → slice_get members i ≡ Some f → SomeElementFixes f p
some_fixes members op f i p r k g e h m a q =
    subst (λ v. SomeElementFixes v p) (same_at members op f i e q) (shifted UNIT op k, operator_of_member members op i k g e, fixing_of_shifts op p r k h m a)

pub in_site : (members : List Operator) (op : Operator) (i : ℕ) (p : Point) (r k : Column) → IsGroup members → slice_get members i ≡ Some op → IsPoint p → IsImage op p r → AreShifts p.d p.n r k → IsInSite UNIT members p (shifted UNIT op k)
in_site members op i p r k g e h m a = record {
  element = subst (Contains members) (sym (operator_of_member members op i k g e)) (contains_at members op i e);
  fixes = fixing_of_shifts op p r k h m a;
}

-- where an element fixes the point, the code finds a shift in each coordinate
pub shift_at : (v : Coordinate) (members : List Operator) (op f : Operator) (i : ℕ) (p : Point) (r : Column) → slice_get members i ≡ Some op → IsPointInRange p → IsImage op p r → IsNearImage p r → slice_get members i ≡ Some f → SomeElementFixes f p
    → (k : ℤ) × (difference (of v p.n) (of v r) ≡ k *ℤ back w128 p.d)
shift_at v members op f i p r e h m w q s =
    let k = shifts_of_fixing op p r h.positive m (subst (λ g. SomeElementFixes g p) (same_at members f op i q e) s) in
    (of v k.0, multiple_computed p (of v p.n) (of v r) (of v k.0) (near v p r h w) (shift_in v p.d p.n r k.0 k.1))
