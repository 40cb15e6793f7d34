-- Images that are shifted by whole cells.
use Rattle.std.proofs.Common.{◌≡◌, ◌≤◌, ◌*◌, ◌↔◌, ℕ, ℤ, pos, ◌+ℤ◌, ◌*ℤ◌, ◌≤ℤ◌, ◌<ℤ◌, unsigned_abs, List, [], ◌∷◌, slice_index_or, ap, refl, sym, subst, ◌∙◌, w64, FitsSigned}
use mir.Syntax.{w128}
use Rattle.std.specs.Int.{int_rem_euclid}
use lib.IntN.{*ℤ_comm}
use Rattle.lattice_algebra.specs.Matrix.{column_of, ◌+ᶜ◌, times}
use Rattle.lattice_algebra.specs.Operator.{Operator}
use Rattle.lattice_algebra.specs.Map.{map_of}
use Rattle.lattice_algebra.specs.Point.{Point, IsPoint, ◌≈◌, image, HasCoordinatesWithin}
use Rattle.lattice_algebra.proofs.Machine.{back, kept, read}
use Rattle.lattice_algebra.proofs.Points.{≈_sym, IsPoint-image, image-shifted, HasCoordinatesWithin-same}
use Rattle.exact_ops.specs.declared.TheConstants.{UNIT, MAX_COORDINATE, MAX_SHIFT}
use Rattle.exact_ops.specs.Points.{point_with, IsPointInRange}
use Rattle.exact_ops.specs.Moves.{map_with, IsShiftInRange}
use Rattle.exact_ops.proofs.Narrow.{some_parts}
use Rattle.exact_ops.proofs.Bounds.{denominator_bound, image_limit, kept_denominator, kept_image}

-- a number of a list
abbrev pub at : List ℤ → ℕ → ℤ
at l i = slice_index_or l i (pos 0)

-- what the code computes from a numerator, a whole shift and the denominator
abbrev pub IsShifted : ℤ → ℤ → ℤ → ℤ → Type 0
IsShifted n k d r = r ≡ back w128 n +ℤ back w64 k *ℤ back w128 d

shifted_is : (n k : ℤ) (p : Point) (r : ℤ) → IsPointInRange p → unsigned_abs n ≤ image_limit * unsigned_abs p.d → unsigned_abs k ≤ MAX_SHIFT → FitsSigned w128 r → IsShifted n k p.d r → back w128 r ≡ n +ℤ p.d *ℤ k
shifted_is n k p r i h l f e =
    read w128 r (n +ℤ p.d *ℤ k) f (e ∙ (λ j. kept_image p n i h j +ℤ kept w64 MAX_SHIFT k l tt j *ℤ kept_denominator p i j) ∙ ap (λ v. n +ℤ v) (*ℤ_comm k p.d))

-- the point with numerators r over the denominator of p, shifted
abbrev shifted_point : List ℤ → List ℤ → ℤ → Point
shifted_point r s d = record { n = column_of r +ᶜ times d (column_of s); d = d }

computed_point : (r s : List ℤ) (p : Point) (x y z : ℤ) → IsPointInRange p → HasCoordinatesWithin image_limit (point_with r p.d) → IsShiftInRange (column_of s) → (FitsSigned w128 x) × (FitsSigned w128 y) × (FitsSigned w128 z)
    → IsShifted (at r 0) (at s 0) p.d x → IsShifted (at r 1) (at s 1) p.d y → IsShifted (at r 2) (at s 2) p.d z
    → point_with (back w128 x ∷ back w128 y ∷ back w128 z ∷ []) p.d ≡ shifted_point r s p.d
unfolding ◌+ᶜ◌ times
computed_point r s p x y z i h k f e g l = λ j. record {
  n = record {
    x = shifted_is (at r 0) (at s 0) p x i h.first k.first f.0 e j;
    y = shifted_is (at r 1) (at s 1) p y i h.second k.second f.1 g j;
    z = shifted_is (at r 2) (at s 2) p z i h.third k.third f.2 l j;
  };
  d = p.d;
}

-- q is written over the denominator of p, and is the image of p by f and the whole shifts s
pub record IsShiftedImage (f : Operator) (s : List ℤ) (p q : Point) : Type 0 where
  pub denominator : q.d ≡ p.d
  pub equal : q ≈ image UNIT (map_with f s) p
  pub range : HasCoordinatesWithin MAX_COORDINATE q ↔ HasCoordinatesWithin MAX_COORDINATE (image UNIT (map_with f s) p)

same_range : (f : Operator) (s : List ℤ) (p q : Point) → IsPoint p → IsPoint q → q ≈ image UNIT (map_with f s) p → HasCoordinatesWithin MAX_COORDINATE q ↔ HasCoordinatesWithin MAX_COORDINATE (image UNIT (map_with f s) p)
same_range f s p q h k e =
    let v = image UNIT (map_with f s) p in
    (HasCoordinatesWithin-same MAX_COORDINATE q v k e, HasCoordinatesWithin-same MAX_COORDINATE v q (IsPoint-image UNIT some_parts (map_with f s) p h) (≈_sym q v e))

-- a point with the numerators of the image, as it is stored
pub applied : (f : Operator) (n s : List ℤ) (p : Point) → IsPointInRange p → point_with n p.d ≈ image UNIT (map_with f s) p → IsShiftedImage f s p (point_with n (back w128 p.d))
applied f n s p i e =
    subst (λ d. IsShiftedImage f s p (point_with n d)) (sym (kept_denominator p i)) (record { denominator = refl; equal = e; range = same_range f s p (point_with n p.d) i.positive i.positive e })

pub shifted_image : (f : Operator) (r s : List ℤ) (p : Point) (x y z : ℤ) → IsPointInRange p → point_with r p.d ≈ image UNIT (map_of f) p → HasCoordinatesWithin image_limit (point_with r p.d) → IsShiftInRange (column_of s)
    → (FitsSigned w128 x) × (FitsSigned w128 y) × (FitsSigned w128 z) → IsShifted (at r 0) (at s 0) p.d x → IsShifted (at r 1) (at s 1) p.d y → IsShifted (at r 2) (at s 2) p.d z
    → point_with (back w128 x ∷ back w128 y ∷ back w128 z ∷ []) p.d ≈ image UNIT (map_with f s) p
shifted_image f r s p x y z i e h k l m n o = subst (λ q. q ≈ image UNIT (map_with f s) p) (sym (computed_point r s p x y z i h k l m n o)) (image-shifted UNIT f (column_of s) (column_of r) p e)

-- a point over the same denominator
pub IsPointInRange-over : (p q : Point) → IsPointInRange p → q.d ≡ p.d → HasCoordinatesWithin MAX_COORDINATE q → IsPointInRange q
IsPointInRange-over p q r e h = record {
  positive = subst (λ d. pos 0 <ℤ d) (sym e) r.positive;
  multiple = subst (λ d. int_rem_euclid d (pos UNIT) ≡ pos 0) (sym e) r.multiple;
  denominator = subst (λ d. d ≤ℤ pos denominator_bound) (sym e) r.denominator;
  within = h;
}
