-- The sizes of the numbers of a point that is in range, and of its images: the machine keeps them.
use Rattle.std.proofs.Common.{◌≡◌, ◌≤◌, ◌+◌, ◌*◌, ◌^◌, ℕ, ℤ, pos, ◌≤ℤ◌, ◌<ℤ◌, unsigned_abs, T, ltb, sym, subst, arith, mul-le-mul, le_refl, le_trans}
use Rattle.std.proofs.lemmas.Int.{ints}
use mir.Syntax.{w32, w128}
use mir.Val.{hbits}
use Rattle.std.specs.Int.{Width}
use Rattle.lattice_algebra.specs.Matrix.{sum_of_products}
use Rattle.lattice_algebra.specs.Operator.{AreWithin}
use Rattle.lattice_algebra.specs.Point.{Point}
use Rattle.lattice_algebra.proofs.Machine.{back, kept}
use Rattle.exact_ops.specs.declared.TheConstants.{UNIT, MAX_COORDINATE, MAX_DENOMINATOR}
use Rattle.exact_ops.specs.Points.{IsPointInRange}

-- ---- numbers that were passed on

pub passed : (w : Width) (n : ℕ) (x : ℤ) → unsigned_abs x ≤ n → T (ltb n (2 ^ hbits w)) → unsigned_abs (back w x) ≤ n
passed w n x h t = subst (λ v. unsigned_abs v ≤ n) (sym (kept w n x h t)) h

pub three_passed : (w : Width) (n : ℕ) (a b c : ℤ) → AreWithin n a b c → T (ltb n (2 ^ hbits w)) → AreWithin n (back w a) (back w b) (back w c)
three_passed w n a b c h t = record { first = passed w n a h.first t; second = passed w n b h.second t; third = passed w n c h.third t }

-- a row and a column
pub products_passed : (m n : ℕ) (a b c x y z : ℤ) → AreWithin m a b c → AreWithin n x y z → T (ltb m (2 ^ 31)) → T (ltb n (2 ^ 31))
    → sum_of_products (back w32 a) (back w32 b) (back w32 c) (back w32 x) (back w32 y) (back w32 z) ≡ sum_of_products a b c x y z
products_passed m n a b c x y z h k s t =
    λ i. sum_of_products (kept w32 m a h.first s i) (kept w32 m b h.second s i) (kept w32 m c h.third s i) (kept w32 n x k.first t i) (kept w32 n y k.second t i) (kept w32 n z k.third t i)

-- ---- the numbers of a point

-- of a denominator
abbrev pub denominator_bound : ℕ
denominator_bound = UNIT * MAX_DENOMINATOR ^ 3

-- of a numerator
abbrev pub numerator_bound : ℕ
numerator_bound = MAX_COORDINATE * denominator_bound

-- of a coordinate of an image, in cells: three entries within 2, and less than one cell
abbrev pub image_limit : ℕ
image_limit = 6 * MAX_COORDINATE + 1

-- of a numerator of an image
abbrev pub image_bound : ℕ
image_bound = image_limit * denominator_bound

size_of_denominator : (d : ℤ) → pos 0 <ℤ d → d ≤ℤ pos denominator_bound → unsigned_abs d ≤ denominator_bound
size_of_denominator d p q = omega (arith, ints)

-- a denominator in range has its bound
pub denominator_within : (p : Point) → IsPointInRange p → unsigned_abs p.d ≤ denominator_bound
denominator_within p r = size_of_denominator p.d r.positive r.denominator

-- where a coordinate has a size, its numerator has a bound
pub numerator_within : (size : ℕ) (p : Point) (x : ℤ) → IsPointInRange p → unsigned_abs x ≤ size * unsigned_abs p.d → unsigned_abs x ≤ size * denominator_bound
numerator_within size p x r h = le_trans h (mul-le-mul (le_refl size) (denominator_within p r))

pub numerators_within : (p : Point) → IsPointInRange p → AreWithin numerator_bound p.n.x p.n.y p.n.z
numerators_within p r = record {
  first = numerator_within MAX_COORDINATE p p.n.x r r.within.first;
  second = numerator_within MAX_COORDINATE p p.n.y r r.within.second;
  third = numerator_within MAX_COORDINATE p p.n.z r r.within.third;
}

-- and the machine keeps it, as it keeps a numerator and a numerator of an image
pub kept_denominator : (p : Point) → IsPointInRange p → back w128 p.d ≡ p.d
kept_denominator p r = kept w128 denominator_bound p.d (denominator_within p r) tt

pub kept_numerator : (x : ℤ) → unsigned_abs x ≤ numerator_bound → back w128 x ≡ x
kept_numerator x h = kept w128 numerator_bound x h tt

pub kept_image : (p : Point) (x : ℤ) → IsPointInRange p → unsigned_abs x ≤ image_limit * unsigned_abs p.d → back w128 x ≡ x
kept_image p x r h = kept w128 image_bound x (numerator_within image_limit p x r h) tt
