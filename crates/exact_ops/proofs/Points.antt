-- Points made from coordinates are in range.
use Rattle.std.proofs.Common.{◌≡◌, ◌≤◌, ◌<◌, ◌*◌, ◌↔◌, ℕ, zero, suc, ℤ, pos, negsuc, ◌*ℤ◌, ◌≤ℤ◌, ◌<ℤ◌, unsigned_abs, Bool, IsTrue, List, [], ◌∷◌, ap, ◌∙◌, subst, refl, arith, w64, to_z-of_z, FitsSigned, mul-le-mul, le_refl}
use Rattle.std.proofs.lemmas.Int.{ints, unsigned_abs-mul}
use mir.Syntax.{w128}
use Rattle.lattice_algebra.specs.Point.{Point}
use Rattle.lattice_algebra.proofs.Ring.{var, con, ◌⊗◌, ring}
use Rattle.lattice_algebra.proofs.Machine.{back, read, value-size}
use Rattle.lattice_algebra.proofs.Numbers.{above}
use Rattle.lattice_algebra.proofs.Remainders.{rem_of_times}
use Rattle.exact_ops.specs.declared.TheConstants.{UNIT, MAX_COORDINATE, MAX_DENOMINATOR}
use Rattle.exact_ops.specs.Points.{point_with, IsPointInRange, coordinate_at, IsCoordinateInRange, AreCoordinatesInRange, HasCoordinates}
use Rattle.exact_ops.proofs.Narrow.{some_parts}
use Rattle.exact_ops.proofs.Bounds.{denominator_bound}

-- a test of a coordinate that was passed on
pub tested : (q : ℤ × ℤ) (b : Bool) → FitsSigned w64 q.0 → FitsSigned w64 q.1 → IsTrue b ↔ IsCoordinateInRange (back w64 q.0, back w64 q.1) → IsTrue b ↔ IsCoordinateInRange q
tested q b f g h = subst (λ (p : ℤ × ℤ). IsTrue b ↔ IsCoordinateInRange p) (λ i. (to_z-of_z f i, to_z-of_z g i)) h

abbrev units : ℤ → ℤ → ℤ → ℤ
units a b c = pos UNIT *ℤ (a *ℤ b *ℤ c)

-- a product of numbers that were passed on
units_is : (n a b c : ℤ) → FitsSigned w64 a → FitsSigned w64 b → FitsSigned w64 c → FitsSigned w128 n → n ≡ units (back w64 a) (back w64 b) (back w64 c) → back w128 n ≡ units a b c
units_is n a b c f g h k e = read w128 n (units a b c) k (e ∙ λ i. units (to_z-of_z f i) (to_z-of_z g i) (to_z-of_z h i))

-- ---- the point with the coordinates x / u, y / v, z / w

positive : (u v w : ℤ) → pos 1 ≤ℤ u → pos 1 ≤ℤ v → pos 1 ≤ℤ w → pos 0 <ℤ units u v w
positive (pos (suc a)) (pos (suc b)) (pos (suc c)) p q r = above (UNIT * (suc a * suc b * suc c)) (grind arith)
positive (pos zero) v w p q r = absurd (omega (arith, ints))
positive (negsuc a) v w p q r = absurd (omega (arith, ints))
positive (pos (suc a)) (pos zero) w p q r = absurd (omega (arith, ints))
positive (pos (suc a)) (negsuc b) w p q r = absurd (omega (arith, ints))
positive (pos (suc a)) (pos (suc b)) (pos zero) p q r = absurd (omega (arith, ints))
positive (pos (suc a)) (pos (suc b)) (negsuc c) p q r = absurd (omega (arith, ints))

size_of : (u : ℤ) → pos 1 ≤ℤ u → u ≤ℤ pos MAX_DENOMINATOR → unsigned_abs u ≤ MAX_DENOMINATOR
size_of u p q = omega (arith, ints)

at_most : (d : ℤ) (n : ℕ) → unsigned_abs d ≤ n → d ≤ℤ pos n
at_most d n h = omega (arith, ints)

denominator : (u v w : ℤ) → unsigned_abs u ≤ MAX_DENOMINATOR → unsigned_abs v ≤ MAX_DENOMINATOR → unsigned_abs w ≤ MAX_DENOMINATOR → units u v w ≤ℤ pos denominator_bound
denominator u v w p q r =
    at_most (units u v w) denominator_bound
    (value-size (MAX_DENOMINATOR ∷ MAX_DENOMINATOR ∷ MAX_DENOMINATOR ∷ []) (u ∷ v ∷ w ∷ []) (con (pos UNIT) ⊗ (var 0 ⊗ var 1 ⊗ var 2)) (p, (q, (r, tt))))

size_of_units : (a b c : ℤ) → unsigned_abs (units a b c) ≡ UNIT * (unsigned_abs a * unsigned_abs b * unsigned_abs c)
size_of_units a b c = unsigned_abs-mul (pos UNIT) (a *ℤ b *ℤ c) ∙ ap (λ n. UNIT * n) (unsigned_abs-mul (a *ℤ b) c ∙ ap (λ n. n * unsigned_abs c) (unsigned_abs-mul a b))

product_within : (m x u p q : ℕ) → x ≤ m → 0 < u → x * p * q ≤ m * (u * p * q)
product_within m x u p q h l =
    let a : x * p * q ≤ m * p * q = mul-le-mul (mul-le-mul h (le_refl p)) (le_refl q) in
    let b : m * (1 * p * q) ≤ m * (u * p * q) = mul-le-mul (le_refl m) (mul-le-mul (mul-le-mul l (le_refl p)) (le_refl q)) in
    let c : m * (1 * p * q) ≡ m * p * q = omega arith in
    omega (arith, a, b, c)

-- where the sizes of x v w and u v w are compared
coordinate_within : (x u v w : ℤ) → unsigned_abs x ≤ MAX_COORDINATE → pos 1 ≤ℤ u → unsigned_abs (units x v w) ≤ MAX_COORDINATE * unsigned_abs (units u v w)
coordinate_within x u v w h l =
    let a = size_of_units x v w in
    let b = size_of_units u v w in
    let some : 0 < unsigned_abs u = omega (arith, ints) in
    let c = product_within MAX_COORDINATE (unsigned_abs x) (unsigned_abs u) (unsigned_abs v) (unsigned_abs w) h some in
    omega (arith, a, b, c)

abbrev point_of_units : ℤ → ℤ → ℤ → ℤ → ℤ → ℤ → Point
point_of_units x u y v z w = record { n = record { x = units x v w; y = units y u w; z = units z u v }; d = units u v w }

IsPointInRange-units : (x u y v z w : ℤ) → IsCoordinateInRange (x, u) → IsCoordinateInRange (y, v) → IsCoordinateInRange (z, w) → IsPointInRange (point_of_units x u y v z w)
IsPointInRange-units x u y v z w p q r =
    let turn : units v u w ≡ units u v w = ring (pos UNIT ∷ u ∷ v ∷ w ∷ []) (var 0 ⊗ (var 2 ⊗ var 1 ⊗ var 3)) (var 0 ⊗ (var 1 ⊗ var 2 ⊗ var 3)) tt in
    let last : units w u v ≡ units u v w = ring (pos UNIT ∷ u ∷ v ∷ w ∷ []) (var 0 ⊗ (var 3 ⊗ var 1 ⊗ var 2)) (var 0 ⊗ (var 1 ⊗ var 2 ⊗ var 3)) tt in
    record {
      positive = positive u v w p.1 q.1 r.1;
      multiple = rem_of_times UNIT some_parts (u *ℤ v *ℤ w);
      denominator = denominator u v w (size_of u p.1 p.2) (size_of v q.1 q.2) (size_of w r.1 r.2);
      within = record {
        first = coordinate_within x u v w p.0 p.1;
        second = subst (λ k. unsigned_abs (units y u w) ≤ MAX_COORDINATE * unsigned_abs k) turn (coordinate_within y v u w q.0 q.1);
        third = subst (λ k. unsigned_abs (units z u v) ≤ MAX_COORDINATE * unsigned_abs k) last (coordinate_within z w u v r.0 r.1);
      };
    }

-- ---- what the code computes

abbrev pub Fits64 : ℤ × ℤ → Type 0
Fits64 q = (FitsSigned w64 q.0) × (FitsSigned w64 q.1)

abbrev pub AreFit : List (ℤ × ℤ) → Type 0
AreFit c = Fits64 (coordinate_at c 0) × Fits64 (coordinate_at c 1) × Fits64 (coordinate_at c 2)

abbrev pub point_at : List (ℤ × ℤ) → Point
point_at c =
    let x = coordinate_at c 0 in
    let y = coordinate_at c 1 in
    let z = coordinate_at c 2 in
    point_of_units x.0 x.1 y.0 y.1 z.0 z.1

pub computed_point : (c : List (ℤ × ℤ)) (p q r d : ℤ) → let x = coordinate_at c 0 in let y = coordinate_at c 1 in let z = coordinate_at c 2 in
    AreFit c → (FitsSigned w128 p) × (FitsSigned w128 q) × (FitsSigned w128 r) × (FitsSigned w128 d)
    → p ≡ units (back w64 x.0) (back w64 y.1) (back w64 z.1) → q ≡ units (back w64 y.0) (back w64 x.1) (back w64 z.1) → r ≡ units (back w64 z.0) (back w64 x.1) (back w64 y.1) → d ≡ units (back w64 x.1) (back w64 y.1) (back w64 z.1)
    → point_with (back w128 p ∷ back w128 q ∷ back w128 r ∷ []) (back w128 d) ≡ point_at c
computed_point c p q r d f k e g h l =
    let x = coordinate_at c 0 in
    let y = coordinate_at c 1 in
    let z = coordinate_at c 2 in
    λ i. record {
      n = record { x = units_is p x.0 y.1 z.1 f.0.0 f.1.1 f.2.1 k.0 e i; y = units_is q y.0 x.1 z.1 f.1.0 f.0.1 f.2.1 k.1 g i; z = units_is r z.0 x.1 y.1 f.2.0 f.0.1 f.1.1 k.2 h i };
      d = units_is d x.1 y.1 z.1 f.0.1 f.1.1 f.2.1 k.3 l i;
    }

pub point_in_range : (c : List (ℤ × ℤ)) → AreCoordinatesInRange c → IsPointInRange (point_at c)
point_in_range c a = IsPointInRange-units _ _ _ _ _ _ a.x a.y a.z

pub HasCoordinates-point : (c : List (ℤ × ℤ)) → HasCoordinates c (point_at c)
HasCoordinates-point c =
    let x = coordinate_at c 0 in
    let y = coordinate_at c 1 in
    let z = coordinate_at c 2 in
    let r = pos UNIT ∷ x.0 ∷ x.1 ∷ y.0 ∷ y.1 ∷ z.0 ∷ z.1 ∷ [] in
    let U = var 0 in
    let d = U ⊗ (var 2 ⊗ var 4 ⊗ var 6) in
    record {
      denominator = refl;
      x = ring r (U ⊗ (var 1 ⊗ var 4 ⊗ var 6) ⊗ var 2) (var 1 ⊗ d) tt;
      y = ring r (U ⊗ (var 3 ⊗ var 2 ⊗ var 6) ⊗ var 4) (var 3 ⊗ d) tt;
      z = ring r (U ⊗ (var 5 ⊗ var 2 ⊗ var 4) ⊗ var 6) (var 5 ⊗ d) tt;
    }
