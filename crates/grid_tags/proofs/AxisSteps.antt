-- Points that are moved along an axis by places.
use Rattle.std.proofs.Common.{◌≡◌, ℕ, ◌+◌, ◌*◌, ◌-◌, ◌/◌, ◌%◌, ◌<◌, ◌≤◌, ℤ, pos, negsuc, ◌+ℤ◌, ◌<ℤ◌, ◌≤ℤ◌, unsigned_abs, w32, w64, Fits, FitsSigned, to_z, of_z, T, true, false, List, get_or, set, length, ⊎_elim, ap, sym, ◌∙◌, subst, refl, arith, mul-le-mul_right}
use lib.Signed.{lt_z, non_neg}
use Rattle.std.proofs.lemmas.Bool.{cases_eq}
use Rattle.std.proofs.lemmas.List.{get_or-set_same, get_or-set_other}
use Rattle.std.specs.Prelude.{◌-ℤ◌}
use Rattle.std.proofs.Math.Nat.{mod-eq_of_lt, mod-eq-sub-mod, lt_of_mul-lt-mul_right, mul-lt-mul_of_pos_right}
use Rattle.std.proofs.lemmas.Int.{ints, to_z-of_z}
use Rattle.lattice_algebra.specs.Matrix.{column_of}
use Rattle.lattice_algebra.specs.Operator.{IsPart, AreParts}
use Rattle.lattice_algebra.proofs.Machine.{kept}
use Rattle.exact_ops.proofs.Narrow.{AreWithin-parts}
use Rattle.exact_ops.specs.declared.TheConstants.{UNIT}
use Rattle.grid_tags.specs.declared.TheConstants.{MAX_POINTS}
use Rattle.grid_tags.specs.declared.axes.Axis.{Axis}
use Rattle.grid_tags.specs.declared.axes.Axes.{Axes}
use Rattle.grid_tags.specs.Grids.{Grid, Triple, place_of}
use Rattle.grid_tags.specs.Steps.{moved, moved_coordinate}
use Rattle.grid_tags.specs.Axes.{IsOnAxis, AreAxes, AreOnAxes}
use Rattle.grid_tags.proofs.Images.{HasSides}

-- ---- translations

pub shift_below : (k n : ℕ) → k < UNIT → k * n / UNIT ≤ n
shift_below k n l = let a : k * n ≤ UNIT * n = mul-le-mul_right n (omega (arith, l)) in omega (arith, a)

pub whole_part : (t : ℤ) → IsPart UNIT t → (t ≡ pos (unsigned_abs t)) × (unsigned_abs t < UNIT)
whole_part (pos k) p = (refl, omega (arith, ints, p))
whole_part (negsuc k) p = absurd (omega (arith, ints, p))

-- where the coordinate is moved on to stays below n, and where it does not
moved_below : (i n : ℕ) (t : ℤ) → IsPart UNIT t → i + unsigned_abs t * n / UNIT < n → moved_coordinate i t n ≡ i + unsigned_abs t * n / UNIT
moved_below i n t p l = ap (λ z. moved_coordinate i z n) (whole_part t p).0 ∙ mod-eq_of_lt l

moved_above : (i n : ℕ) (t : ℤ) → IsPart UNIT t → i < n → n ≤ i + unsigned_abs t * n / UNIT → moved_coordinate i t n ≡ i + unsigned_abs t * n / UNIT - n
moved_above i n t p l over =
    let w = whole_part t p in
    let s = shift_below (unsigned_abs t) n w.1 in
    let rest : i + unsigned_abs t * n / UNIT - n < n = omega (arith, s, l) in
    ap (λ z. moved_coordinate i z n) w.0 ∙ mod-eq-sub-mod over ∙ mod-eq_of_lt rest

-- the same by places, d of them from a point to the next
module _ (i n d : ℕ) (t : ℤ) (part : IsPart UNIT t) (within : i < n) where
  gathered : (s : ℕ) → i * d + s * d ≡ (i + s) * d
  gathered s = omega arith

  places_below : i * d + unsigned_abs t * n / UNIT * d < n * d → i * d + unsigned_abs t * n / UNIT * d ≡ moved_coordinate i t n * d
  places_below l =
      let s = unsigned_abs t * n / UNIT in
      let e = gathered s in
      let less : i + s < n = lt_of_mul-lt-mul_right d (subst (λ m. m < n * d) e l) in
      e ∙ ap (λ m. m * d) (sym (moved_below i n t part less))

  places_above : 1 ≤ d → n * d ≤ i * d + unsigned_abs t * n / UNIT * d → i * d + unsigned_abs t * n / UNIT * d - n * d ≡ moved_coordinate i t n * d
  places_above some l =
      let s = unsigned_abs t * n / UNIT in
      let e = gathered s in
      let over : n ≤ i + s = not_less (λ less. let m : (i + s) * d < n * d = mul-lt-mul_of_pos_right less some in omega (arith, l, e, m)) in
      let m : (i + s - n) * d ≡ (i + s) * d - n * d = lowered (i + s) n d over in
      ap (λ m. m - n * d) e ∙ sym m ∙ ap (λ m. m * d) (sym (moved_above i n t part within over))
    where
      not_less : {a b : ℕ} → ¬ (a < b) → b ≤ a
      not_less h = omega (arith, h)

      lowered : (a n d : ℕ) → n ≤ a → (a - n) * d ≡ a * d - n * d
      lowered a n d l = let e : a ≡ (a - n) + n = omega (arith, l) in let f : ((a - n) + n) * d ≡ (a - n) * d + n * d = omega arith in let g : a * d ≡ (a - n) * d + n * d = ap (λ m. m * d) e ∙ f in omega (arith, g)

-- ---- what the machine computes

abbrev sum_of : ℤ → ℤ → ℤ
sum_of part v = to_z w32 (of_z w32 part) +ℤ to_z w32 (of_z w32 v)

abbrev pub held : ℤ → ℤ
held z = to_z w32 (of_z w32 z)

sum_fits : (part v : ℤ) (a b m : ℕ) → part ≡ pos a → v ≡ pos b -ℤ pos m → a < m → b ≤ m → m ≤ MAX_POINTS → FitsSigned w32 (sum_of part v)
sum_fits part v a b m e f l k few = omega (arith, ints)

sum_below : (part v whole : ℤ) (a b m : ℕ) → part ≡ pos a → v ≡ pos b -ℤ pos m → whole ≡ pos m → a < m → b ≤ m → m ≤ MAX_POINTS → lt_z (held (sum_of part v)) (pos 0) ≡ true
    → (a + b < m) × (held (held (sum_of part v) +ℤ held whole) ≡ pos (a + b))
sum_below part v whole a b m e f g l k few t = let below : held (sum_of part v) <ℤ pos 0 = is_less t in (omega (arith, ints), omega (arith, ints))
  where
    is_less : {z : ℤ} → lt_z z (pos 0) ≡ true → z <ℤ pos 0
    is_less e = record { lt = subst T (sym e) tt }

sum_above : (part v : ℤ) (a b m : ℕ) → part ≡ pos a → v ≡ pos b -ℤ pos m → a < m → b ≤ m → m ≤ MAX_POINTS → lt_z (held (sum_of part v)) (pos 0) ≡ false
    → (m ≤ a + b) × (held (sum_of part v) ≡ pos (a + b - m))
sum_above part v a b m e f l k few t = let above : pos 0 ≤ℤ held (sum_of part v) = not_less _ t in (omega (arith, ints), omega (arith, ints))
  where
    not_less : (z : ℤ) → lt_z z (pos 0) ≡ false → pos 0 ≤ℤ z
    not_less z e = grind (arith, ints)

module _ (n d : ℕ) (axis : Axis) (i : ℕ) (x t : ℤ) (fits : FitsSigned w32 t) (part : IsPart UNIT t) (on : IsOnAxis n d axis i x) where
  abbrev shift : ℤ
  shift = get_or axis.shifts (unsigned_abs (held t)) (pos 0)

  abbrev more : ℕ
  more = unsigned_abs t * n / UNIT * d

  shift_is : shift ≡ pos more -ℤ pos (n * d)
  shift_is = ap (λ z. get_or axis.shifts (unsigned_abs z) (pos 0)) (to_z-of_z w32 t fits) ∙ on.is_axis.shifts (unsigned_abs t) (whole_part t part).1

  less : i * d < n * d
  less = mul-lt-mul_of_pos_right on.within on.is_axis.some

  no_more : more ≤ n * d
  no_more = mul-le-mul_right d (shift_below (unsigned_abs t) n (whole_part t part).1)

  pub moved_fits : FitsSigned w32 (sum_of x shift)
  moved_fits = sum_fits x shift (i * d) more (n * d) on.is_part shift_is less no_more on.is_axis.few

  pub moved_on : lt_z (held (sum_of x shift)) (pos 0) ≡ true → held (held (sum_of x shift) +ℤ held axis.whole) ≡ pos (moved_coordinate i t n * d)
  moved_on below =
      let s = sum_below x shift axis.whole (i * d) more (n * d) on.is_part shift_is on.is_axis.whole less no_more on.is_axis.few below in
      s.1 ∙ ap pos (places_below i n d t part on.within s.0)

  pub moved_round : lt_z (held (sum_of x shift)) (pos 0) ≡ false → held (sum_of x shift) ≡ pos (moved_coordinate i t n * d)
  moved_round above =
      let s = sum_above x shift (i * d) more (n * d) on.is_part shift_is less no_more on.is_axis.few above in
      s.1 ∙ ap pos (places_above i n d t part on.within on.is_axis.some s.0)

-- a number that was passed
pub passed : (n d : ℕ) (axis : Axis) (i : ℕ) (x : ℤ) → FitsSigned w32 x → IsOnAxis n d axis i x → IsOnAxis n d axis i (held x)
passed n d axis i x fits on = subst (IsOnAxis n d axis i) (sym (to_z-of_z w32 x fits)) on

-- one shift more was written
pub shifts_more : (n d t : ℕ) (old : List ℤ) (v : ℤ) → t < length old → ((k : ℕ) → k < t → get_or old k (pos 0) ≡ pos (k * n / UNIT * d) -ℤ pos (n * d)) → FitsSigned w32 v → v ≡ pos (t * n / UNIT * d) -ℤ pos (n * d)
    → (k : ℕ) → k < t + 1 → get_or (set old t (held v)) k (pos 0) ≡ pos (k * n / UNIT * d) -ℤ pos (n * d)
shifts_more n d t old v within was fits is k l = ⊎_elim
    (λ e. ap (λ j. get_or (set old t (held v)) j (pos 0)) e ∙ get_or-set_same old t (held v) (pos 0) within ∙ to_z-of_z w32 v fits ∙ is ∙ ap (λ j. pos (j * n / UNIT * d) -ℤ pos (n * d)) (sym e))
    (λ e. get_or-set_other old t k (held v) (pos 0) e ∙ was k (omega (arith, l, e)))
    (cases_eq k t)

-- ---- three axes

moved_small : (i n : ℕ) (t : ℤ) → IsPart UNIT t → 1 ≤ n → moved_coordinate i t n < n
moved_small i n t p some = let l : (i + unsigned_abs t * n / UNIT) % n < n = omega (arith, some) in subst (λ z. moved_coordinate i z n < n) (sym (whole_part t p).0) l

abbrev three : ℤ → ℤ → ℤ → ℤ
three u v w = held (held (held u +ℤ held v) +ℤ held w)

two_within : (u v : ℤ) (a b : ℕ) → u ≡ pos a → v ≡ pos b → a + b ≤ MAX_POINTS → FitsSigned w32 (held u +ℤ held v)
two_within u v a b e f few = omega (arith, ints)

three_within : (u v w : ℤ) (a b c : ℕ) → u ≡ pos a → v ≡ pos b → w ≡ pos c → a + b + c ≤ MAX_POINTS → FitsSigned w32 (held (held u +ℤ held v) +ℤ held w)
three_within u v w a b c e f g few = omega (arith, ints)

three_is : (u v w : ℤ) (a b c : ℕ) → u ≡ pos a → v ≡ pos b → w ≡ pos c → a + b + c ≤ MAX_POINTS → three u v w ≡ pos (a + b + c)
three_is u v w a b c e f g few = omega (arith, ints)

parts_few : (a b c i j k : ℕ) → i < a → j < b → k < c → a * (b * c) ≤ MAX_POINTS → i * (b * c) + j * c + k * 1 ≤ MAX_POINTS
parts_few a b c i j k l m n few =
    let first : i * (b * c) + b * c ≤ a * (b * c) = more i a (b * c) l in
    let second : j * c + c ≤ b * c = more j b c m in
    omega (arith, first, second, n, few)
  where
    more : (i a d : ℕ) → i < a → i * d + d ≤ a * d
    more i a d l = let e : i * d + d ≡ (i + 1) * d = omega arith in subst (λ m. m ≤ a * d) (sym e) (mul-le-mul_right d (omega (arith, l)))

module _ (s : Grid) (axes : Axes) (p : Triple) (x y z : ℤ) (t : List ℤ) (u v w : ℤ) (on : AreOnAxes s axes p x y z) (parts : AreParts UNIT (column_of t))
    (e : u ≡ pos (moved_coordinate p.i (held (get_or t 0 (pos 0))) s.a * (s.b * s.c))) (f : v ≡ pos (moved_coordinate p.j (held (get_or t 1 (pos 0))) s.b * s.c)) (g : w ≡ pos (moved_coordinate p.k (held (get_or t 2 (pos 0))) s.c * 1)) where
  abbrev i : ℕ
  i = moved_coordinate p.i (get_or t 0 (pos 0)) s.a

  abbrev j : ℕ
  j = moved_coordinate p.j (get_or t 1 (pos 0)) s.b

  abbrev k : ℕ
  k = moved_coordinate p.k (get_or t 2 (pos 0)) s.c

  u_is : u ≡ pos (i * (s.b * s.c))
  u_is = e ∙ ap (λ q. pos (moved_coordinate p.i q s.a * (s.b * s.c))) (kept w32 (UNIT - 1) (get_or t 0 (pos 0)) (AreWithin-parts (column_of t) parts).first tt)

  v_is : v ≡ pos (j * s.c)
  v_is = f ∙ ap (λ q. pos (moved_coordinate p.j q s.b * s.c)) (kept w32 (UNIT - 1) (get_or t 1 (pos 0)) (AreWithin-parts (column_of t) parts).second tt)

  w_is : w ≡ pos (k * 1)
  w_is = g ∙ ap (λ q. pos (moved_coordinate p.k q s.c * 1)) (kept w32 (UNIT - 1) (get_or t 2 (pos 0)) (AreWithin-parts (column_of t) parts).third tt)

  few : i * (s.b * s.c) + j * s.c + k * 1 ≤ MAX_POINTS
  few =
      parts_few s.a s.b s.c i j k (moved_small p.i s.a _ parts.x on.x_on.is_axis.side.0) (moved_small p.j s.b _ parts.y on.y_on.is_axis.side.0) (moved_small p.k s.c _ parts.z on.z_on.is_axis.side.0)
      on.x_on.is_axis.few

  pub two_fits : FitsSigned w32 (held u +ℤ held v)
  two_fits = two_within u v _ _ u_is v_is (omega (arith, few))

  pub three_fits : FitsSigned w32 (held (held u +ℤ held v) +ℤ held w)
  three_fits = three_within u v w _ _ _ u_is v_is w_is few

  sum_is : three u v w ≡ pos (i * (s.b * s.c) + j * s.c + k * 1)
  sum_is = three_is u v w _ _ _ u_is v_is w_is few

  pub place_fits : T (non_neg (three u v w)) × Fits w64 (unsigned_abs (three u v w))
  place_fits = let fits : Fits w64 (i * (s.b * s.c) + j * s.c + k * 1) = narrow _ few in subst (λ q. T (non_neg q) × Fits w64 (unsigned_abs q)) (sym sum_is) (tt, fits)
    where
      narrow : (n : ℕ) → n ≤ MAX_POINTS → Fits w64 n
      narrow n l = omega (arith, l)

  pub place_is : unsigned_abs (three u v w) ≡ place_of s (moved s p (column_of t))
  unfolding place_of moved
  place_is = ap unsigned_abs sum_is ∙ regroup i j k s.b s.c
    where
      regroup : (i j k b c : ℕ) → i * (b * c) + j * c + k * 1 ≡ (i * b + j) * c + k
      regroup i j k b c = omega arith

pub sides_on : (s : Grid) (axes : Axes) → AreAxes s axes → HasSides s
sides_on s axes a = record { a = omega (arith, a.x.side.0); b = omega (arith, a.y.side.0); c = omega (arith, a.z.side.0) }
