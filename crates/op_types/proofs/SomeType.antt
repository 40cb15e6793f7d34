-- Each member of a group has a type.
use Rattle.std.proofs.Common.{◌≡◌, ◌≢◌, ◌⊎◌, inl, inr, ⊎_elim, ◌↔◌, Bool, true, false, IsTrue, ℕ, zero, suc, ◌*◌, ◌<◌, ◌≤◌, ℤ, pos, ◌*ℤ◌, ◌<ℤ◌, neg_ℤ, unsigned_abs, int_eq, List, Contains, Option, Some, None, ap, sym, subst, refl, arith}
use Rattle.std.specs.Cmp.{signed_Decides}
use Rattle.std.specs.Int.{◌∣◌}
use Rattle.std.proofs.lemmas.Bool.{cases_lt, false≢true}
use Rattle.std.proofs.lemmas.Int.{ints}
use Rattle.lattice_algebra.specs.Matrix.{Matrix, Column, det, ◌·ᶜ◌, origin, identity, no_matrix}
use Rattle.lattice_algebra.specs.Operator.{Operator}
use Rattle.lattice_algebra.specs.Powers.{power, sum_of_powers, IsOrder}
use Rattle.lattice_algebra.proofs.Equality.{matrix_eq, matrix_eq-is}
use Rattle.exact_ops.specs.declared.TheConstants.{UNIT}
use Rattle.group_closure.specs.GroupList.{IsGroup}
use Rattle.op_types.specs.ProperPart.{IsProper, IsProperPart, opposite}
use Rattle.op_types.specs.IntrinsicPart.{IsIntrinsicPart}
use Rattle.op_types.specs.Axis.{IsAlong, IsAxis, IsDirected}
use Rattle.op_types.specs.Types.{OperationType, HasAxis, IsTypeOf}
use Rattle.op_types.specs.SmallPowers.{HasSmallPowers}
use Rattle.op_types.specs.Vector.{AreParallel, Divides, IsImage, x_column_of, y_column_of, z_column_of}
use Rattle.op_types.proofs.SmallPowers.{small_powers, small_part}
use Rattle.op_types.proofs.Lines.{x_image, y_image, z_image, each_image, parallel_to}
use Rattle.op_types.proofs.Directions.{leading, directed_leading, no_leading, directed_part, directed_opposite}
use Rattle.op_types.proofs.Divisors.{some_divisor, no_divisor_left, opposite_divides}
use Rattle.lattice_algebra.proofs.Numbers.{abs_neg, zero_or_other, positive_or_not}
use Rattle.op_types.proofs.FixedColumns.{along_by, no_line_of_nothing, line_parallel, reduced_axis}

-- ---- what can be decided

abbrev Decided : Type 0 → Type 0
Decided P = P ⊎ (P → ⊥)

by_test : {P : Type 0} (b : Bool) → IsTrue b ↔ P → Decided P
by_test true h = inl (h.0 refl)
by_test false h = inr (λ p. false≢true (h.1 p))

both : {P Q : Type 0} → Decided P → Decided Q → Decided (P × Q)
both p q = ⊎_elim (λ x. ⊎_elim (λ y. inl (x, y)) (λ n. inr (λ h. n h.1)) q) (λ n. inr (λ h. n h.0)) p

same_number : (x y : ℤ) → Decided (x ≡ y)
same_number x y = by_test (int_eq x y) (signed_Decides x y)

same_matrix : (m n : Matrix) → Decided (m ≡ n)
same_matrix m n = by_test (matrix_eq m n) (matrix_eq-is m n (matrix_eq m n) refl)

directed_or_not : (a : Column) → Decided (IsDirected a)
directed_or_not a = let d = directed_leading a in ⊎_elim (λ l. inl (d.1 l)) (λ n. inr (λ h. n (d.0 h))) (positive_or_not (leading a))

parallel_or_not : (a b : Column) → Decided (AreParallel a b)
parallel_or_not a b =
    ⊎_elim (λ h. inl (record { xy = h.0; yz = h.1.0; zx = h.1.1 })) (λ n. inr (λ p. n (p.xy, (p.yz, p.zx))))
    (both (same_number (a.x *ℤ b.y) (a.y *ℤ b.x)) (both (same_number (a.y *ℤ b.z) (a.z *ℤ b.y)) (same_number (a.z *ℤ b.x) (a.x *ℤ b.z))))

origin_or_other : (c : Column) → Decided (c ≡ origin)
origin_or_other c = ⊎_elim (λ z. inl (no_leading c z)) (λ n. inr (λ e. n (ap leading e))) (zero_or_other (leading c))

-- ---- the order: the least power that returns, where one does

search_order : (p : Matrix) (n : ℕ) → ((j : ℕ) → 0 < j → j ≤ n → power p j ≢ identity) ⊎ ((k : ℕ) × IsOrder p k)
search_order p zero = inl (λ j l m. absurd (omega arith))
search_order p (suc n) =
    ⊎_elim (λ none. ⊎_elim (λ e. inr (
      suc n,
      record {
        positive = omega arith;
        returns = e;
        least = λ j l r. ⊎_elim (λ b. absurd (none j l (omega arith) r)) (λ b. b) (cases_lt j (suc n));
      },
    ))
    (λ other. inl (λ j l m. ⊎_elim (λ b. none j l (omega arith)) (λ b. let last : suc n ≡ j = omega arith in subst (λ i. power p i ≢ identity) last other) (cases_lt j (suc n))))
    (same_matrix (power p (suc n)) identity))
    (λ h. inr h)
    (search_order p n)

order_of : (p : Matrix) → HasSmallPowers p → (k : ℕ) × IsOrder p k
order_of p s = ⊎_elim (λ none. absurd (none s.period s.positive (omega arith) s.returns)) (λ h. h) (search_order p s.period)

-- ---- a column that a matrix has, and whether all images are on one line with it

no_column : (s : Matrix) → x_column_of s ≡ origin → y_column_of s ≡ origin → z_column_of s ≡ origin → s ≡ no_matrix
no_column s x y z = λ i. record {
  xx = (x i).x;
  xy = (y i).x;
  xz = (z i).x;
  yx = (x i).y;
  yy = (y i).y;
  yz = (z i).y;
  zx = (x i).z;
  zy = (y i).z;
  zz = (z i).z;
}

some_image : (s : Matrix) → (s ≡ no_matrix) ⊎ ((a : Column) × (a ≢ origin) × IsImage s a)
some_image s =
    ⊎_elim (λ x. ⊎_elim (λ y. ⊎_elim (λ z. inl (no_column s x y z))
    (λ n. inr (z_column_of s, n, z_image s)) (origin_or_other (z_column_of s)))
    (λ n. inr (y_column_of s, n, y_image s)) (origin_or_other (y_column_of s)))
    (λ n. inr (x_column_of s, n, x_image s)) (origin_or_other (x_column_of s))

images_along : (s : Matrix) (a : Column) → Decided ((e : Column) → AreParallel a (s ·ᶜ e))
images_along s a =
    ⊎_elim (λ h. inl (each_image s a h.0 h.1.0 h.1.1))
    (λ n. inr (λ h. n (parallel_to s a (x_column_of s) (x_image s) h, (parallel_to s a (y_column_of s) (y_image s) h, parallel_to s a (z_column_of s) (z_image s) h))))
    (both (parallel_or_not a (x_column_of s)) (both (parallel_or_not a (y_column_of s)) (parallel_or_not a (z_column_of s))))

-- ---- the axis

-- a column of the line, divided and directed
directed_axis : (p : Matrix) (a : Column) → IsAlong p a → (v : Column) × IsAxis p v
directed_axis p a l =
    let g = some_divisor a l.some in
    let opposite = opposite_divides (pos g.0) a g.1.divides in
    let by : (k : ℤ) → unsigned_abs k ≡ g.0 → (h : Divides k a) → IsDirected h.0 → (v : Column) × IsAxis p v = λ k e h d.
    let some : k ≢ pos 0 = λ z. absurd (omega (arith, ints, g.1.positive, e, z)) in
    (h.0, reduced_axis p a h.0 k l some h.1 (no_divisor_left k a h.0 some h.1 (λ d h. subst (λ m. unsigned_abs d ∣ m) (sym e) (g.1.greatest d h))) d) in
    ⊎_elim (λ d. by (pos g.0) refl g.1.divides (directed_part g.0 a g.1.divides.0 g.1.positive g.1.divides.1 d))
    (λ n. by (neg_ℤ (pos g.0)) (abs_neg (pos g.0)) opposite (directed_opposite g.0 a opposite.0 g.1.positive opposite.1 l.some n))
    (directed_or_not a)

some_axis : (p : Matrix) (k : ℕ) → IsOrder p k → (a : Option Column) × HasAxis p a
some_axis p k o =
    let s = sum_of_powers p k in
    ⊎_elim (λ z. (None, no_line_of_nothing p s k o refl z))
    (λ h. ⊎_elim (λ all. let v = directed_axis p h.0 (along_by p s k o refl h.0 h.1 h.2 all) in (Some v.0, v.1))
    (λ n. (None, λ l. n (line_parallel p s k o refl l h.0 h.2)))
    (images_along s h.0))
    (some_image s)

-- ---- the type

positive_denominator : (k : ℕ) → 0 < k → pos 0 <ℤ pos (UNIT * k)
positive_denominator k l = omega (arith, ints)

intrinsic : (f : Operator) (k : ℕ) → IsOrder f.w k → IsIntrinsicPart f (sum_of_powers f.w k ·ᶜ f.t) (pos (UNIT * k))
intrinsic f k o = record { positive = positive_denominator k o.positive; order = k; is_order = o; equal = refl }

-- P is the one proper part, and its handedness is told
typed : (f : Operator) (p : Matrix) (proper : Bool) → HasSmallPowers f.w → HasSmallPowers p → IsTrue proper ↔ IsProper f.w → ((q : Matrix) → IsProperPart f.w q → q ≡ p) → (t : OperationType) × IsTypeOf f t
typed f p proper small small_part handed same =
    let whole = order_of f.w small in
    let o = order_of p small_part in
    let a = some_axis p o.0 o.1 in (
      record { order = o.0; proper = proper; part = sum_of_powers f.w whole.0 ·ᶜ f.t; denominator = pos (UNIT * whole.0); axis = a.0 },
      record {
        handedness = handed;
        order = λ q h. subst (λ m. IsOrder m o.0) (sym (same q h)) o.1;
        part = intrinsic f whole.0 whole.1;
        axis = λ q h. subst (λ m. HasAxis m a.0) (sym (same q h)) a.1;
      },
    )

-- each member of a group has a type
pub some_type : (members : List Operator) (f : Operator) → IsGroup members → Contains members f → (t : OperationType) × IsTypeOf f t
some_type members f g c =
    let small = small_powers members f g c in
    ⊎_elim (λ y. typed f f.w true small small (λ _. y, λ _. refl) (λ q h. h.same y))
    (λ n. typed f (opposite f.w) false small (small_part members f (opposite f.w) g c (record { same = λ y. absurd (n y); opposite_of = λ _. refl })) (λ t. absurd (false≢true t), λ y. absurd (n y)) (λ q h. h.opposite_of n))
    (positive_or_not (det f.w))
