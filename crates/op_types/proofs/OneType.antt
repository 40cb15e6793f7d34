-- An operator has one type.
use Rattle.std.proofs.Common.{◌≡◌, ◌≢◌, neg_ℤ, unsigned_abs, ◌∷◌, [], ◌≢◌, ⊎_elim, Bool, true, false, IsTrue, Option, Some, None, ◌∷◌, [], ℕ, ◌*◌, ℤ, pos, ◌*ℤ◌, ◌<ℤ◌, ap, sym, subst, ◌∙◌, refl, arith}
use Rattle.std.proofs.lemmas.Nat.Gcd.{dvd_antisymm}
use Rattle.std.proofs.lemmas.Int.{ints}
use Rattle.lattice_algebra.specs.Matrix.{Matrix, Column, det, ◌·ᶜ◌, times, origin}
use Rattle.lattice_algebra.specs.Operator.{Operator}
use Rattle.lattice_algebra.specs.Powers.{IsOrder, sum_of_powers}
use Rattle.lattice_algebra.proofs.Ring.{known, var, con, neg, ◌⊗◌, ring_from}
use Rattle.lattice_algebra.proofs.Columns.{swap_times, cancel_times, times_origin, no_times}
use Rattle.exact_ops.specs.declared.TheConstants.{UNIT}
use Rattle.lattice_algebra.proofs.Numbers.{positive_or_not, cancel_some}
use Rattle.op_types.specs.ProperPart.{IsProperPart, opposite}
use Rattle.op_types.specs.IntrinsicPart.{IsIntrinsicPart}
use Rattle.op_types.specs.Axis.{IsAxis}
use Rattle.op_types.specs.Types.{OperationType, AgreeInType, HasAxis, IsTypeOf}
use Rattle.op_types.proofs.Directions.{leading, leading_times, directed_leading}
use Rattle.op_types.proofs.Divisors.{whole_divisor}
use Rattle.op_types.proofs.FixedColumns.{some_order}

-- ---- the handedness

same_truth : (a b : Bool) → (IsTrue a → IsTrue b) → (IsTrue b → IsTrue a) → a ≡ b
same_truth true b f g = sym (f refl)
same_truth false true f g = g refl
same_truth false false f g = refl

-- ---- the order and the proper part

some_proper_part : (w : Matrix) → (p : Matrix) × IsProperPart w p
some_proper_part w =
    ⊎_elim (λ y. (w, record { same = λ z. refl; opposite_of = λ n. absurd (n y) })) (λ n. (opposite w, record { same = λ y. absurd (n y); opposite_of = λ z. refl })) (positive_or_not (det w))

pub same_order : (p : Matrix) (j k : ℕ) → IsOrder p j → IsOrder p k → j ≡ k
same_order p j k h i =
    let l = h.least k i.positive i.returns in
    let m = i.least j h.positive h.returns in
    omega (arith, l, m)

-- ---- the intrinsic part

-- two fractions for one column are equal
same_fraction : (k d e : ℤ) (m n v : Column) → k ≢ pos 0 → times k m ≡ times d v → times k n ≡ times e v → times d n ≡ times e m
same_fraction k d e m n v some h i =
    cancel_times k (times d n) (times e m) some (swap_times k d n ∙ ap (times d) i ∙ swap_times d e v ∙ ap (times e) (sym h) ∙ swap_times e k m)

same_intrinsic_part : (f : Operator) (m n : Column) (d e : ℤ) → IsIntrinsicPart f m d → IsIntrinsicPart f n e → times d n ≡ times e m
same_intrinsic_part f m n d e h i =
    let k = same_order f.w i.order h.order i.is_order h.is_order in
    let j = h.order in
    let some = some_order (UNIT * j) (omega (arith, h.is_order.positive)) in
    let own = subst (λ l. times (pos (UNIT * l)) n ≡ times e (sum_of_powers f.w l ·ᶜ f.t)) k i.equal in
    same_fraction (pos (UNIT * j)) d e m n (sum_of_powers f.w j ·ᶜ f.t) some h.equal own

-- ---- the axis

-- where numbers of one size give two positive numbers one multiple, they are equal
same_factor : (m k x y : ℤ) → k ≢ pos 0 → unsigned_abs m ≡ unsigned_abs k → m *ℤ x ≡ k *ℤ y → pos 0 <ℤ x → pos 0 <ℤ y → m ≡ k
same_factor m k x y some sizes e p q =
    let M = var 0 in
    let K = var 1 in
    let X = var 2 in
    let Y = var 3 in
    let turned : m ≡ neg_ℤ k → neg_ℤ x ≡ y = λ o. cancel_some k (neg_ℤ x) y some (ring_from (m ∷ k ∷ x ∷ y ∷ []) (K ⊗ neg X) (K ⊗ Y) (known (con (pos 1)) (M ⊗ X) (K ⊗ Y) ∷ known (neg X) M (neg K) ∷ []) (e, (o, tt)) tt) in
    let other : m ≢ neg_ℤ k = λ o. let z = turned o in omega (arith, ints) in
    omega (arith, ints, sizes, other)

-- a line has one vector
same_vector : (p : Matrix) (a b : Column) → IsAxis p a → IsAxis p b → a ≡ b
same_vector p a b h k =
    let r = h.along.all b k.along.fixed in
    let m = r.0 in
    let n = r.1 in
    let some : n ≢ pos 0 = λ z. k.along.some (cancel_times m b origin r.2 (r.3 ∙ ap (λ j. times j a) z ∙ no_times a ∙ sym (times_origin m))) in
    let sizes = dvd_antisymm (whole_divisor n a some h.along.some h.no_divisor m (b, sym r.3)) (whole_divisor m b r.2 k.along.some k.no_divisor n (a, r.3)) in
    let entries = sym (leading_times m b) ∙ ap leading r.3 ∙ leading_times n a in
    let same = same_factor m n (leading b) (leading a) some sizes entries ((directed_leading b).0 k.directed) ((directed_leading a).0 h.directed) in
    sym (cancel_times m b a r.2 (r.3 ∙ ap (λ j. times j a) (sym same)))

same_axis : (p : Matrix) (s t : Option Column) → HasAxis p s → HasAxis p t → s ≡ t
same_axis p (Some a) (Some b) h k = ap Some (same_vector p a b h k)
same_axis p (Some a) None h k = absurd (k (a, h.along))
same_axis p None (Some b) h k = absurd (h (b, k.along))
same_axis p None None h k = refl

-- ---- the type

-- a proper part is there, and what both types say of it agrees
pub one_type : (f : Operator) (s t : OperationType) → IsTypeOf f s → IsTypeOf f t → AgreeInType s t
one_type f s t h k =
    let p = some_proper_part f.w in
    record {
      order = same_order p.0 s.order t.order (h.order p.0 p.1) (k.order p.0 p.1);
      proper = same_truth s.proper t.proper (λ y. k.handedness.1 (h.handedness.0 y)) (λ y. h.handedness.1 (k.handedness.0 y));
      part = same_intrinsic_part f s.part t.part s.denominator t.denominator h.part k.part;
      axis = same_axis p.0 s.axis t.axis (h.axis p.0 p.1) (k.axis p.0 p.1);
    }
