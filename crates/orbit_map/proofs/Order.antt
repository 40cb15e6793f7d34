-- The order of the points of an orbit, and of the points that are stored.
use Rattle.std.proofs.Common.{⊎_elim, ◌↔◌, AllPairs, Contains, pos, Bool, true, ◌&&◌, ap₂, ◌≡◌, ◌∷◌, [], ◌⊎◌, inl, inr, List, length, ℤ, ◌<ℤ◌, ap, sym, ◌∙◌, subst, refl, arith, Ordering, Less, Equal, Greater}
use Rattle.std.proofs.lemmas.Int.{ints}
use Rattle.std.proofs.Math.Bool.{and-eq-true_iff}
use lib.Pointwise.{pointwise}
use Rattle.std.specs.Cmp.{IsTotalOrder, IsEquivalence, signed_Decides}
use Rattle.std.specs.Cmp.Rules.{signed_items}
use Rattle.std.specs.Ordering.{ordering_then, int_cmp, int_eq, is_eq, eq_by_cmp}
use Rattle.std.specs.Cmp.Lexicographic.{slice_cmp, lists_ties}
use Rattle.std.proofs.lemmas.Cmp.{lists_total, on_total, then_total, int_cmp_total, int_ranked, lists_equiv, on_equiv, and_equiv, int_eq_equiv}
use Rattle.exact_ops.specs.Points.{point_with}
use Rattle.lattice_algebra.specs.Matrix.{coordinates, column_of}
use Rattle.lattice_algebra.specs.Point as rational
use Rattle.finite_groups.proofs.Sorting.{sorted}
use Rattle.exact_ops.specs.declared.point.Point.{Point}
use Rattle.exact_ops.specs.Numbers.{point_in}
use Rattle.space_groups.specs.Keys.{IsBelow}
use Rattle.space_groups.proofs.Ordered.{below_on, which_below, less_is_below}
use Rattle.orbit_map.specs.Steps.{stored_cmp}

pub stored_cmp_total : IsTotalOrder stored_cmp
stored_cmp_total = then_total (on_total (λ (p : Point). p.n) (lists_total int_cmp_total)) (on_total (λ (p : Point). p.d) int_cmp_total)

-- `==` of stored points, as it is derived
abbrev pub stored_eq : Point → Point → Bool
stored_eq p q = pointwise int_eq p.n q.n && int_eq p.d q.d

pub stored_eq-is : IsEquivalence stored_eq
stored_eq-is = and_equiv (on_equiv (λ (p : Point). p.n) (lists_equiv int_eq_equiv)) (on_equiv (λ (p : Point). p.d) int_eq_equiv)

tie_then : (o p : Ordering) → (is_eq o && is_eq p) ≡ is_eq (ordering_then o p)
tie_then Less p = refl
tie_then Equal p = refl
tie_then Greater p = refl

-- equal points are those that tie
pub stored_ties : (p q : Point) → stored_eq p q ≡ eq_by_cmp stored_cmp p q
stored_ties p q = ap (λ b. b && int_eq p.d q.d) (lists_ties int_cmp (λ x y. refl) p.n q.n) ∙ tie_then (slice_cmp int_cmp p.n q.n) (int_cmp p.d q.d)

-- and have one value
pub stored_same : (p q : Point) → stored_eq p q ≡ true → point_in p ≡ point_in q
stored_same p q e =
    let b = (and-eq-true_iff (pointwise int_eq p.n q.n) (int_eq p.d q.d)).0 e in
    ap₂ point_with ((signed_items p.n q.n).0 b.0) ((signed_Decides p.d q.d).0 b.1)

numerators_less : (o : Ordering) (d e : ℤ) → d ≡ e → ordering_then o (int_cmp d e) ≡ Less → o ≡ Less
numerators_less Less d e q h = refl
numerators_less Equal d e q h = absurd (let l : d <ℤ e = int_ranked d e Less (sym h) in omega (arith, ints))
numerators_less Greater d e q h = cc

three_numbers : (n : List ℤ) → length n ≡ 3 → coordinates (column_of n) ≡ n
three_numbers [] e = absurd (omega arith)
three_numbers (a ∷ []) e = absurd (omega arith)
three_numbers (a ∷ b ∷ []) e = absurd (omega arith)
three_numbers (a ∷ b ∷ c ∷ []) e = refl
three_numbers (a ∷ b ∷ c ∷ d ∷ n) e = absurd (omega arith)

-- of stored points over one denominator, the less has the less coordinates
pub stored_below : (p q : Point) → length p.n ≡ 3 → length q.n ≡ 3 → p.d ≡ q.d → stored_cmp p q ≡ Less → IsBelow (coordinates (point_in p).n) (coordinates (point_in q).n)
stored_below p q h k e l =
    let b : IsBelow p.n q.n = (less_is_below p.n q.n).0 (numerators_less (slice_cmp int_cmp p.n q.n) p.d q.d e l) in
    subst (λ v. IsBelow v (coordinates (point_in q).n)) (sym (three_numbers p.n h)) (subst (IsBelow p.n) (sym (three_numbers q.n k)) b)

-- ---- the order of rational points: by their denominators, then by their coordinates

abbrev key : rational.Point → List ℤ
key p = p.d ∷ coordinates p.n

abbrev pub ComesBefore : rational.Point → rational.Point → Type 0
ComesBefore p q = IsBelow (key p) (key q)

at_key : List ℤ → rational.Point
at_key [] = record { n = column_of []; d = pos 0 }
at_key (d ∷ n) = record { n = column_of n; d = d }

which_before : (p q : rational.Point) → ComesBefore p q ⊎ ((p ≡ q) ⊎ ComesBefore q p)
unfolding at_key
which_before p q = ⊎_elim (λ b. inl b) (λ r. ⊎_elim (λ e. inr (inl (ap at_key e))) (λ b. inr (inr b)) r) (which_below (key p) (key q))

-- the points of a list, in order
pub in_order : (points : List rational.Point) → (sorted : List rational.Point) × AllPairs ComesBefore sorted × ((p : rational.Point) → Contains points p ↔ Contains sorted p)
in_order points = sorted ComesBefore (λ p q r. below_on (key p) (key q) (key r)) which_before points

pub below_over_one : (p q : rational.Point) → p.d ≡ q.d → ComesBefore p q → IsBelow (coordinates p.n) (coordinates q.n)
below_over_one p q e (inl l) = absurd (omega (arith, ints))
below_over_one p q e (inr r) = r.1
