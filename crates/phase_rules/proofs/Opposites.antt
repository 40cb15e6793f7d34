-- Members by halves, where the group has the matrix -1.
use Rattle.std.proofs.Common.{◌≡◌, ℕ, zero, suc, ◌+◌, ◌-◌, ◌≤◌, ◌⊎◌, Some, List, [], ◌∷◌, ◌++◌, length, map, take, get_or, slice_get, ap, sym, ◌∙◌, subst, refl, arith, inl, inr, ⊎_elim, ℤ, pos, negsuc, ◌*ℤ◌, neg_ℤ, ◌<ℤ◌, ◌<◌, Contains, count_by, length-take, Ordering, Less, Equal, Greater}
use Rattle.std.specs.Cmp.Lexicographic.{slice_cmp}
use Rattle.std.specs.Ordering.{ordering_then, int_cmp, MatchOrdering}
use Rattle.std.proofs.lemmas.Bool.{cases_lt}
use Rattle.std.proofs.lemmas.Cmp.{int_ranked, lists_total, int_cmp_total}
use Rattle.std.proofs.lemmas.Int.{ints}
use Rattle.std.proofs.lemmas.List.{get_or-take, take_all}
use Rattle.std.proofs.lemmas.List.Elements.{All-contains}
use Rattle.std.proofs.lemmas.Option.{slice_get-get_or, slice_get_within, get_or_from_slice_get}
use Rattle.finite_groups.proofs.Members as lists
use Rattle.lattice_algebra.specs.Matrix.{Matrix, IsUnimodular, identity, entries, matrix_of, scaled, det, ◌·◌}
use Rattle.lattice_algebra.specs.Operator.{Operator, product, identity_operator}
use Rattle.lattice_algebra.proofs.Matrices.{IsUnimodular-det, det-opposite}
use Rattle.lattice_algebra.proofs.MatrixRing.{matrix_at, ◌·ˢ◌, sym_scaled, sym_identity, matrix_ring}
use Rattle.lattice_algebra.proofs.Ring.{con}
use Rattle.exact_ops.specs.Narrow.{IsNarrow}
use Rattle.exact_ops.specs.declared.TheConstants.{UNIT}
use Rattle.group_closure.specs.GroupList.{IsGroup}
use Rattle.group_closure.specs.Runs.{HasMatrix, IsFirstWith}
use Rattle.group_closure.proofs.OneMatrix.{rows_at, rows_later}
use Rattle.group_closure.proofs.Places.{same_at, product_member, contains_at, some_at}
use Rattle.phase_rules.specs.declared.tallies.Tally.{Tally}
use Rattle.phase_rules.specs.Rows.{Row, ◌·ʳ◌, neg_row, row_eq}
use Rattle.phase_rules.specs.Equivalent.{fixes, reverses}
use Rattle.phase_rules.specs.Marks.{phase_shift}
use Rattle.phase_rules.specs.Tallies.{IsTally}
use Rattle.phase_rules.specs.Halves.{IsBelow, AreBelow, HaveOpposites}
use Rattle.phase_rules.proofs.Rows.{row_at, row_ring, numbers, sym_neg_row, ◌·ˢʳ◌, ·ʳ-identity, row_eq-is}
use Rattle.phase_rules.proofs.Classes.{moved_count}
use Rattle.phase_rules.proofs.Phases.{count_no, not_row, taken_more}

-- ---- the sign of a matrix

abbrev zeros : List ℤ → List ℤ
zeros xs = map (λ (x : ℤ). pos 0) xs

not_both : (xs : List ℤ) → slice_cmp int_cmp xs (zeros xs) ≡ Less → slice_cmp int_cmp (map (λ x. negsuc 0 *ℤ x) xs) (zeros xs) ≡ Less → ⊥
not_both [] a b = cc
not_both (x ∷ xs) a b = by (int_cmp x (pos 0)) (int_cmp (negsuc 0 *ℤ x) (pos 0)) (int_ranked x (pos 0) _ refl) (int_ranked (negsuc 0 *ℤ x) (pos 0) _ refl) (not_both xs) a b
  where
    by : (o p : Ordering) → MatchOrdering o (x <ℤ pos 0) (x ≡ pos 0) (pos 0 <ℤ x) → MatchOrdering p ((negsuc 0 *ℤ x) <ℤ pos 0) ((negsuc 0 *ℤ x) ≡ pos 0) (pos 0 <ℤ (negsuc 0 *ℤ x))
        → (slice_cmp int_cmp xs (zeros xs) ≡ Less → slice_cmp int_cmp (map (λ x. negsuc 0 *ℤ x) xs) (zeros xs) ≡ Less → ⊥)
        → ordering_then o (slice_cmp int_cmp xs (zeros xs)) ≡ Less → ordering_then p (slice_cmp int_cmp (map (λ x. negsuc 0 *ℤ x) xs) (zeros xs)) ≡ Less → ⊥
    by Less Less m n again a b = omega (arith, ints)
    by Less Equal m n again a b = omega (arith, ints)
    by Less Greater m n again a b = cc
    by Equal Less m n again a b = omega (arith, ints)
    by Equal Equal m n again a b = again a b
    by Equal Greater m n again a b = cc
    by Greater p m n again a b = cc

pub not_both_below : (w : Matrix) → IsBelow (entries w) → IsBelow (entries (scaled (negsuc 0) w)) → ⊥
unfolding scaled
not_both_below w a b = not_both (entries w) a b

below_its_opposite : (xs : List ℤ) → slice_cmp int_cmp xs (map (λ x. negsuc 0 *ℤ x) xs) ≡ Less → slice_cmp int_cmp xs (zeros xs) ≡ Less
below_its_opposite [] a = cc
below_its_opposite (x ∷ xs) a = by (int_cmp x (negsuc 0 *ℤ x)) (int_cmp x (pos 0)) (int_ranked x (negsuc 0 *ℤ x) _ refl) (int_ranked x (pos 0) _ refl) (below_its_opposite xs) a
  where
    by : (o p : Ordering) → MatchOrdering o (x <ℤ (negsuc 0 *ℤ x)) (x ≡ negsuc 0 *ℤ x) ((negsuc 0 *ℤ x) <ℤ x) → MatchOrdering p (x <ℤ pos 0) (x ≡ pos 0) (pos 0 <ℤ x)
        → (slice_cmp int_cmp xs (map (λ x. negsuc 0 *ℤ x) xs) ≡ Less → slice_cmp int_cmp xs (zeros xs) ≡ Less)
        → ordering_then o (slice_cmp int_cmp xs (map (λ x. negsuc 0 *ℤ x) xs)) ≡ Less → ordering_then p (slice_cmp int_cmp xs (zeros xs)) ≡ Less
    by Less Less m n again a = refl
    by Less Equal m n again a = absurd (omega (arith, ints))
    by Less Greater m n again a = absurd (omega (arith, ints))
    by Equal Less m n again a = absurd (omega (arith, ints))
    by Equal Equal m n again a = again a
    by Equal Greater m n again a = absurd (omega (arith, ints))
    by Greater p m n again a = absurd (cc)

-- a matrix that stands behind its opposite
below_by_opposite : (w : Matrix) → slice_cmp int_cmp (entries w) (entries (scaled (negsuc 0) w)) ≡ Less → IsBelow (entries w)
unfolding scaled
below_by_opposite w a = below_its_opposite (entries w) a

opposite_twice : (w : Matrix) → scaled (negsuc 0) (scaled (negsuc 0) w) ≡ w
unfolding scaled
opposite_twice w = matrix_ring (entries w) (sym_scaled (con (negsuc 0)) (sym_scaled (con (negsuc 0)) (matrix_at 0))) (matrix_at 0) tt

below_inversion : IsBelow (entries (scaled (negsuc 0) identity))
unfolding scaled
below_inversion = refl

below_opposite_of_identity : (w : Matrix) → scaled (negsuc 0) w ≡ identity → IsBelow (entries w)
below_opposite_of_identity w e = subst (λ m. IsBelow (entries m)) (ap (scaled (negsuc 0)) (sym e) ∙ opposite_twice w) below_inversion

unlike_opposite : (w : Matrix) → IsUnimodular w → scaled (negsuc 0) w ≡ w → ⊥
unlike_opposite w u e =
    let d : neg_ℤ (det w) ≡ det w = sym (det-opposite w) ∙ ap det e in
    ⊎_elim (λ p. omega (arith, ints, d, p)) (λ p. omega (arith, ints, d, p)) (IsUnimodular-det w u)

module _ (members : List Operator) (group : IsGroup members) where
  pub below_behind : (i : ℕ) (f : Operator) → slice_get members i ≡ Some f → IsBelow (entries f.w) → AreBelow members i
  below_behind i f e b k g l p =
      ⊎_elim
      (λ a.
      ⊎_elim
      (λ n.
      let at_i : rows_at members i f ≡ entries f.w = ap (λ (x : Operator). entries x.w) (get_or_from_slice_get members i f f e) in
      let at_k : rows_at members k f ≡ entries g.w = ap (λ (x : Operator). entries x.w) (get_or_from_slice_get members k g f p) in
      ⊎_elim
      (λ r. (lists_total int_cmp_total).trans (entries g.w) (entries f.w) (zeros (entries g.w)) (subst (λ v. slice_cmp int_cmp v (entries f.w) ≡ Less) at_k (subst (λ v. slice_cmp int_cmp (rows_at members k f) v ≡ Less) at_i r)) b)
      (λ r. subst IsBelow (sym at_i ∙ r ∙ at_k) b)
      (rows_later members group.sorted i k f a n (slice_get_within members k g p)))
      (λ n. let j : i ≡ k = omega arith in subst (λ (x : Operator). IsBelow (entries x.w)) (same_at members f g k (ap (λ n. slice_get members n) (sym j) ∙ e) p) b)
      (cases_lt i k))
      (λ a.
      let z : i ≡ 0 = omega arith in
      let first : f ≡ identity_operator = same_at members f identity_operator 0 (ap (λ n. slice_get members n) (sym z) ∙ e) group.first in
      absurd (identity_above (subst (λ (x : Operator). IsBelow (entries x.w)) first b)))
      (cases_lt 0 i)
    where
      identity_above : IsBelow (entries identity_operator.w) → ⊥
      identity_above p = cc

  -- members with the opposite matrix stand before it
  pub behind_opposite : (i j : ℕ) (f : Operator) → slice_get members i ≡ Some f → IsFirstWith members (scaled (negsuc 0) f.w) j → j < i → AreBelow members i
  behind_opposite i j f e first l =
      let g = some_at members j first.within in
      let opposite : g.0.w ≡ scaled (negsuc 0) f.w = first.at g.0 g.1 in
      below_behind i f e
      (⊎_elim
      (λ a.
      let at_j : rows_at members j f ≡ entries g.0.w = ap (λ (x : Operator). entries x.w) (get_or_from_slice_get members j g.0 f g.1) in
      let at_i : rows_at members i f ≡ entries f.w = ap (λ (x : Operator). entries x.w) (get_or_from_slice_get members i f f e) in
      ⊎_elim
      (λ r. below_by_opposite f.w (subst (λ v. slice_cmp int_cmp v (entries (scaled (negsuc 0) f.w)) ≡ Less) at_i (subst (λ v. slice_cmp int_cmp (rows_at members i f) v ≡ Less) (at_j ∙ ap entries opposite) r)))
      (λ r. absurd (unlike_opposite f.w (All-contains IsNarrow members f group.narrow (contains_at members f i e)).is_operator.unimodular (sym opposite ∙ ap matrix_of (sym at_j ∙ r ∙ at_i))))
      (rows_later members group.sorted j i f a l (slice_get_within members i f e)))
      (λ a.
      let z : j ≡ 0 = omega arith in
      let one : g.0 ≡ identity_operator = same_at members g.0 identity_operator 0 (ap (λ n. slice_get members n) (sym z) ∙ g.1) group.first in
      below_opposite_of_identity f.w (sym opposite ∙ ap (λ (x : Operator). x.w) one))
      (cases_lt 0 j))

-- where a matrix is first met at place i or later, no member before place i has it
pub not_before : (members : List Operator) (m : Matrix) (i j : ℕ) → IsFirstWith members m j → i ≤ j → HasMatrix (take i members) m → ⊥
not_before members m i j first l h =
    let p = h.1 in
    let k : p.0 < i = omega (arith, p.1, length-take i members) in
    let at : slice_get members p.0 ≡ Some h.0 = slice_get-get_or members p.0 h.0 (omega (arith, p.1, length-take i members)) ∙ ap Some (sym (get_or-take i members p.0 h.0 k) ∙ p.2) in
    first.before p.0 h.0 (omega (arith, k, l)) at h.2

-- ---- opposite matrices

opposite_product : (m : Matrix) → m · scaled (negsuc 0) identity ≡ scaled (negsuc 0) m
unfolding ◌·◌ scaled
opposite_product m = matrix_ring (entries m) (matrix_at 0 ·ˢ sym_scaled (con (negsuc 0)) sym_identity) (sym_scaled (con (negsuc 0)) (matrix_at 0)) tt

pub opposite_row : (h : Row) (m : Matrix) → h ·ʳ scaled (negsuc 0) m ≡ neg_row (h ·ʳ m)
unfolding ◌·ʳ◌ scaled neg_row
opposite_row h m = row_ring (numbers h ++ entries m) (row_at 0 ·ˢʳ sym_scaled (con (negsuc 0)) (matrix_at 3)) (sym_neg_row (row_at 0 ·ˢʳ matrix_at 3)) tt

product_w : (f g : Operator) → (product UNIT f g).w ≡ f.w · g.w
unfolding product
product_w f g = refl

module _ (members : List Operator) (group : IsGroup members) (j : Operator) (member : Contains members j) (inverts : j.w ≡ scaled (negsuc 0) identity) where
  pub opposite_member : (f : Operator) → Contains members f → Contains members (product UNIT f j)
  opposite_member f m = product_member members f j group m member

  pub opposite_w : (f : Operator) → (product UNIT f j).w ≡ scaled (negsuc 0) f.w
  opposite_w f = product_w f j ∙ ap (λ m. f.w · m) inverts ∙ opposite_product f.w

  pub have_opposites : (i : ℕ) → AreBelow members i → HaveOpposites members i
  have_opposites i below k g l e =
      let f : Operator = product UNIT g j in
      let m : Contains members f = opposite_member g (contains_at members g k e) in
      let at : slice_get members m.0 ≡ Some f = slice_get-get_or members m.0 f m.1 ∙ ap Some m.2 in
      ⊎_elim
      (λ a. (f, (m.0, omega (arith, length-take i members, m.1), get_or-take i members m.0 f a ∙ m.2), opposite_w g))
      (λ a. absurd (not_both_below g.w (below k g l e) (subst (λ w. IsBelow (entries w)) (opposite_w g) (below m.0 f a at))))
      (cases_lt m.0 i)

-- ---- members before place i

pub front_member : (members : List Operator) (i : ℕ) (f : Operator) → Contains (take i members) f → Contains members f
front_member members i f c = (c.0, omega (arith, c.1, length-take i members), sym (get_or-take i members c.0 f (omega (arith, c.1, length-take i members))) ∙ c.2)

pub front_or_behind : (members : List Operator) (i : ℕ) (f : Operator) → Contains members f → Contains (take i members) f ⊎ ((k : ℕ) × (i ≤ k) × (slice_get members k ≡ Some f))
front_or_behind members i f c =
    ⊎_elim
    (λ a. inl (c.0, omega (arith, length-take i members, c.1), get_or-take i members c.0 f a ∙ c.2))
    (λ a. inr (c.0, a, slice_get-get_or members c.0 f c.1 ∙ ap Some c.2))
    (cases_lt c.0 i)

-- one of the members before `end` is one of those before place i, or stands from i on
pub earlier_or_later : (members : List Operator) (i end : ℕ) (f : Operator) → Contains (take end members) f → Contains (take i members) f ⊎ ((k : ℕ) × (i ≤ k) × (k < end) × (slice_get members k ≡ Some f))
earlier_or_later members i end f c =
    let k = c.0 in
    let l : k < end = omega (arith, c.1, length-take end members) in
    let m : k < length members = omega (arith, c.1, length-take end members) in
    let e : get_or members k f ≡ f = sym (get_or-take end members k f l) ∙ c.2 in
    ⊎_elim
    (λ a. inl (k, omega (arith, length-take i members), get_or-take i members k f a ∙ e))
    (λ a. inr (k, a, l, slice_get-get_or members k f m ∙ ap Some e))
    (cases_lt k i)

-- ---- the tally of all, from that of those before place i, where none of these reverses h

module _ (members : List Operator) (h : Row) (i : ℕ) (t : Tally) (half : IsTally (take i members) h t) (opposites : HaveOpposites members i) (none : t.reversers ≤ 0) where
  no_reverser : (f : Operator) → Contains (take i members) f → h ·ʳ f.w ≡ neg_row h → ⊥
  no_reverser f c e = let l = lists.count_by-positive (reverses h) f (take i members) c ((row_eq-is (h ·ʳ f.w) (neg_row h)).1 e) (sym half.reversers) in omega (arith, l, none)

  no_fixer : (k : ℕ) (g : Operator) → i ≤ k → slice_get members k ≡ Some g → h ·ʳ g.w ≡ h → ⊥
  no_fixer k g l e p = let o = opposites k g l e in no_reverser o.0 o.1 (ap (λ m. h ·ʳ m) o.2 ∙ opposite_row h g.w ∙ ap neg_row p)

  abbrev fixed : ℕ → ℕ
  fixed k = count_by (fixes h) (take k members)

  fixers_to : (n : ℕ) → i + n ≤ length members → fixed (i + n) ≡ fixed i
  fixers_to zero l = ap fixed (omega arith)
  fixers_to (suc n) l =
      let s = some_at members (i + n) (omega arith) in
      let e : i + suc n ≡ i + n + 1 = omega arith in
      ap fixed e ∙ ap (count_by (fixes h)) (taken_more members (i + n) s.0 s.1) ∙ count_no (fixes h) (take (i + n) members) s.0 (not_row (h ·ʳ s.0.w) h (no_fixer (i + n) s.0 (omega arith) s.1)) ∙ fixers_to n (omega arith)

  all_fixers : count_by (fixes h) members ≡ fixed i
  all_fixers =
      ⊎_elim
      (λ l. let e : i + (length members - i) ≡ length members = omega arith in sym (ap (count_by (fixes h)) (take_all (i + (length members - i)) members (omega arith))) ∙ fixers_to (length members - i) (omega arith))
      (λ l. sym (ap (count_by (fixes h)) (take_all i members l)))
      (cases_lt i (length members))

  pub whole_by_half : (j : Operator) (s : ℕ) → IsGroup members → Contains members j → j.w ≡ scaled (negsuc 0) identity → phase_shift h j ≡ pos s
      → IsTally members h (record { fixers = t.fixers; reversers = t.fixers; shifted = t.shifted; phase = s })
  whole_by_half j s group member inverts q =
      let turns : h ·ʳ j.w ≡ neg_row h = ap (λ m. h ·ʳ m) inverts ∙ opposite_row h identity ∙ ap neg_row (·ʳ-identity h) in
      record {
        fixers = half.fixers ∙ sym all_fixers;
        reversers = half.fixers ∙ sym all_fixers ∙ sym (ap (λ v. count_by (λ (f : Operator). row_eq (h ·ʳ f.w) v) members) (sym turns) ∙ moved_count members group h h j member);
        shifted = (
          (λ s. let a = half.shifted.0 s in record { by = a.by; member = front_member members i a.by a.member; fixes = a.fixes; shifts = a.shifts }),
          (λ a. half.shifted.1 (⊎_elim (λ m. record { by = a.by; member = m; fixes = a.fixes; shifts = a.shifts }) (λ b. absurd (no_fixer b.0 a.by b.1 b.2 a.fixes)) (front_or_behind members i a.by a.member))),
        );
        phase = λ _. record { by = j; member = member; reverses = turns; phase = q };
      }
