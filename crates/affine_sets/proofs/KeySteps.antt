-- One conjugate more, as the key of an average is found.
use Rattle.std.proofs.Common.{◌≡◌, ◌++◌, ◌∷◌, ◌<◌, ◌+◌, ◌*◌, ◌⊎◌, ℕ, ℤ, pos, ◌*ℤ◌, List, Some, slice_get, inl, inr, ⊎_elim, ap, sym, refl, subst, ◌∙◌, arith}
use Rattle.std.proofs.lemmas.Bool.{cases_lt}
use Rattle.lattice_algebra.specs.Matrix.{Matrix, Column, entries, coordinates, origin, ◌·ᶜ◌, ◌+ᶜ◌, neg_column, times}
use Rattle.lattice_algebra.specs.Operator.{Operator}
use Rattle.lattice_algebra.specs.Map.{map_of}
use Rattle.lattice_algebra.proofs.Ring.{var}
use Rattle.lattice_algebra.proofs.MatrixRing.{matrix_at, column_at, ◌·ˢᶜ◌, ◌+ˢᶜ◌, sym_times, sym_neg, sym_origin, column_ring}
use Rattle.exact_ops.specs.declared.TheConstants.{UNIT}
use Rattle.group_closure.proofs.Places.{same_at, contains_at, EndsRun, same_matrix}
use Rattle.space_groups.specs.Keys.{Key, carried, key_of, IsBelow, ComesBefore}
use Rattle.space_groups.proofs.Blocks.{block_path}
use Rattle.space_groups.proofs.Ordered.{not_below_itself, below_on, not_before_itself, before_on}
use Rattle.space_groups.proofs.Keys.{shifted_block, carried_shift}
use Rattle.affine_sets.specs.declared.keys.Sizes.{Sizes}
use Rattle.affine_sets.specs.Averages.{KeyOver, IsKeyInCell}
use Rattle.affine_sets.specs.Conjugates.{block_of_key, turned_matrix, carried_key, moved_key, key_by, AreEnoughFor, shift_number, IsCandidate, IsNoLater, AreNotBefore, IsGreatestBefore}
use Rattle.affine_sets.proofs.KeyWalk.{unmoved, moved_carried, moved_matrix, before_is_below, each_number, carried_key_matrix}

-- ---- whole shifts

-- first is the first of best and the conjugates of base by the first i whole shifts
pub record IsFirstUpTo (base best first : KeyOver) (q : Sizes) (i : ℕ) : Type 0 where
  pub over : first.over ≡ base.over
  pub matrix : first.key.m ≡ base.key.m
  pub origin : (first.key ≡ best.key) ⊎ ((k : Column) × (moved_key base k ≡ first.key))
  pub earlier : IsNoLater first best
  pub behind : (j : ℕ) → j < i → ComesBefore (moved_key base (shift_number q j)) first.key → ⊥

first_of_none : (base best : KeyOver) (q : Sizes) → best.over ≡ base.over → best.key.m ≡ base.key.m → IsFirstUpTo base best best q 0
first_of_none base best q o m = record { over = o; matrix = m; origin = inl refl; earlier = λ k l. l; behind = λ j l b. absurd (omega (arith, l)) }

one_further : (P : ℕ → Type 0) (i : ℕ) → ((j : ℕ) → j < i → P j) → P i → (j : ℕ) → j < i + 1 → P j
one_further P i below here j l = ⊎_elim (λ a. below j a) (λ a. let e : i ≡ j = omega (arith, a, l) in subst P e here) (cases_lt j i)

pub first_replaced : (base best first next : KeyOver) (q : Sizes) (i : ℕ) → IsFirstUpTo base best first q i → next.over ≡ base.over → next.key ≡ moved_key base (shift_number q i) → IsBelow (coordinates next.key.t) (coordinates first.key.t) → IsFirstUpTo base best next q (i + 1)
first_replaced base best first next q i h o e b =
    let m : next.key.m ≡ base.key.m = ap (λ (k : Key). k.m) e ∙ moved_matrix base (shift_number q i) in
    let down : ComesBefore next.key first.key = inr (m ∙ sym h.matrix, b) in
    record {
      over = o;
      matrix = m;
      origin = inr (shift_number q i, sym e);
      earlier = λ k l. h.earlier k (before_on k next.key first.key l down);
      behind = one_further (λ j. ComesBefore (moved_key base (shift_number q j)) next.key → ⊥) i
          (λ j l c. h.behind j l (before_on _ next.key first.key c down))
          (λ c. not_before_itself next.key (subst (λ k. ComesBefore k next.key) (sym e) c));
    }

pub first_kept : (base best first next : KeyOver) (q : Sizes) (i : ℕ) → IsFirstUpTo base best first q i → next.key ≡ moved_key base (shift_number q i) → (IsBelow (coordinates next.key.t) (coordinates first.key.t) → ⊥) → IsFirstUpTo base best first q (i + 1)
first_kept base best first next q i h e b =
    let m : next.key.m ≡ base.key.m = ap (λ (k : Key). k.m) e ∙ moved_matrix base (shift_number q i) in
    record {
      over = h.over;
      matrix = h.matrix;
      origin = h.origin;
      earlier = h.earlier;
      behind = one_further (λ j. ComesBefore (moved_key base (shift_number q j)) first.key → ⊥) i h.behind
          (λ c. b (before_is_below next.key first.key (m ∙ sym h.matrix) (subst (λ k. ComesBefore k first.key) (sym e) c)));
    }

-- the conjugate itself, or what was best before it
pub one_of_two : (base best first : KeyOver) (q : Sizes) → IsKeyInCell base → best.over ≡ base.over → best.key.m ≡ base.key.m
    → ((first ≡ base) × IsBelow (coordinates base.key.t) (coordinates best.key.t)) ⊎ ((first ≡ best) × (IsBelow (coordinates base.key.t) (coordinates best.key.t) → ⊥)) → IsFirstUpTo base best first q 1
one_of_two base best first q c o m h =
    let none = first_of_none base best q o m in
    let is = unmoved base q c in
    ⊎_elim
    (λ r. subst (λ v. IsFirstUpTo base best v q 1) (sym r.0) (first_replaced base best best base q 0 none refl is r.1))
    (λ r. subst (λ v. IsFirstUpTo base best v q 1) (sym r.0) (first_kept base best best base q 0 none is r.1))
    h

-- ---- the members of a run

pub record IsFirstOfRun (members : List Operator) (s : KeyOver) (m : Matrix) (best first : KeyOver) (start i : ℕ) : Type 0 where
  pub candidate : IsCandidate members s m first
  pub earlier : IsNoLater first best
  pub behind : AreNotBefore members s first start i

pub one_of_run : (members : List Operator) (s : KeyOver) (m : Matrix) (best first base next : KeyOver) (q : Sizes) (start i count : ℕ) (f : Operator) → IsFirstOfRun members s m best first start i
    → 0 < s.over → slice_get members i ≡ Some f → turned_matrix f s.key.m ≡ m → base.key ≡ carried_key f s → base.over ≡ s.over → AreEnoughFor q m s.over → count ≡ q.x * q.y * q.z → IsFirstUpTo base first next q count
    → IsFirstOfRun members s m best next start (i + 1)
one_of_run members s m best first base next q start i count f h some at turned e o enough all n =
    let bm : base.key.m ≡ m = ap (λ (k : Key). k.m) e ∙ carried_key_matrix f s ∙ turned in
    record {
      candidate = ⊎_elim
          (λ same. record { over = n.over ∙ o; matrix = n.matrix ∙ bm; by = h.candidate.by; member = h.candidate.member; shift = h.candidate.shift; gives = h.candidate.gives ∙ sym same })
          (λ r. record { over = n.over ∙ o; matrix = n.matrix ∙ bm; by = f; member = contains_at members f i at; shift = r.0; gives = sym (moved_carried f s base r.0 some e o) ∙ r.1 })
          n.origin;
      earlier = λ k l. h.earlier k (n.earlier k l);
      behind = λ j f' k l r p b.
          ⊎_elim
          (λ less. h.behind j f' k l less p (n.earlier _ b))
          (λ more.
          let j_is : j ≡ i = omega (arith, r, more) in
          let f_is : f' ≡ f = same_at members f' f i (subst (λ v. slice_get members v ≡ Some f') j_is p) at in
          let d = each_number f s base q k some e o (subst (λ v. AreEnoughFor q v s.over) (sym bm) enough) in
          n.behind d.0 (omega (arith, d.1, all)) (subst (λ v. ComesBefore v next.key) (ap (λ v. key_by v k s) f_is ∙ d.2) b))
          (cases_lt j i);
    }

-- ---- the runs

-- the matrix depends on the rotation part alone
pub by_rotation : (g f : Operator) (m : Matrix) → g.w ≡ f.w → turned_matrix g m ≡ turned_matrix f m
by_rotation g f m e = ap (λ w. turned_matrix (record { w = w; t = g.t }) m) e

-- a greater matrix of the next run is the greatest up to its end
pub greatest_replaced : (members : List Operator) (m best next : Matrix) (at end : ℕ) (f : Operator) → EndsRun members at end → slice_get members at ≡ Some f → next ≡ turned_matrix f m → IsBelow (entries best) (entries next) → IsGreatestBefore members m best at → IsGreatestBefore members m next end
greatest_replaced members m best next at end f ends e is more h k g l p b =
    ⊎_elim
    (λ less. h k g less p (below_on (entries best) (entries next) (entries (turned_matrix g m)) more b))
    (λ here. not_below_itself (entries next) (subst (λ v. IsBelow (entries next) (entries v)) (by_rotation g f m (same_matrix members at end k f g ends e p here l) ∙ sym is) b))
    (cases_lt k at)

pub greatest_kept : (members : List Operator) (m best next : Matrix) (at end : ℕ) (f : Operator) → EndsRun members at end → slice_get members at ≡ Some f → next ≡ turned_matrix f m → (IsBelow (entries best) (entries next) → ⊥) → IsGreatestBefore members m best at → IsGreatestBefore members m best end
greatest_kept members m best next at end f ends e is lower h k g l p b =
    ⊎_elim
    (λ less. h k g less p b)
    (λ here. lower (subst (λ v. IsBelow (entries best) (entries v)) (by_rotation g f m (same_matrix members at end k f g ends e p here l) ∙ sym is) b))
    (cases_lt k at)

-- ---- the operator without whole shifts

nothing_form : (m : Matrix) (t : Column) (u n : ℤ) → t +ᶜ (times (u) (neg_column origin) +ᶜ neg_column (times n (m ·ᶜ neg_column origin))) ≡ t
unfolding ◌·ᶜ◌ ◌+ᶜ◌ times neg_column
nothing_form m t u n = column_ring (u ∷ n ∷ (entries m ++ coordinates t)) (column_at 11 +ˢᶜ (sym_times (var 0) (sym_neg sym_origin) +ˢᶜ sym_neg (sym_times (var 1) (matrix_at 2 ·ˢᶜ sym_neg sym_origin)))) (column_at 11) tt

pub carried_by : (f : Operator) (s : KeyOver) → key_by f origin s ≡ carried_key f s
unfolding shifted_block
carried_by f s = let b = carried (map_of f) (block_of_key s) in ap (key_of UNIT s.over) (carried_shift UNIT (neg_column origin) b ∙ block_path _ _ refl (nothing_form b.m b.t (pos UNIT *ℤ b.n) (pos UNIT)) refl)
