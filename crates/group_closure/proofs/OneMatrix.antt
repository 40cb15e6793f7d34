-- Operators with one matrix stand together behind the first of a list in order.
use Rattle.std.proofs.Common.{◌≡◌, ◌≢◌, ◌⊎◌, ℕ, ◌+◌, ◌<◌, ◌≤◌, ℤ, negsuc, Option, Some, None, List, length, get_or, set, drop, slice_get, refl, sym, ap, ◌∙◌, subst, arith, inl, inr, ⊎_elim, Ordering, Less, Equal, Greater, Bool, true, false, get_or-set_same, get_or-set_other}
use Rattle.std.specs.Cmp.{IsTotalOrder}
use Rattle.std.specs.Cmp.Lexicographic.{slice_cmp}
use Rattle.std.specs.FinMap.{int_cmp-IsAntisymmetric, slice_cmp-IsAntisymmetric}
use Rattle.std.specs.List.Sorted.{IsStrictlySortedBy}
use Rattle.std.specs.Ordering.{ordering_reverse, ordering_then, int_cmp, is_eq, is_lt}
use Rattle.std.proofs.lemmas.Bool.{cases_lt}
use Rattle.std.proofs.lemmas.Cmp.{lists_total, back_total, int_cmp_total}
use Rattle.std.proofs.lemmas.List.{get_or_default}
use Rattle.std.proofs.lemmas.Option.{slice_get_within, slice_get_read, get_or_from_slice_get}
use Rattle.lattice_algebra.specs.Matrix.{Matrix, matrix_of, entries, scaled}
use Rattle.lattice_algebra.specs.Operator.{Operator}
use Rattle.group_closure.specs.Order.{operator_cmp}
use Rattle.group_closure.specs.Runs.{IsRun, AreOpposites, GoesOn, HasMatrix, IsFirstWith, IsFirstIfAny}
use Rattle.group_closure.proofs.InOrder.{before_later}
use Rattle.group_closure.proofs.Origins.{one_there}
use Rattle.group_closure.proofs.Places.{contains_at, some_at}

-- ---- matrices by their rows, descending

abbrev pub rows_cmp : List ℤ → List ℤ → Ordering
rows_cmp a b = slice_cmp int_cmp b a

rows_total : IsTotalOrder rows_cmp
rows_total = back_total (lists_total int_cmp_total)

pub rows_tie : (a b : List ℤ) → rows_cmp a b ≡ Equal → a ≡ b
rows_tie a b e = sym (slice_cmp-IsAntisymmetric int_cmp-IsAntisymmetric b a e)

rows_itself : (a : List ℤ) → rows_cmp a a ≡ Equal
rows_itself a = by (rows_cmp a a) (rows_total.antisymm a a)
  where
    by : (o : Ordering) → o ≡ ordering_reverse o → o ≡ Equal
    by Less e = cc
    by Equal e = refl
    by Greater e = cc

first_part : (o p : Ordering) → ordering_then o p ≡ Less → (o ≡ Less) ⊎ (o ≡ Equal)
first_part Less p e = inl refl
first_part Equal p e = inr refl
first_part Greater p e = cc

abbrev pub rows_at : List Operator → ℕ → Operator → List ℤ
rows_at ops k d = entries (get_or ops k d).w

module _ (ops : List Operator) (sorted : IsStrictlySortedBy operator_cmp (drop 1 ops)) where
  pub rows_later : (i j : ℕ) (d : Operator) → 0 < i → i < j → j < length ops → (rows_cmp (rows_at ops i d) (rows_at ops j d) ≡ Less) ⊎ (rows_at ops i d ≡ rows_at ops j d)
  rows_later i j d p l m = ⊎_elim (λ e. inl e) (λ e. inr (rows_tie (rows_at ops i d) (rows_at ops j d) e)) (first_part (rows_cmp (rows_at ops i d) (rows_at ops j d)) _ (before_later ops i j d sorted p l m))

  -- what stands between two with one matrix has it too
  between : (i j k : ℕ) (d : Operator) → 0 < i → i < j → j < k → k < length ops → rows_at ops k d ≡ rows_at ops i d → rows_at ops j d ≡ rows_at ops i d
  between i j k d p l m n e =
      ⊎_elim
      (λ a.
      ⊎_elim
      (λ b.
      let less : rows_cmp (rows_at ops i d) (rows_at ops k d) ≡ Less = rows_total.trans (rows_at ops i d) (rows_at ops j d) (rows_at ops k d) a b in
      let tie : rows_cmp (rows_at ops i d) (rows_at ops k d) ≡ Equal = subst (λ r. rows_cmp r (rows_at ops k d) ≡ Equal) e (rows_itself (rows_at ops k d)) in
      let no : Less ≡ Equal = sym less ∙ tie in
      absurd (cc))
      (λ b. b ∙ e)
      (rows_later j k d (omega arith) m n))
      (λ a. sym a)
      (rows_later i j d p l (omega arith))

-- ---- the first with a matrix

-- its rows t stand nowhere but from low to before high
pub record IsNarrowedTo (ops : List Operator) (t : List ℤ) (low high : ℕ) : Type 0 where
  pub first : (d : Operator) → rows_at ops 0 d ≢ t
  pub start : 0 < low
  pub end_ : high ≤ length ops
  pub below : (k : ℕ) (d : Operator) → 0 < k → k < low → rows_cmp (rows_at ops k d) t ≡ Less
  pub above : (k : ℕ) (d : Operator) → high ≤ k → k < length ops → rows_cmp (rows_at ops k d) t ≢ Less

module _ (ops : List Operator) (t : List ℤ) where
  pub to_all : 0 < length ops → (m : Operator) → m ≡ get_or ops 0 m → rows_cmp (entries m.w) t ≢ Equal → IsNarrowedTo ops t 1 (length ops)
  to_all l m q n = record {
    first = λ d e. n (subst (λ (g : Operator). rows_cmp (entries g.w) t ≡ Equal) (sym (q ∙ get_or_default ops 0 m d l)) (subst (λ r. rows_cmp r t ≡ Equal) (sym e) (rows_itself t)));
    start = omega arith;
    end_ = omega arith;
    below = λ k d p b. absurd (omega arith);
    above = λ k d p b. absurd (omega arith);
  }

  module _ (sorted : IsStrictlySortedBy operator_cmp (drop 1 ops)) (low high middle : ℕ) (m : Operator) (w : IsNarrowedTo ops t low high) (a : low ≤ middle) (b : middle < high) (q : m ≡ get_or ops middle m) where
    inside : middle < length ops
    inside = omega (arith, w.end_, b)

    here : (d : Operator) → entries m.w ≡ rows_at ops middle d
    here d = ap (λ (g : Operator). entries g.w) (q ∙ get_or_default ops middle m d inside)

    pub to_above : rows_cmp (entries m.w) t ≡ Less → IsNarrowedTo ops t (middle + 1) high
    to_above o = record {
      first = w.first;
      start = omega arith;
      end_ = w.end_;
      below = λ k d r s.
          let less : rows_cmp (rows_at ops middle d) t ≡ Less = subst (λ v. rows_cmp v t ≡ Less) (here d) o in
          ⊎_elim
          (λ u.
          ⊎_elim
          (λ e. rows_total.trans (rows_at ops k d) (rows_at ops middle d) t e less)
          (λ e. subst (λ v. rows_cmp v t ≡ Less) (sym e) less)
          (rows_later ops sorted k middle d r u inside))
          (λ u. let i : middle ≡ k = omega arith in subst (λ j. rows_cmp (rows_at ops j d) t ≡ Less) i less)
          (cases_lt k middle);
      above = w.above;
    }

    pub to_below : rows_cmp (entries m.w) t ≢ Less → IsNarrowedTo ops t low middle
    to_below n = record {
      first = w.first;
      start = w.start;
      end_ = omega (arith, inside);
      below = w.below;
      above = λ k d r s e.
          let p : 0 < middle = omega (arith, w.start, a) in
          n (subst (λ v. rows_cmp v t ≡ Less) (sym (here d))
          (⊎_elim
          (λ u.
          ⊎_elim
          (λ f. rows_total.trans (rows_at ops middle d) (rows_at ops k d) t f e)
          (λ f. subst (λ v. rows_cmp v t ≡ Less) (sym f) e)
          (rows_later ops sorted middle k d p u s))
          (λ u. let i : k ≡ middle = omega arith in subst (λ j. rows_cmp (rows_at ops j d) t ≡ Less) i e)
          (cases_lt middle k)));
    }

  rows_of : (g : Operator) (k : ℕ) → slice_get ops k ≡ Some g → entries g.w ≡ rows_at ops k g
  rows_of g k e = ap (λ (f : Operator). entries f.w) (sym (get_or_from_slice_get ops k g g e))

  -- where the first has the rows t
  pub first_at_once : (m : Operator) → 0 < length ops → m ≡ get_or ops 0 m → rows_cmp (entries m.w) t ≡ Equal → IsFirstWith ops (matrix_of t) 0
  first_at_once m l q o = record {
    within = l;
    at = λ g e. ap matrix_of (rows_of g 0 e ∙ ap (λ (f : Operator). entries f.w) (sym (q ∙ get_or_default ops 0 m g l)) ∙ rows_tie (entries m.w) t o);
    before = λ k g b. absurd (omega arith);
  }

  module _ (rows : entries (matrix_of t) ≡ t) where
    not_before : (k low high : ℕ) (g : Operator) → IsNarrowedTo ops t low high → k < low → rows_at ops k g ≡ t → ⊥
    not_before k low high g w b e =
        ⊎_elim
        (λ p. let no : Less ≡ Equal = sym (w.below k g p b) ∙ subst (λ r. rows_cmp r t ≡ Equal) (sym e) (rows_itself t) in absurd (cc))
        (λ p. let i : k ≡ 0 = omega arith in w.first g (subst (λ j. rows_at ops j g ≡ t) i e))
        (cases_lt 0 k)

    -- the first is at low, where its rows are t
    pub first_at : (low high : ℕ) (m : Operator) → IsNarrowedTo ops t low high → low < length ops → m ≡ get_or ops low m → rows_cmp (entries m.w) t ≡ Equal → IsFirstWith ops (matrix_of t) low
    first_at low high m w l q o = record {
      within = l;
      at = λ g e. ap matrix_of (rows_of g low e ∙ ap (λ (f : Operator). entries f.w) (sym (q ∙ get_or_default ops low m g l)) ∙ rows_tie (entries m.w) t o);
      before = λ k g b e n. not_before k low high g w b (sym (rows_of g k e) ∙ ap entries n ∙ rows);
    }

    at_rows : HasMatrix ops (matrix_of t) → (k : ℕ) × (k < length ops) × ((g : Operator) × (rows_at ops k g ≡ t))
    at_rows h = (h.1.0, h.1.1, (h.0, ap (λ (f : Operator). entries f.w) h.1.2 ∙ ap entries h.2 ∙ rows))

    -- it is nowhere where it is not at low
    pub nowhere_behind : (low high : ℕ) → IsNarrowedTo ops t low high → length ops ≤ low → HasMatrix ops (matrix_of t) → ⊥
    nowhere_behind low high w e h = let r = at_rows h in not_before r.0 low high r.2.0 w (omega (arith, r.1)) r.2.1

    pub nowhere_at : IsStrictlySortedBy operator_cmp (drop 1 ops) → (low high : ℕ) (m : Operator) → IsNarrowedTo ops t low high → high ≤ low → low < length ops → m ≡ get_or ops low m → rows_cmp (entries m.w) t ≢ Equal → HasMatrix ops (matrix_of t) → ⊥
    nowhere_at sorted low high m w b l q n h =
        let r = at_rows h in
        let g = r.2.0 in
        let here : entries m.w ≡ rows_at ops low g = ap (λ (f : Operator). entries f.w) (q ∙ get_or_default ops low m g l) in
        let no : rows_at ops low g ≢ t = λ e. n (subst (λ v. rows_cmp v t ≡ Equal) (sym (here ∙ e)) (rows_itself t)) in
        ⊎_elim
        (λ p. not_before r.0 low high g w p r.2.1)
        (λ p.
        ⊎_elim
        (λ s.
        ⊎_elim
        (λ o. w.above low g b l (subst (λ v. rows_cmp (rows_at ops low g) v ≡ Less) r.2.1 o))
        (λ o. no (o ∙ r.2.1))
        (rows_later ops sorted low r.0 g w.start s r.1))
        (λ s. let i : r.0 ≡ low = omega arith in no (subst (λ j. rows_at ops j g ≡ t) i r.2.1))
        (cases_lt low r.0))
        (cases_lt r.0 low)

-- an operator with the first place of its matrix is listed
pub has_first : (ops : List Operator) (m : Matrix) (j : ℕ) → IsFirstWith ops m j → HasMatrix ops m
has_first ops m j f = let g = some_at ops j f.within in (g.0, contains_at ops g.0 j g.1, f.at g.0 g.1)

-- ---- tests of orders

pub equal_by : (o : Ordering) (b : Bool) → b ≡ is_eq o → b ≡ true → o ≡ Equal
equal_by Less b e t = let no : false ≡ true = sym e ∙ t in absurd (cc)
equal_by Equal b e t = refl
equal_by Greater b e t = let no : false ≡ true = sym e ∙ t in absurd (cc)

pub other_by : (o : Ordering) (b : Bool) → b ≡ is_eq o → b ≡ false → o ≢ Equal
other_by o b e f q = let no : true ≡ false = sym (e ∙ ap is_eq q) ∙ f in cc

pub less_by : (o : Ordering) (b : Bool) → b ≡ is_lt o → b ≡ true → o ≡ Less
less_by Less b e t = refl
less_by Equal b e t = let no : false ≡ true = sym e ∙ t in absurd (cc)
less_by Greater b e t = let no : false ≡ true = sym e ∙ t in absurd (cc)

pub not_less_by : (o : Ordering) (b : Bool) → b ≡ is_lt o → b ≡ false → o ≢ Less
not_less_by o b e f q = let no : true ≡ false = sym (e ∙ ap is_lt q) ∙ f in cc

-- ---- where runs end

-- ends are right from place i on, and the run of the member at i ends at end
pub record AreEndsFrom (ops : List Operator) (ends : List ℕ) (i end : ℕ) : Type 0 where
  pub size : i ≤ length ops
  pub last : i ≡ length ops → end ≡ length ops
  pub here : i < length ops → IsRun ops i end × (i < end) × (end ≤ length ops)
  pub ends_run : (k : ℕ) → i ≤ k → k < length ops → IsRun ops k (get_or ends k 0) × (k < get_or ends k 0) × (get_or ends k 0 ≤ length ops)

module _ (ops : List Operator) (sorted : IsStrictlySortedBy operator_cmp (drop 1 ops)) where
  -- a run goes on, or ends before the next
  pub run_on : (i end : ℕ) (f g : Operator) → slice_get ops i ≡ Some f → slice_get ops (i + 1) ≡ Some g → f.w ≡ g.w → IsRun ops (i + 1) end → (i + 1 < end) → IsRun ops i end
  run_on i end f g p q e run l k a b m r s =
      ⊎_elim
      (λ n.
      let v = run k g b (omega arith) q s in
      let one : a.w ≡ g.w = ap (λ (h : Operator). h.w) (one_there ops i a f r p) ∙ e in
      ((λ t. v.0 (t ∙ one)), (λ t. v.1 t ∙ sym one)))
      (λ n.
      let j : i ≡ k = omega arith in
      let same : b ≡ a = one_there ops k b a s (ap (λ h. slice_get ops h) (sym j) ∙ r) in
      ((λ _. omega arith), (λ _. ap (λ (h : Operator). h.w) same)))
      (cases_lt i k)

  pub run_stops : (i : ℕ) (f g : Operator) → 0 < i → slice_get ops i ≡ Some f → slice_get ops (i + 1) ≡ Some g → f.w ≢ g.w → IsRun ops i (i + 1)
  run_stops i f g p at next n k a b m r s =
      ⊎_elim
      (λ l.
      let fa : f ≡ a = one_there ops i f a at r in
      ((λ t. absurd (n (stands k f b l at s (t ∙ ap (λ (h : Operator). h.w) (sym fa))))), (λ t. absurd (omega arith))))
      (λ l.
      let j : i ≡ k = omega arith in
      let same : b ≡ a = one_there ops k b a s (ap (λ h. slice_get ops h) (sym j) ∙ r) in
      ((λ _. omega arith), (λ _. ap (λ (h : Operator). h.w) same)))
      (cases_lt i k)
    where
      stands : (k : ℕ) (f b : Operator) → i < k → slice_get ops i ≡ Some f → slice_get ops k ≡ Some b → b.w ≡ f.w → f.w ≡ g.w
      stands k f b l u v e =
          ⊎_elim
          (λ h.
          let at_k : rows_at ops k f ≡ entries b.w = ap (λ (x : Operator). entries x.w) (get_or_from_slice_get ops k b f v) in
          let at_i : rows_at ops i f ≡ entries f.w = ap (λ (x : Operator). entries x.w) (get_or_from_slice_get ops i f f u) in
          let at_j : rows_at ops (i + 1) f ≡ entries g.w = ap (λ (x : Operator). entries x.w) (get_or_from_slice_get ops (i + 1) g f next) in
          sym (ap matrix_of (sym at_j ∙ between ops sorted i (i + 1) k f p (omega arith) h (slice_get_within ops k b v) (at_k ∙ ap entries e ∙ sym at_i) ∙ at_i)))
          (λ h.
          let j : k ≡ i + 1 = omega arith in
          sym e ∙ ap (λ (x : Operator). x.w) (one_there ops k b g v (ap (λ n. slice_get ops n) j ∙ next)))
          (cases_lt (i + 1) k)

  run_last : (i : ℕ) → i + 1 ≡ length ops → IsRun ops i (length ops)
  run_last i e k a b m r s =
      let l = slice_get_within ops k b s in
      let j : i ≡ k = omega arith in
      ((λ _. l), (λ _. ap (λ (h : Operator). h.w) (one_there ops k b a s (ap (λ n. slice_get ops n) (sym j) ∙ r))))

  here_ends : (ends : List ℕ) (i end e : ℕ) → AreEndsFrom ops ends (i + 1) end → 0 < i → i < length ops → GoesOn ops i end e → IsRun ops i e × (i < e) × (e ≤ length ops)
  here_ends ends i end e w p l (inl h) =
      let f = some_at ops i l in
      ⊎_elim
      (λ m.
      let g = some_at ops (i + 1) m in
      let r = w.here m in (
        subst (λ n. IsRun ops i n) (sym h.1) (run_on i end f.0 g.0 f.1 g.1 (h.0 f.0 g.0 f.1 g.1) r.0 r.1),
        omega (arith, r.1, h.1),
        omega (arith, r.2, h.1),
      ))
      (λ m.
      let last : i + 1 ≡ length ops = omega arith in
      let n : e ≡ length ops = h.1 ∙ w.last last in
      (subst (λ j. IsRun ops i j) (sym n) (run_last i last), omega arith, omega arith))
      (cases_lt (i + 1) (length ops))
  here_ends ends i end e w p l (inr h) =
      let f = some_at ops i l in
      let g = some_at ops (i + 1) h.1 in
      (subst (λ j. IsRun ops i j) (sym h.2) (run_stops i f.0 g.0 p f.1 g.1 (h.0 f.0 g.0 f.1 g.1)), omega (arith, h.2), omega (arith, h.1, h.2))

  pub ends_more : (ends : List ℕ) (i end e : ℕ) → AreEndsFrom ops ends (i + 1) end → 0 < i → i < length ops → i < length ends → GoesOn ops i end e → AreEndsFrom ops (set ends i e) i e
  ends_more ends i end e w p l m h =
      let r = here_ends ends i end e w p l h in
      record {
        size = omega arith;
        last = λ n. absurd (omega arith);
        here = λ _. r;
        ends_run = λ k a b.
            ⊎_elim
            (λ u. subst (λ v. IsRun ops k v × (k < v) × (v ≤ length ops)) (sym (get_or-set_other ends i k e 0 (omega arith))) (w.ends_run k (omega arith) b))
            (λ u.
            let j : i ≡ k = omega arith in
            subst (λ n. IsRun ops n (get_or (set ends i e) n 0) × (n < get_or (set ends i e) n 0) × (get_or (set ends i e) n 0 ≤ length ops)) j
            (subst (λ v. IsRun ops i v × (i < v) × (v ≤ length ops)) (sym (get_or-set_same ends i e 0 m)) r))
            (cases_lt i k);
      }

-- ---- what the code compares: p at place i with the rows t of q behind it

module _ (ops : List Operator) (i : ℕ) (p q : Operator) (t : List ℤ) (l : i < length ops) (m : i + 1 < length ops) (at : p ≡ get_or ops i p) (next : q ≡ get_or ops (i + 1) q) (rows : t ≡ entries q.w) where
  pub next_same : rows_cmp (entries p.w) t ≡ Equal → (f g : Operator) → slice_get ops i ≡ Some f → slice_get ops (i + 1) ≡ Some g → f.w ≡ g.w
  next_same o f g a b =
      let pf : p ≡ f = one_there ops i p f (slice_get_read ops (length ops) i p refl l at) a in
      let qg : q ≡ g = one_there ops (i + 1) q g (slice_get_read ops (length ops) (i + 1) q refl m next) b in
      ap (λ (h : Operator). h.w) (sym pf) ∙ ap matrix_of (rows_tie (entries p.w) t o ∙ rows) ∙ ap (λ (h : Operator). h.w) qg

  pub next_other : rows_cmp (entries p.w) t ≢ Equal → (f g : Operator) → slice_get ops i ≡ Some f → slice_get ops (i + 1) ≡ Some g → f.w ≢ g.w
  next_other n f g a b e =
      let pf : p ≡ f = one_there ops i p f (slice_get_read ops (length ops) i p refl l at) a in
      let qg : q ≡ g = one_there ops (i + 1) q g (slice_get_read ops (length ops) (i + 1) q refl m next) b in
      let same : entries p.w ≡ t = ap entries (ap (λ (h : Operator). h.w) pf ∙ e ∙ ap (λ (h : Operator). h.w) (sym qg)) ∙ sym rows in
      n (subst (λ r. rows_cmp r t ≡ Equal) (sym same) (rows_itself t))

-- ---- where the opposite matrices begin

-- it is known of the members before place i
abbrev pub AreOppositesBefore : List Operator → List (Option ℕ) → ℕ → Type 0
AreOppositesBefore members opposites i = (k : ℕ) (f : Operator) → k < i → slice_get members k ≡ Some f → IsFirstIfAny members (scaled (negsuc 0) f.w) (get_or opposites k None)

pub opposites_more : (members : List Operator) (opposites : List (Option ℕ)) (i : ℕ) (found : Option ℕ) → i < length opposites → AreOppositesBefore members opposites i
    → ((f : Operator) → slice_get members i ≡ Some f → IsFirstIfAny members (scaled (negsuc 0) f.w) found) → AreOppositesBefore members (set opposites i found) (i + 1)
opposites_more members opposites i found l was next k f b p =
    ⊎_elim
    (λ a. subst (IsFirstIfAny members (scaled (negsuc 0) f.w)) (sym (get_or-set_other opposites i k found None (omega arith))) (was k f a p))
    (λ a.
    let same : i ≡ k = omega arith in
    subst (λ j. IsFirstIfAny members (scaled (negsuc 0) f.w) (get_or (set opposites i found) j None)) same
    (subst (IsFirstIfAny members (scaled (negsuc 0) f.w)) (sym (get_or-set_same opposites i found None l)) (next f (ap (slice_get members) same ∙ p))))
    (cases_lt k i)

pub opposite_read : (members seen : List Operator) (opposites : List (Option ℕ)) (i k : ℕ) → members ≡ seen → k ≡ i → AreOpposites members opposites
    → (f : Operator) → slice_get seen i ≡ Some f → IsFirstIfAny seen (scaled (negsuc 0) f.w) (get_or opposites k None)
opposite_read members seen opposites i k e q known f p =
    subst (λ v. IsFirstIfAny v (scaled (negsuc 0) f.w) (get_or opposites k None)) e
    (subst (λ j. IsFirstIfAny members (scaled (negsuc 0) f.w) (get_or opposites j None)) (sym q) (known i f (subst (λ v. slice_get v i ≡ Some f) (sym e) p)))
