-- Operators in order behind the first of a list, and the search among them by halving.
use Rattle.std.proofs.Common.{◌≡◌, ◌≢◌, ◌⊎◌, ℕ, zero, suc, ◌+◌, ◌<◌, ◌≤◌, List, [], ◌∷◌, length, get_or, drop, refl, sym, ap, ◌∙◌, subst, arith, Contains, inl, inr, ⊎_elim, Ordering, Less, Equal, Greater}
use Rattle.std.specs.List.Sorted.{IsStrictlySortedBy}
use Rattle.std.specs.Ordering.{ordering_reverse}
use Rattle.std.proofs.lemmas.Bool.{cases_lt}
use Rattle.std.proofs.lemmas.List.{get_or_default}
use Rattle.std.proofs.lemmas.Map.Keys.{Less-from_sorted}
use Rattle.lattice_algebra.specs.Operator.{Operator}
use Rattle.group_closure.specs.Order.{operator_cmp}
use Rattle.group_closure.proofs.Ordered.{operator_cmp_total}

pub before_later : (ops : List Operator) (i j : ℕ) (d : Operator) → IsStrictlySortedBy operator_cmp (drop 1 ops) → 0 < i → i < j → j < length ops → operator_cmp (get_or ops i d) (get_or ops j d) ≡ Less
before_later [] i j d s p l m = absurd (omega arith)
before_later (f ∷ ops) zero j d s p l m = absurd (omega arith)
before_later (f ∷ ops) (suc i) zero d s p l m = absurd (omega arith)
before_later (f ∷ ops) (suc i) (suc j) d s p l m = Less-from_sorted operator_cmp ops i j d s (omega arith) (omega arith)

-- an operator ties with itself
ties_itself : (f : Operator) → operator_cmp f f ≡ Equal
ties_itself f = by (operator_cmp f f) (operator_cmp_total.antisymm f f)
  where
    by : (o : Ordering) → o ≡ ordering_reverse o → o ≡ Equal
    by Less e = cc
    by Equal e = refl
    by Greater e = cc

-- f stands nowhere but from low to before high
pub record IsNarrowed (ops : List Operator) (f : Operator) (low high : ℕ) : Type 0 where
  pub first : (d : Operator) → get_or ops 0 d ≢ f
  pub start : 0 < low
  pub end_ : high ≤ length ops
  pub below : (k : ℕ) (d : Operator) → 0 < k → k < low → operator_cmp (get_or ops k d) f ≡ Less
  pub above : (k : ℕ) (d : Operator) → high ≤ k → k < length ops → operator_cmp (get_or ops k d) f ≡ Greater

module _ (ops : List Operator) (f : Operator) (sorted : IsStrictlySortedBy operator_cmp (drop 1 ops)) where
  pub narrowed_all : 0 < length ops → (m : Operator) → m ≡ get_or ops 0 m → m ≢ f → IsNarrowed ops f 1 (length ops)
  narrowed_all l m q n = record {
    first = λ d e. n (q ∙ get_or_default ops 0 m d l ∙ e);
    start = omega arith;
    end_ = omega arith;
    below = λ k d p b. absurd (omega arith);
    above = λ k d p b. absurd (omega arith);
  }

  pub narrowed_up : (low high middle : ℕ) (m : Operator) → IsNarrowed ops f low high → low ≤ middle → middle < high → m ≡ get_or ops middle m → operator_cmp m f ≡ Less → IsNarrowed ops f (middle + 1) high
  narrowed_up low high middle m w a b q o =
      let l : middle < length ops = omega (arith, w.end_) in
      let p : 0 < middle = omega (arith, w.start) in
      let here : (d : Operator) → operator_cmp (get_or ops middle d) f ≡ Less = λ d. subst (λ (g : Operator). operator_cmp g f ≡ Less) (q ∙ get_or_default ops middle m d l) o in
      record {
        first = w.first;
        start = omega arith;
        end_ = w.end_;
        below = λ k d r s.
            ⊎_elim
            (λ t. operator_cmp_total.trans (get_or ops k d) (get_or ops middle d) f (before_later ops k middle d sorted r t l) (here d))
            (λ t. let e : middle ≡ k = omega arith in subst (λ j. operator_cmp (get_or ops j d) f ≡ Less) e (here d))
            (cases_lt k middle);
        above = w.above;
      }

  pub narrowed_down : (low high middle : ℕ) (m : Operator) → IsNarrowed ops f low high → low ≤ middle → middle < high → m ≡ get_or ops middle m → operator_cmp m f ≡ Greater → IsNarrowed ops f low middle
  narrowed_down low high middle m w a b q o =
      let l : middle < length ops = omega (arith, w.end_) in
      let p : 0 < middle = omega (arith, w.start) in
      let here : (d : Operator) → operator_cmp (get_or ops middle d) f ≡ Greater = λ d. subst (λ (g : Operator). operator_cmp g f ≡ Greater) (q ∙ get_or_default ops middle m d l) o in
      record {
        first = w.first;
        start = w.start;
        end_ = omega arith;
        below = w.below;
        above = λ k d r s.
            ⊎_elim
            (λ t.
            let up : operator_cmp f (get_or ops middle d) ≡ Less = operator_cmp_total.antisymm f (get_or ops middle d) ∙ ap ordering_reverse (here d) in
            operator_cmp_total.antisymm (get_or ops k d) f ∙ ap ordering_reverse (operator_cmp_total.trans f (get_or ops middle d) (get_or ops k d) up (before_later ops middle k d sorted p t s)))
            (λ t. let e : middle ≡ k = omega arith in subst (λ j. operator_cmp (get_or ops j d) f ≡ Greater) e (here d))
            (cases_lt middle k);
      }

  pub narrowed_none : (low high : ℕ) → IsNarrowed ops f low high → high ≤ low → Contains ops f → ⊥
  narrowed_none low high w e c = by c.0 c.1 c.2 (cases_lt 0 c.0) (cases_lt c.0 low)
    where
      by : (k : ℕ) → k < length ops → get_or ops k f ≡ f → (0 < k) ⊎ (k ≤ 0) → (k < low) ⊎ (low ≤ k) → ⊥
      by k l q (inr z) s = let i : k ≡ 0 = omega arith in w.first f (subst (λ j. get_or ops j f ≡ f) i q)
      by k l q (inl p) (inl s) = let o : Less ≡ Equal = sym (subst (λ (g : Operator). operator_cmp g f ≡ Less) q (w.below k f p s)) ∙ ties_itself f in cc
      by k l q (inl p) (inr s) = let o : Greater ≡ Equal = sym (subst (λ (g : Operator). operator_cmp g f ≡ Greater) q (w.above k f (omega arith) l)) ∙ ties_itself f in cc
