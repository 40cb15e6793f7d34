-- Laws of Span, of group lists and of groups.
use Rattle.std.proofs.Common.{◌≡◌, ◌≤◌, ◌↔◌, List, [], ◌∷◌, length, drop, sym, ap, ◌∙◌, subst, arith, inl, inr, All, Contains, IsPermutation, IsSorted, slice_get, get_or, le_trans, suc}
use Rattle.std.proofs.lemmas.List.Elements.{All-contains, All-weaker, Contains-get_or}
use Rattle.std.proofs.lemmas.List.Sorted.{Contains-permutation, IsPermutation-sym, length_permutation, All-permutation}
use Rattle.std.proofs.lemmas.Map.Made.{IsDistinct-from_AllPairs, AllPairs-from_IsDistinct}
use Rattle.std.proofs.lemmas.Map.Keys.{IsDistinct-IsPermutation}
use Rattle.finite_groups.specs.Words.{IsClosedList}
use Rattle.finite_groups.proofs.Closing as closing
use Rattle.finite_groups.proofs.Members as members
use Rattle.lattice_algebra.specs.Operator.{Operator, IsOperator, HasEntriesWithin}
use Rattle.exact_ops.specs.Narrow.{IsNarrow}
use Rattle.exact_ops.specs.declared.TheConstants.{UNIT}
use Rattle.group_closure.specs.declared.TheConstants.{MAX_OPERATORS}
use Rattle.group_closure.specs.Order.{operator_cmp}
use Rattle.group_closure.specs.Words.{IsLetter, Span, Closes, AreDistinct, IsUnclosed}
use Rattle.group_closure.specs.GroupList.{IsGroupList, IsGroup}
use Rattle.group_closure.specs.Steps.{IsGenerated}
use Rattle.group_closure.proofs.CellOperators.{cell_operators}
use Rattle.finite_groups.proofs.Ordered.{one_order_after, strict_from_sorted}
use Rattle.group_closure.proofs.Ordered.{operator_cmp_total, operator_ties}

-- ---- Span

pub are_operators : (ops : List Operator) → All IsNarrow ops → All (IsOperator UNIT) ops
are_operators ops n = All-weaker IsNarrow (IsOperator UNIT) (λ f h. h.is_operator) ops n

-- more listed operators have a greater Span
pub span_more : (list other : List Operator) → ((f : Operator) → Contains list f → Contains other f) → (f : Operator) → Span list f → Span other f
span_more list other h f s = (s.0, All-weaker (IsLetter list) (IsLetter other) letter s.0 s.1, s.2)
  where
    letter : (e : Operator) → IsLetter list e → IsLetter other e
    letter e (inl c) = inl (h e c)
    letter e (inr l) = inr (l.0, h l.0 l.1, l.2, l.3)

pub unclosed_more : (list other : List Operator) → ((f : Operator) → Contains list f → Contains other f) → IsUnclosed list → IsUnclosed other
unclosed_more list other h (inl (many, m)) = inl (many, record { spanned = All-weaker (Span list) (Span other) (span_more list other h) many m.spanned; distinct = m.distinct; beyond = m.beyond })
unclosed_more list other h (inr (f, w)) = inr (f, record { spanned = span_more list other h f w.spanned; wide = w.wide })

-- no list is unclosed and closes
pub not_closing : (list : List Operator) → IsUnclosed list → Closes list → ⊥
not_closing list (inl (many, m)) c = closing.too_many cell_operators (λ f. HasEntriesWithin 2 f.w) MAX_OPERATORS list many (IsDistinct-from_AllPairs cell_operators.same many m.distinct) m.spanned m.beyond c
not_closing list (inr (f, w)) c = w.wide (c.3 f w.spanned)

-- ---- group lists

pub closes_by : (list members : List Operator) → ((f : Operator) → Contains members f ↔ Span list f) → length members ≤ MAX_OPERATORS → All IsNarrow members → Closes list
closes_by list members s l n = (members, l, λ f h. (s f).1 h, λ f h. (All-contains IsNarrow members f n ((s f).1 h)).within_two)

pub first_not_later : (f : Operator) (ops : List Operator) → AreDistinct (f ∷ ops) → Contains ops f → ⊥
first_not_later f ops d m = d 0 (suc m.0) f (omega arith) (omega (arith, m.1)) (sym m.2)

-- a list has one group list at most
pub one_list : (list a b : List Operator) → IsGroupList list a → IsGroupList list b → a ≡ b
one_list list [] b p q = let e = p.first in cc
one_list list (f ∷ a) [] p q = let e = q.first in cc
one_list list (f ∷ a) (g ∷ b) p q =
    let i = p.first in
    let j = q.first in
    let e : g ≡ f = cc in
    let d : AreDistinct (f ∷ b) = subst (λ (v : Operator). AreDistinct (v ∷ b)) e q.distinct in
    one_order_after operator_cmp operator_cmp_total f a b (first_not_later f a p.distinct) (first_not_later f b d) p.sorted q.sorted (λ z. (
      (λ c. subst (λ (v : Operator). Contains (v ∷ b) z) e ((q.span z).1 ((p.span z).0 c))),
      (λ c. (p.span z).1 ((q.span z).0 (subst (λ (v : Operator). Contains (v ∷ b) z) (sym e) c))),
    ))
    ∙ ap (λ (v : Operator). v ∷ b) (sym e)

-- and lists of the same operators have the same
pub same_list : (list other ops : List Operator) → ((f : Operator) → Contains list f ↔ Contains other f) → IsGroupList list ops → IsGroupList other ops
same_list list other ops h p = record {
  first = p.first;
  span = λ f. ((λ c. span_more list other (λ g. (h g).0) f ((p.span f).0 c)), (λ s. (p.span f).1 (span_more other list (λ g. (h g).1) f s)));
  distinct = p.distinct;
  sorted = p.sorted;
}

-- ---- groups

-- a group is a closed list, as the laws of finite groups speak of it
pub closed_list : (ops : List Operator) → IsGroup ops → IsClosedList cell_operators ops
closed_list [] p = let e = p.first in cc
closed_list (f ∷ ops) p = record {
  distinct = IsDistinct-from_AllPairs cell_operators.same (f ∷ ops) p.distinct;
  valid = are_operators (f ∷ ops) p.narrow;
  has_one = let i = p.first in let e : f ≡ cell_operators.one = cc in subst (λ (v : Operator). Contains (f ∷ ops) v) e (members.Contains-here f ops);
  closed = p.closed;
}

-- ---- sorting what was generated

distinct_rest : (ops : List Operator) → AreDistinct ops → AreDistinct (drop 1 ops)
distinct_rest [] d = d
distinct_rest (f ∷ ops) d = λ i j e l m. d (suc i) (suc j) e (omega arith) (omega arith)

pub list_of_generated : (generators ops sorted : List Operator) → IsGenerated generators ops → IsPermutation ops sorted → slice_get sorted 0 ≡ slice_get ops 0 → IsSorted operator_cmp (drop 1 sorted) → IsGroupList generators sorted
list_of_generated generators ops sorted p moved f s =
    let d : AreDistinct sorted = AllPairs-from_IsDistinct cell_operators.same sorted (IsDistinct-IsPermutation cell_operators.eq (members.laws cell_operators.eq cell_operators.same).symm ops sorted moved (IsDistinct-from_AllPairs cell_operators.same ops p.distinct)) in
    record {
      first = f ∙ p.first;
      span = λ g. ((λ c. (p.span g).0 (Contains-permutation sorted ops g (IsPermutation-sym ops sorted moved) c)), (λ h. Contains-permutation ops sorted g moved ((p.span g).1 h)));
      distinct = d;
      sorted = strict_from_sorted operator_cmp operator_cmp_total operator_ties (drop 1 sorted) cell_operators.one s (distinct_rest sorted d);
    }

-- the group list of operators that close is a group
pub group_of_closing : (list ops : List Operator) → All (IsOperator UNIT) list → Closes list → IsGroupList list ops → IsGroup ops
group_of_closing list ops v c p =
    let distinct = IsDistinct-from_AllPairs cell_operators.same ops p.distinct in
    let short : length ops ≤ length c.0 = members.pigeonhole cell_operators.eq cell_operators.same ops c.0 distinct (λ f m. c.2 f ((p.span f).0 m)) in
    record {
      first = p.first;
      distinct = p.distinct;
      closed = (closing.closed_from_span cell_operators list ops v distinct p.span).closed;
      sorted = p.sorted;
      narrow = λ k e l.
          let s = (p.span (get_or ops k e)).0 (Contains-get_or ops k e l) in
          record { is_operator = closing.valid_span cell_operators list v (get_or ops k e) s; within_two = c.3 (get_or ops k e) s };
      within = le_trans short c.1;
    }

pub narrow_list : {generators : List Operator} (list ops : List Operator) → All (Contains ops) list → IsGenerated generators ops → All IsNarrow list
narrow_list list ops all p = λ k d l. All-contains IsNarrow ops (get_or list k d) p.narrow (all k d l)

-- members that have what is listed, and are made by listed ones, are what the list generates
pub generated_by_list : (list generators ops : List Operator) → All (Contains list) generators → All (Contains ops) list → All IsNarrow generators → IsGenerated generators ops → IsGenerated list ops
generated_by_list list generators ops listed all n p =
    let distinct = IsDistinct-from_AllPairs cell_operators.same ops p.distinct in
    let closed = closing.closed_from_span cell_operators generators ops (are_operators generators n) distinct p.span in
    record {
      first = p.first;
      span = λ f. (
        (λ c. span_more generators list (λ g. All-contains (Contains list) generators g listed) f ((p.span f).0 c)),
        closing.spans cell_operators list ops (are_operators list (narrow_list list ops all p)) distinct closed.valid closed.has_one (λ x g c d. closed.closed x g c (All-contains (Contains ops) list g all d)) f,
      );
      distinct = p.distinct;
      narrow = p.narrow;
      within = p.within;
    }

-- what `close` answers with
pub record IsGroupOf (list ops : List Operator) : Type 0 where
  pub listed : IsGroupList list ops
  pub group : IsGroup ops
  pub closes : Closes list

of_generated : (list made sorted : List Operator) → All IsNarrow list → IsGenerated list made → IsPermutation made sorted → slice_get sorted 0 ≡ slice_get made 0 → IsSorted operator_cmp (drop 1 sorted) → IsGroupOf list sorted
of_generated list made sorted v p m f s =
    let k = list_of_generated list made sorted p m f s in
    let n = All-permutation IsNarrow made sorted m p.narrow in
    let l : length sorted ≤ MAX_OPERATORS = omega (arith, length_permutation made sorted m, p.within) in
    let c = closes_by list sorted k.span l n in
    record { listed = k; group = group_of_closing list sorted (are_operators list v) c k; closes = c }

-- the same of the lists that `close` lends to the functions that it calls
pub group_of_sorted : (list made lent sorted : List Operator) → All IsNarrow list → IsGenerated list made → lent ≡ made → IsPermutation lent sorted → slice_get sorted 0 ≡ slice_get lent 0 → IsSorted operator_cmp (drop 1 sorted) → IsGroupOf list sorted
group_of_sorted list made lent sorted v p e m f s =
    of_generated list made sorted v p (subst (λ v. IsPermutation v sorted) e m) (f ∙ ap (λ v. slice_get v 0) e) s
