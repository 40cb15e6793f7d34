-- Operators close and have a group list, or are unclosed: products are taken until nothing new comes, as `close` does.
use Rattle.std.proofs.Common.{◌≡◌, ◌≢◌, ◌⊎◌, ◌+◌, ℕ, zero, suc, List, [], ◌∷◌, ◌++◌, length, refl, sym, ap, ◌∙◌, subst, arith, All, Contains, inl, inr, ⊎_elim, length-append, Ordering, Less, Equal, Greater}
use Rattle.std.specs.List.{list_any}
use Rattle.std.specs.Ordering.{ordering_reverse}
use Rattle.std.proofs.lemmas.Bool.{cases_Bool, false≢true}
use Rattle.std.proofs.lemmas.List.Elements.{All-nil, All-cons, All-contains, Contains-get_or}
use Rattle.std.proofs.lemmas.List.Kept.{AllPairs-cons}
use Rattle.std.proofs.lemmas.Map.Keys.{sorted_from_all_adjacent}
use Rattle.finite_groups.proofs.Closing as closing
use Rattle.finite_groups.proofs.Members as lists
use Rattle.finite_groups.proofs.Sorting as sorting
use Rattle.lattice_algebra.specs.Matrix.{◌·◌}
use Rattle.lattice_algebra.specs.Operator.{Operator, IsOperator, HasEntriesWithin, product, identity_operator}
use Rattle.lattice_algebra.proofs.Equality.{operator_eq, contains-is}
use Rattle.lattice_algebra.proofs.Numbers.{entries_or_not}
use Rattle.exact_ops.specs.Narrow.{IsNarrow}
use Rattle.exact_ops.specs.declared.TheConstants.{UNIT}
use Rattle.group_closure.specs.declared.TheConstants.{MAX_OPERATORS}
use Rattle.group_closure.specs.Order.{operator_cmp}
use Rattle.group_closure.specs.Words.{Span, Closes, IsUnclosed}
use Rattle.group_closure.specs.GroupList.{IsGroupList}
use Rattle.group_closure.specs.Steps.{IsPartial, HasProducts, IsGenerated}
use Rattle.group_closure.proofs.CellOperators.{cell_operators}
use Rattle.group_closure.proofs.Growing.{AreDone, narrow_identity, partial_one, partial_added, wide_product, too_many, generated}
use Rattle.group_closure.proofs.Lists.{closes_by, first_not_later}
use Rattle.group_closure.proofs.Ordered.{operator_cmp_total, operator_ties}

-- ---- what can be decided

-- where each element has P or has Q, all have P or some has Q
all_or_some : {A : Type 0} (P Q : A → Type 0) → ((x : A) → P x ⊎ Q x) → (xs : List A) → All P xs ⊎ ((x : A) × Contains xs x × Q x)
all_or_some P Q which [] = inl (All-nil P)
all_or_some {A} P Q which (x ∷ xs) = by (which x) (all_or_some P Q which xs)
  where
    by : P x ⊎ Q x → All P xs ⊎ ((y : A) × Contains xs y × Q y) → All P (x ∷ xs) ⊎ ((y : A) × Contains (x ∷ xs) y × Q y)
    by (inl p) (inl ps) = inl (All-cons P x xs p ps)
    by (inl p) (inr r) = inr (r.0, lists.Contains-later r.0 x xs r.1, r.2)
    by (inr q) rest = inr (x, lists.Contains-here x xs, q)

contains_or_not : (ops : List Operator) (f : Operator) → Contains ops f ⊎ (Contains ops f → ⊥)
contains_or_not ops f =
    let is = contains-is ops f (list_any (λ g. operator_eq g f) ops) refl in
    ⊎_elim (λ t. inl (is.0 t)) (λ e. inr (λ c. false≢true (sym e ∙ is.1 c))) (cases_Bool (list_any (λ g. operator_eq g f) ops))

-- ---- products, until nothing new comes

module _ (generators : List Operator) (narrow : All IsNarrow generators) where
  abbrev MadeOrUnclosed : Type 0
  MadeOrUnclosed = ((made : List Operator) × IsGenerated generators made) ⊎ IsUnclosed generators

  -- the product of f by some generator is not listed
  abbrev LacksProduct : List Operator → Operator → Type 0
  LacksProduct ops f = (g : Operator) × Contains generators g × (Contains ops (product UNIT f g) → ⊥)

  done_or_not : (ops : List Operator) → AreDone generators ops (length ops) ⊎ ((f : Operator) × Contains ops f × LacksProduct ops f)
  done_or_not ops = all_or_some (λ f. HasProducts generators f ops) (LacksProduct ops) (λ f. all_or_some (λ g. Contains ops (product UNIT f g)) (λ g. Contains ops (product UNIT f g) → ⊥) (λ g. contains_or_not ops (product UNIT f g)) generators) ops

  -- a product is added, and the rest follows; or it has an entry beyond 2
  added_or_wide : (n : ℕ) (ops : List Operator) → IsPartial generators ops → suc n + length ops ≡ MAX_OPERATORS + 1
      → ((more : List Operator) → IsPartial generators more → n + length more ≡ MAX_OPERATORS + 1 → MadeOrUnclosed)
      → (f : Operator) → Contains ops f → LacksProduct ops f → MadeOrUnclosed
  added_or_wide n ops p e rest f c lacks =
      let g = lacks.0 in
      let more = ops ++ product UNIT f g ∷ [] in
      ⊎_elim
      (λ s. rest more (partial_added generators ops more f g p narrow c lacks.1 s (inr (lacks.2, refl))) (omega (arith, length-append ops (product UNIT f g ∷ []))))
      (λ wide. inr (wide_product generators ops f g p c lacks.1 wide))
      (entries_or_not 2 (f.w · g.w))

  -- room for n more
  grow : (n : ℕ) (ops : List Operator) → IsPartial generators ops → n + length ops ≡ MAX_OPERATORS + 1 → MadeOrUnclosed
  grow zero ops p e = inr (too_many generators ops p (omega arith))
  grow (suc n) ops p e =
      ⊎_elim
      (λ done. inl (ops, generated generators ops narrow p (omega arith) done))
      (λ r. added_or_wide n ops p e (grow n) r.0 r.1 r.2)
      (done_or_not ops)

  made_or_unclosed : MadeOrUnclosed
  made_or_unclosed = grow MAX_OPERATORS (identity_operator ∷ []) (partial_one generators narrow_identity) (omega arith)

-- ---- in order

abbrev IsBefore : Operator → Operator → Type 0
IsBefore f g = operator_cmp f g ≡ Less

which_before : (f g : Operator) → IsBefore f g ⊎ ((f ≡ g) ⊎ IsBefore g f)
which_before f g = by (operator_cmp f g) refl
  where
    by : (o : Ordering) → operator_cmp f g ≡ o → IsBefore f g ⊎ ((f ≡ g) ⊎ IsBefore g f)
    by Less e = inl e
    by Equal e = inr (inl (operator_ties f g e))
    by Greater e = inr (inr (operator_cmp_total.antisymm g f ∙ ap ordering_reverse e))

not_before_itself : (f g : Operator) → f ≡ g → IsBefore f g → ⊥
not_before_itself f g e b =
    let less : operator_cmp f f ≡ Less = subst (IsBefore f) (sym e) b in
    let same : Less ≡ ordering_reverse Less = sym less ∙ operator_cmp_total.antisymm f f ∙ ap ordering_reverse less in
    absurd cc

-- what was generated, in order
listed_in_order : (generators made : List Operator) → IsGenerated generators made → (members : List Operator) × IsGroupList generators members
listed_in_order generators [] p = let e = p.first in absurd cc
listed_in_order generators (one ∷ rest) p =
    let r = sorting.sorted IsBefore operator_cmp_total.trans which_before rest in
    let into = λ (f : Operator) (c : Contains (one ∷ rest) f). ⊎_elim (λ e. subst (Contains (one ∷ r.0)) e (lists.Contains-here one r.0)) (λ d. lists.Contains-later f one r.0 ((r.2 f).0 d)) (lists.Contains-cases f one rest c) in
    let back = λ (f : Operator) (c : Contains (one ∷ r.0) f). ⊎_elim (λ e. subst (Contains (one ∷ rest)) e (lists.Contains-here one rest)) (λ d. lists.Contains-later f one rest ((r.2 f).1 d)) (lists.Contains-cases f one r.0 c) in (
      one ∷ r.0,
      record {
        first = p.first;
        span = λ f. ((λ c. (p.span f).0 (back f c)), (λ s. into f ((p.span f).1 s)));
        distinct = AllPairs-cons (λ f g. f ≢ g) one r.0 (λ k d l q. first_not_later one rest p.distinct ((r.2 one).1 (subst (Contains r.0) (sym q) (Contains-get_or r.0 k d l)))) (λ i j d l m q. not_before_itself _ _ q (r.1 i j d l m));
        sorted = sorted_from_all_adjacent operator_cmp_total r.0 identity_operator (λ k l. r.1 k (k + 1) identity_operator (omega arith) l);
      },
    )

-- ---- so a list is one or the other

span_listed : (list : List Operator) (f : Operator) → IsOperator UNIT f → Contains list f → Span list f
span_listed list f v c = subst (Span list) (cell_operators.left f v) (closing.span_gen cell_operators list identity_operator f (closing.span_one cell_operators list) c)

abbrev pub ClosesOrNot : List Operator → Type 0
ClosesOrNot list = ((members : List Operator) × Closes list × IsGroupList list members) ⊎ IsUnclosed list

closed_in_order : (list : List Operator) → All IsNarrow list → ClosesOrNot list
closed_in_order list narrow =
    ⊎_elim
    (λ r. let m = listed_in_order list r.0 r.1 in inl (m.0, closes_by list r.0 r.1.span r.1.within r.1.narrow, m.1))
    (λ u. inr u)
    (made_or_unclosed list narrow)

pub closes_or_not : (list : List Operator) → All (IsOperator UNIT) list → ClosesOrNot list
closes_or_not list v =
    ⊎_elim
    (λ h. closed_in_order list (λ k d l. record { is_operator = v k d l; within_two = h k d l }))
    (λ r. inr (inr (r.0, record { spanned = span_listed list r.0 (All-contains (IsOperator UNIT) list r.0 v r.1) r.1; wide = r.2 })))
    (all_or_some (λ (f : Operator). HasEntriesWithin 2 f.w) (λ f. HasEntriesWithin 2 f.w → ⊥) (λ f. entries_or_not 2 f.w) list)
