-- Lists of elements that a rule picks, in the order of their operators.
use Rattle.std.proofs.Common.{◌≡◌, ◌≢◌, ◌++◌, ◌∷◌, [], ◌≤◌, ◌+◌, ◌<◌, ◌↔◌, ℕ, zero, suc, List, Some, length, drop, slice_get, get_or, Contains, AllPairs, inl, inr, ⊎_elim, Ordering, Less, ap, ap₂, sym, subst, ◌∙◌, arith}
use Rattle.std.specs.Ordering.{on}
use Rattle.std.specs.List.Sorted.{IsStrictlySortedBy}
use Rattle.std.proofs.lemmas.Bool.{cases_lt}
use Rattle.std.proofs.lemmas.Option.{slice_get-get_or, slice_get_within, get_or_from_slice_get}
use Rattle.std.proofs.lemmas.List.Elements.{Contains-append_left, Contains-append_right, Contains-append_cases, Contains-get_or, recursion_from_All}
use Rattle.std.proofs.lemmas.Map.Keys.{Less-from_sorted}
use Rattle.finite_groups.proofs.Members as lists
use Rattle.finite_groups.proofs.Pairs.{AllPairs-append_one}
use Rattle.lattice_algebra.specs.Operator.{Operator}
use Rattle.lattice_algebra.specs.Map.{Map, ◌∘◌, identity_map, operator_of}
use Rattle.lattice_algebra.proofs.Operators.{one_is}
use Rattle.exact_ops.specs.declared.TheConstants.{UNIT}
use Rattle.exact_ops.proofs.Narrow.{some_parts}
use Rattle.group_closure.specs.declared.TheConstants.{MAX_OPERATORS}
use Rattle.group_closure.specs.Order.{operator_cmp}
use Rattle.group_closure.specs.GroupList.{IsGroup}
use Rattle.group_closure.proofs.Places.{contains_at, one_place, same_at}
use Rattle.space_groups.specs.Space.{IsElement, ScaledPoint, moved}
use Rattle.space_groups.proofs.Divided.{one_rotation}
use Rattle.space_groups.proofs.Elements.{space}
use Rattle.site_symmetry.specs.OrderedSite.{StandsBefore}
use Rattle.site_symmetry.proofs.SpaceOfGroup.{space_of}
use Rattle.affine_sets.specs.Subs.{IsSubList}

-- ---- what is sorted

pub sorted_from_pairs : {K : Type 0} (c : K → K → Ordering) (ks : List K) → AllPairs (λ x y. c x y ≡ Less) ks → IsStrictlySortedBy c ks
unfolding IsStrictlySortedBy
sorted_from_pairs c [] h = tt
sorted_from_pairs c (k ∷ ks) h = (
  recursion_from_All (λ y. c k y ≡ Less) ks (λ j d l. h 0 (suc j) d (omega arith) (omega arith)),
  sorted_from_pairs c ks (λ i j d l m. h (suc i) (suc j) d (omega arith) (omega arith)),
)

rotation_of : (s t : Map) → operator_of UNIT s ≡ operator_of UNIT t → s.w ≡ t.w
unfolding operator_of
rotation_of s t e = ap (λ (f : Operator). f.w) e

after_first : (members : List Operator) (f h : Operator) (p q : ℕ) → IsStrictlySortedBy operator_cmp (drop 1 members) → 0 < p → p < q → slice_get members p ≡ Some f → slice_get members q ≡ Some h → operator_cmp f h ≡ Less
after_first [] f h p q s z l a b = let w = slice_get_within [] p f a in absurd (omega (arith, w))
after_first (m ∷ ms) f h zero q s z l a b = absurd (omega arith)
after_first (m ∷ ms) f h (suc p) zero s z l a b = absurd (omega arith)
after_first (m ∷ ms) f h (suc p) (suc q) s z l a b =
    let w = slice_get_within (m ∷ ms) (suc q) h b in
    let x : get_or ms p f ≡ f = get_or_from_slice_get (m ∷ ms) (suc p) f f a in
    let y : get_or ms q f ≡ h = get_or_from_slice_get (m ∷ ms) (suc q) h f b in
    sym (ap₂ operator_cmp x y) ∙ Less-from_sorted operator_cmp ms p q f s (omega (arith, l)) (omega (arith, w))

-- ---- what a rule picks from the first operators

module _ (members : List Operator) (P : Map → Type 0) where
  abbrev pub IsPicked : ℕ → Map → Type 0
  IsPicked i s = (k : ℕ) × (k < i) × (slice_get members k ≡ Some (operator_of UNIT s)) × P s

  pub record ArePicked (i : ℕ) (list : List Map) : Type 0 where
    pub exactly : (s : Map) → Contains list s ↔ IsPicked i s
    pub ordered : AllPairs (StandsBefore members) list

  pub none_picked : ArePicked 0 []
  none_picked = record {
    exactly = λ s. ((λ c. lists.not_in_nil s c), (λ h. absurd (omega (arith, h.1))));
    ordered = λ i j d l m. absurd (omega arith);
  }

  later : (i : ℕ) (s : Map) → IsPicked i s → IsPicked (i + 1) s
  later i s h = (h.0, omega (arith, h.1), h.2, h.3)

  pub one_picked : (i : ℕ) (list : List Map) (s : Map) → IsGroup members → ArePicked i list → slice_get members i ≡ Some (operator_of UNIT s) → P s
      → ((t : Map) → operator_of UNIT t ≡ operator_of UNIT s → P t → s ≡ t) → ArePicked (i + 1) (list ++ s ∷ [])
  one_picked i list s g was e p only =
      let one : (t : Map) → Contains (s ∷ []) t → s ≡ t = λ t c. ⊎_elim (λ a. a) (λ a. lists.not_in_nil t a) (lists.Contains-cases t s [] c) in
      record {
        exactly = λ t. (
          (λ c. ⊎_elim (λ a. later i t ((was.exactly t).0 a)) (λ a. subst (IsPicked (i + 1)) (one t a) (i, omega arith, e, p)) (Contains-append_cases list (s ∷ []) t c)),
          (λ r. elim (cases_lt r.0 i) [
            | inl l ↦ Contains-append_left list (s ∷ []) t ((was.exactly t).1 (r.0, l, r.2, r.3))
            | inr l ↦
                let same : r.0 ≡ i = omega (arith, r.1, l) in
                let at : slice_get members i ≡ Some (operator_of UNIT t) = subst (λ k. slice_get members k ≡ Some (operator_of UNIT t)) same r.2 in
                subst (Contains (list ++ s ∷ [])) (only t (same_at members (operator_of UNIT t) (operator_of UNIT s) i at e) r.3) (Contains-append_right list (s ∷ []) s (lists.Contains-here s []))
          ]),
        );
        ordered = AllPairs-append_one (StandsBefore members) list s was.ordered (λ t c.
            let r = (was.exactly t).0 c in
            λ j k a b.
            let first : j ≡ r.0 = one_place members (operator_of UNIT t) j r.0 g.distinct a r.2 in
            let second : k ≡ i = one_place members (operator_of UNIT s) k i g.distinct b e in
            omega (arith, first, second, r.1));
      }

  pub no_picked : (i : ℕ) (list : List Map) (f : Operator) → ArePicked i list → slice_get members i ≡ Some f → ((t : Map) → operator_of UNIT t ≡ f → P t → ⊥) → ArePicked (i + 1) list
  no_picked i list f was q none = record {
    exactly = λ t. (
      (λ c. later i t ((was.exactly t).0 c)),
      (λ r. elim (cases_lt r.0 i) [
        | inl l ↦ (was.exactly t).1 (r.0, l, r.2, r.3)
        | inr l ↦
            let same : r.0 ≡ i = omega (arith, r.1, l) in
            let at : slice_get members i ≡ Some (operator_of UNIT t) = subst (λ k. slice_get members k ≡ Some (operator_of UNIT t)) same r.2 in
            absurd (none t (same_at members (operator_of UNIT t) f i at q) r.3)
      ]),
    );
    ordered = was.ordered;
  }

  -- ---- all of them

  pub picked_exactly : (i : ℕ) (list : List Map) → length members ≤ i → ArePicked i list → (s : Map) → Contains list s ↔ (IsElement UNIT members s × P s)
  picked_exactly i list l h s = (
    (λ c. let r = (h.exactly s).0 c in (contains_at members (operator_of UNIT s) r.0 r.2, r.3)),
    (λ a. let c = a.0 in (h.exactly s).1 (c.0, omega (arith, c.1, l), slice_get-get_or members c.0 (operator_of UNIT s) c.1 ∙ ap Some c.2, a.1)),
  )

  place_at : (i : ℕ) (list : List Map) → ArePicked i list → (j : ℕ) (d : Map) → j < length list → IsPicked i (get_or list j d)
  place_at i list h j d l = (h.exactly (get_or list j d)).0 (Contains-get_or list j d l)

  pub picked_apart : (i : ℕ) (list : List Map) → ArePicked i list → AllPairs (λ s t. s ≢ t) list
  picked_apart i list h j k d l m e =
      let r = place_at i list h j d (omega (arith, l, m)) in
      let b = h.ordered j k d l m r.0 r.0 r.2 (r.2 ∙ ap (λ v. Some (operator_of UNIT v)) e) in
      omega (arith, b)

  -- the first is the identity
  first_identity : (i : ℕ) (list : List Map) → IsGroup members → ArePicked i list → Contains list identity_map → slice_get list 0 ≡ Some identity_map
  first_identity i list g h c = at c.0 c.1 c.2
    where
      none : slice_get members 0 ≡ Some (operator_of UNIT identity_map)
      none = g.first ∙ ap Some (sym (one_is UNIT some_parts))

      at : (k : ℕ) → k < length list → get_or list k identity_map ≡ identity_map → slice_get list 0 ≡ Some identity_map
      at zero l e = slice_get-get_or list 0 identity_map l ∙ ap Some e
      at (suc k) l e =
          let r = place_at i list h 0 identity_map (omega (arith, l)) in
          let b = h.ordered 0 (suc k) identity_map (omega arith) l r.0 0 r.2 (none ∙ ap (λ v. Some (operator_of UNIT v)) (sym e)) in
          absurd (omega (arith, b))

  -- the others stand in the order of their operators
  rest_sorted : (i : ℕ) (list : List Map) → IsGroup members → ArePicked i list → AllPairs (λ s t. on (operator_of UNIT) operator_cmp s t ≡ Less) (drop 1 list)
  rest_sorted i [] g h j k d l m = absurd (omega (arith, m))
  rest_sorted i (first ∷ list) g h j k d l m =
      let a = place_at i (first ∷ list) h 0 d (omega arith) in
      let r = place_at i (first ∷ list) h (suc j) d (omega (arith, l, m)) in
      let t = place_at i (first ∷ list) h (suc k) d (omega (arith, m)) in
      let more = h.ordered 0 (suc j) d (omega arith) (omega (arith, l, m)) a.0 r.0 a.2 r.2 in
      let less = h.ordered (suc j) (suc k) d (omega (arith, l)) (omega (arith, m)) r.0 t.0 r.2 t.2 in
      after_first members (operator_of UNIT (get_or list j d)) (operator_of UNIT (get_or list k d)) r.0 t.0 g.sorted (omega (arith, more)) less r.2 t.2

-- ---- a list that is picked by a rule that goes over to products, where some point is fixed by all

pub sub_list : (members : List Operator) (P : Map → Type 0) (i : ℕ) (list : List Map) → IsGroup members → length members ≤ i → ArePicked members P i list → length list ≤ MAX_OPERATORS
    → P identity_map → ((e f : Map) → P e → P f → P (e ∘ f)) → (z : ScaledPoint) → ((e : Map) → P e → moved e z ≡ z) → IsSubList list
sub_list members P i list g l h within one product z fix =
    let L = space_of members g in
    let exact = picked_exactly members P i list l h in
    record {
      first = first_identity members P i list g h ((exact identity_map).1 ((space L).one_in, one));
      sorted = sorted_from_pairs (on (operator_of UNIT) operator_cmp) (drop 1 list) (rest_sorted members P i list g h);
      apart = λ j k d a b e.
          let s = (exact (get_or list j d)).0 (Contains-get_or list j d (omega (arith, a, b))) in
          let t = (exact (get_or list k d)).0 (Contains-get_or list k d b) in
          picked_apart members P i list h j k d a b (one_rotation _ _ z (fix _ s.1) (fix _ t.1) e);
      products = λ e f a b.
          let s = (exact e).0 a in
          let t = (exact f).0 b in
          (exact (e ∘ f)).1 ((space L).mul_in e f s.0 t.0, product e f s.1 t.1);
      common = (z, λ e a. fix e ((exact e).0 a).1);
      within = within;
    }
