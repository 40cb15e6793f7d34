-- Lists of the elements that fix a point, in the order of their operators.
use Rattle.std.proofs.Common.{◌≡◌, ◌≢◌, ◌++◌, ◌∷◌, [], ◌≤◌, ◌+◌, ◌<◌, ◌↔◌, ℕ, zero, suc, true, false, List, Some, length, slice_get, get_or, Contains, AllPairs, inl, inr, ⊎_elim, ap, sym, subst, ◌∙◌, arith, length-append}
use Rattle.std.proofs.lemmas.Bool.{cases_lt, cases_Bool, false≢true}
use Rattle.std.proofs.lemmas.Option.{slice_get-get_or}
use Rattle.std.proofs.lemmas.List.Elements.{Contains-append_left, Contains-append_right, Contains-append_cases, Contains-get_or}
use Rattle.std.proofs.lemmas.Map.Made.{IsDistinct-from_AllPairs}
use Rattle.finite_groups.proofs.Members as lists
use Rattle.finite_groups.proofs.Pairs.{AllPairs-append_one, one_list_in_order}
use Rattle.lattice_algebra.specs.Operator.{Operator, identity_operator}
use Rattle.lattice_algebra.specs.Map.{Map, operator_of}
use Rattle.lattice_algebra.specs.Point.{Point, IsPoint, ◌≈◌, image}
use Rattle.lattice_algebra.proofs.Maps.{map_eq-is}
use Rattle.exact_ops.specs.declared.TheConstants.{UNIT}
use Rattle.group_closure.specs.GroupList.{IsGroup}
use Rattle.group_closure.proofs.Places.{contains_at, one_place, same_at}
use Rattle.space_groups.specs.Space.{IsInSite, ScaledPoint, point_of, moved}
use Rattle.space_groups.specs.Lists.{IsSiteList}
use Rattle.space_groups.proofs.Elements.{SpaceGroup}
use Rattle.space_groups.proofs.Laws.{one_element}
use Rattle.space_groups.proofs.Points.{scaled_of, site-scaled}
use Rattle.space_groups.proofs.Sites.{fixer, has_fixer, has_fixer-is, fixer_of}
use Rattle.space_groups.proofs.SiteLists.{one_length}
use Rattle.site_symmetry.specs.OrderedSite.{SomeElementFixes, StandsBefore, IsOrderedSite}
use Rattle.site_symmetry.proofs.SpaceOfGroup.{space_of}

-- ---- the elements of the first operators

-- s fixes x, and its operator is one of the first i
abbrev pub IsFixing : List Operator → Point → ℕ → Map → Type 0
IsFixing members x i s = (k : ℕ) × (k < i) × (slice_get members k ≡ Some (operator_of UNIT s)) × (image UNIT s x ≈ x)

pub record AreFixing (members : List Operator) (x : Point) (i : ℕ) (list : List Map) : Type 0 where
  pub exactly : (s : Map) → Contains list s ↔ IsFixing members x i s
  pub ordered : AllPairs (StandsBefore members) list

pub none_fixing : (members : List Operator) (x : Point) → AreFixing members x 0 []
none_fixing members x = record {
  exactly = λ s. ((λ c. lists.not_in_nil s c), (λ h. absurd (omega (arith, h.1))));
  ordered = λ i j d l m. absurd (omega arith);
}

later : (members : List Operator) (x : Point) (i : ℕ) (s : Map) → IsFixing members x i s → IsFixing members x (i + 1) s
later members x i s h = (h.0, omega (arith, h.1), h.2, h.3)

in_site_at : (members : List Operator) (x : Point) (s : Map) (k : ℕ) → slice_get members k ≡ Some (operator_of UNIT s) → image UNIT s x ≈ x → IsInSite UNIT members x s
in_site_at members x s k e h = record { element = contains_at members (operator_of UNIT s) k e; fixes = h }

rotation_of : (s t : Map) → operator_of UNIT s ≡ operator_of UNIT t → s.w ≡ t.w
unfolding operator_of
rotation_of s t e = ap (λ (f : Operator). f.w) e

-- an operator has one element that fixes x
one_fixing : (members : List Operator) (x : Point) (s t : Map) (k : ℕ) → IsGroup members → IsPoint x → slice_get members k ≡ Some (operator_of UNIT s) → slice_get members k ≡ Some (operator_of UNIT t) → image UNIT s x ≈ x → image UNIT t x ≈ x → s ≡ t
one_fixing members x s t k g p e f h m =
    one_element (space_of members g) x p s t (in_site_at members x s k e h) (in_site_at members x t k f m) (rotation_of s t (same_at members (operator_of UNIT s) (operator_of UNIT t) k e f))

pub one_more : (members : List Operator) (x : Point) (i : ℕ) (list : List Map) (f : Operator) (s : Map) → IsGroup members → IsPoint x → AreFixing members x i list → slice_get members i ≡ Some f → operator_of UNIT s ≡ f → image UNIT s x ≈ x → AreFixing members x (i + 1) (list ++ s ∷ [])
one_more members x i list f s g p was q o h =
    let e : slice_get members i ≡ Some (operator_of UNIT s) = q ∙ ap Some (sym o) in
    record {
      exactly = λ t. (
        (λ c. ⊎_elim (λ a. later members x i t ((was.exactly t).0 a)) (λ a. subst (IsFixing members x (i + 1)) (only t a) (i, omega arith, e, h)) (Contains-append_cases list (s ∷ []) t c)),
        (λ r. elim (cases_lt r.0 i) [
          | inl l ↦ Contains-append_left list (s ∷ []) t ((was.exactly t).1 (r.0, l, r.2, r.3))
          | inr l ↦
              let same : r.0 ≡ i = omega (arith, r.1, l) in
              let is : s ≡ t = one_fixing members x s t i g p e (subst (λ k. slice_get members k ≡ Some (operator_of UNIT t)) same r.2) h r.3 in
              subst (Contains (list ++ s ∷ [])) is (Contains-append_right list (s ∷ []) s (lists.Contains-here s []))
        ]),
      );
      ordered = AllPairs-append_one (StandsBefore members) list s was.ordered (λ t c.
          let r = (was.exactly t).0 c in
          λ j k a b.
          let first : j ≡ r.0 = one_place members (operator_of UNIT t) j r.0 g.distinct a r.2 in
          let second : k ≡ i = one_place members (operator_of UNIT s) k i g.distinct b e in
          omega (arith, first, second, r.1));
    }
  where
    only : (t : Map) → Contains (s ∷ []) t → s ≡ t
    only t c = ⊎_elim (λ a. a) (λ a. lists.not_in_nil t a) (lists.Contains-cases t s [] c)

pub no_more : (members : List Operator) (x : Point) (i : ℕ) (list : List Map) (f : Operator) → AreFixing members x i list → slice_get members i ≡ Some f → (SomeElementFixes f x → ⊥) → AreFixing members x (i + 1) list
no_more members x i list f was q none = record {
  exactly = λ t. (
    (λ c. later members x i t ((was.exactly t).0 c)),
    (λ r. elim (cases_lt r.0 i) [
      | inl l ↦ (was.exactly t).1 (r.0, l, r.2, r.3)
      | inr l ↦
          let same : r.0 ≡ i = omega (arith, r.1, l) in
          let is : slice_get members i ≡ Some (operator_of UNIT t) = subst (λ k. slice_get members k ≡ Some (operator_of UNIT t)) same r.2 in
          absurd (none (t, same_at members (operator_of UNIT t) f i is q, r.3))
    ]),
  );
  ordered = was.ordered;
}

-- ---- all of them

-- no element stands before itself
apart : (members : List Operator) (x : Point) (i : ℕ) (list : List Map) → AreFixing members x i list → AllPairs (λ s t. s ≢ t) list
apart members x i list h j k d l m e =
    let r = (h.exactly (get_or list j d)).0 (Contains-get_or list j d (omega (arith, l, m))) in
    let b = h.ordered j k d l m r.0 r.0 r.2 (r.2 ∙ ap (λ v. Some (operator_of UNIT v)) e) in
    omega (arith, b)

pub all_fixing : (members : List Operator) (x : Point) (i : ℕ) (list : List Map) → length members ≤ i → AreFixing members x i list → IsOrderedSite members x list
all_fixing members x i list l h = record {
  site = record {
    exactly = λ s. (
      (λ c. let r = (h.exactly s).0 c in in_site_at members x s r.0 r.2 r.3),
      (λ a. let c = a.element in (h.exactly s).1 (c.0, omega (arith, c.1, l), slice_get-get_or members c.0 (operator_of UNIT s) c.1 ∙ ap Some c.2, a.fixes)),
    );
    once = apart members x i list h;
  };
  ordered = h.ordered;
}

-- ---- how many there are

abbrev pub AreSoMany : List Operator → Point → ℕ → ℕ → Type 0
AreSoMany members x i n = (list : List Map) × AreFixing members x i list × (n ≡ length list)

pub one_more_counted : (members : List Operator) (x : Point) (i n : ℕ) (f : Operator) → IsGroup members → IsPoint x → AreSoMany members x i n → slice_get members i ≡ Some f → SomeElementFixes f x → AreSoMany members x (i + 1) (n + 1)
one_more_counted members x i n f g p was q s =
    (was.0 ++ s.0 ∷ [], one_more members x i was.0 f s.0 g p was.1 q s.1 s.2, omega (arith, was.2, length-append was.0 (s.0 ∷ [])))

pub no_more_counted : (members : List Operator) (x : Point) (i n : ℕ) (f : Operator) → AreSoMany members x i n → slice_get members i ≡ Some f → (SomeElementFixes f x → ⊥) → AreSoMany members x (i + 1) n
no_more_counted members x i n f was q none = (was.0, no_more members x i was.0 f was.1 q none, was.2)

pub one_number : (members : List Operator) (x : Point) (a b : List Map) → IsSiteList UNIT members x a → IsSiteList UNIT members x b → length a ≡ length b
one_number members x a b s t =
    one_length a b (IsDistinct-from_AllPairs map_eq-is a s.once) (IsDistinct-from_AllPairs map_eq-is b t.once) (λ e. ((λ c. (t.exactly e).1 ((s.exactly e).0 c)), (λ c. (s.exactly e).1 ((t.exactly e).0 c))))

pub all_counted : (members : List Operator) (x : Point) (i n : ℕ) → length members ≤ i → AreSoMany members x i n → (site : List Map) → IsSiteList UNIT members x site → n ≡ length site
all_counted members x i n l h site s = h.2 ∙ one_number members x h.0 site (all_fixing members x i h.0 l h.1).site s

-- ---- each point has one such list

module _ (members : List Operator) (x : Point) (g : IsGroup members) (p : IsPoint x) where
  abbrev L : SpaceGroup
  L = space_of members g

  abbrev y : (z : ScaledPoint) × (x ≈ point_of UNIT z)
  y = scaled_of UNIT L.some x p

  fixes_by : (f : Operator) (i : ℕ) → slice_get members i ≡ Some f → has_fixer L y.0 f ≡ true → (operator_of UNIT (fixer L y.0 f) ≡ f) × (image UNIT (fixer L y.0 f) x ≈ x)
  fixes_by f i q t =
      let h = (has_fixer-is L y.0 f).0 t in
      (h.1, ((site-scaled L x y.0 p y.1 (fixer L y.0 f)).1 (subst (Contains members) (sym h.1) (contains_at members f i q), h.0)).fixes)

  fixes_not : (f : Operator) (i : ℕ) → slice_get members i ≡ Some f → has_fixer L y.0 f ≡ false → SomeElementFixes f x → ⊥
  fixes_not f i q t s =
      let h = ((site-scaled L x y.0 p y.1 s.0).0 (record { element = subst (Contains members) (sym s.1) (contains_at members f i q); fixes = s.2 })).1 in
      let e : fixer L y.0 f ≡ s.0 = ap (fixer L y.0) (sym s.1) ∙ fixer_of L y.0 s.0 h in
      false≢true (sym t ∙ (has_fixer-is L y.0 f).1 (subst (λ v. moved v y.0 ≡ y.0) (sym e) h, ap (operator_of UNIT) e ∙ s.1))

  some_fixing : (i : ℕ) → i ≤ length members → (list : List Map) × AreFixing members x i list
  some_fixing zero l = ([], none_fixing members x)
  some_fixing (suc i) l =
      let r = some_fixing i (omega arith) in
      let f : Operator = get_or members i identity_operator in
      let q : slice_get members i ≡ Some f = slice_get-get_or members i identity_operator (omega arith) in
      let e : i + 1 ≡ suc i = omega arith in
      elim (cases_Bool (has_fixer L y.0 f)) [
        | inl t ↦ let h = fixes_by f i q t in (r.0 ++ fixer L y.0 f ∷ [], subst (λ k. AreFixing members x k (r.0 ++ fixer L y.0 f ∷ [])) e (one_more members x i r.0 f (fixer L y.0 f) g p r.1 q h.0 h.1))
        | inr t ↦ (r.0, subst (λ k. AreFixing members x k r.0) e (no_more members x i r.0 f r.1 q (fixes_not f i q t)))
      ]

  -- one at least
  pub some_ordered_site : (site : List Map) × IsOrderedSite members x site
  some_ordered_site = let r = some_fixing (length members) (omega arith) in (r.0, all_fixing members x (length members) r.0 (omega arith) r.1)

  place_of : (s : Map) → IsInSite UNIT members x s → (k : ℕ) × (slice_get members k ≡ Some (operator_of UNIT s))
  place_of s h = let c = h.element in (c.0, slice_get-get_or members c.0 (operator_of UNIT s) c.1 ∙ ap Some c.2)

  -- and one at most
  pub one_ordered_site : (a b : List Map) → IsOrderedSite members x a → IsOrderedSite members x b → a ≡ b
  one_ordered_site a b s t =
      one_list_in_order (StandsBefore members) a b (λ u v c d h k.
      let i = place_of u ((s.site.exactly u).0 c) in
      let j = place_of v ((s.site.exactly v).0 d) in
      let less = h i.0 j.0 i.1 j.1 in
      let more = k j.0 i.0 j.1 i.1 in
      omega (arith, less, more)) s.ordered t.ordered
      (λ e. ((λ c. (t.site.exactly e).1 ((s.site.exactly e).0 c)), (λ c. (s.site.exactly e).1 ((t.site.exactly e).0 c))))
