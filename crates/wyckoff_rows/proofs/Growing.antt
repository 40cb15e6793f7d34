-- What a kept group grows to, and what its average says.
use Rattle.std.proofs.Common.{◌≡◌, ◌<◌, ◌≤◌, ◌↔◌, inl, inr, ℕ, pos, Bool, List, [], ◌∷◌, length, map, Contains, All, slice_get, Some, ap, sym, ◌∙◌, subst, arith, ⊎_elim}
use Rattle.std.proofs.lemmas.List.{length-map}
use Rattle.std.proofs.lemmas.List.Elements.{All-contains, All-weaker, All-cons, All-head}
use Rattle.lattice_algebra.specs.Matrix.{Column, neg_column}
use Rattle.lattice_algebra.specs.Operator.{Operator, AreWithin}
use Rattle.lattice_algebra.specs.Map.{Map, ◌∘◌, identity_map, undo, IsShift}
use Rattle.lattice_algebra.proofs.Maps.{map_eq, map_eq-is, ∘_assoc, identity-∘, ∘-identity}
use Rattle.lattice_algebra.proofs.Numbers.{above}
use Rattle.finite_groups.specs.Words as words
use Rattle.finite_groups.specs.Words.{IsClosedList}
use Rattle.finite_groups.proofs.Members as lists
use Rattle.finite_groups.proofs.Basics as basics
use Rattle.finite_groups.proofs.Closing as closing
use Rattle.exact_ops.specs.declared.TheConstants.{UNIT}
use Rattle.group_closure.specs.GroupList.{IsGroup}
use Rattle.site_symmetry.proofs.SpaceOfGroup.{space_of}
use Rattle.space_groups.specs.Space.{IsElement, ScaledPoint, moved}
use Rattle.space_groups.specs.Averages.{Block, IsMean}
use Rattle.space_groups.specs.Regions.{shift_by}
use Rattle.space_groups.specs.Keys.{IsKey, carried}
use Rattle.space_groups.specs.Search.{IsSub, FixAll, IsFull}
use Rattle.space_groups.proofs.Elements.{SpaceGroup, space}
use Rattle.space_groups.proofs.Blocks.{cancel_block}
use Rattle.space_groups.proofs.Means.{Averaged, image_fixed}
use Rattle.space_groups.proofs.Divided.{mean_exists}
use Rattle.space_groups.proofs.Regions.{shift_in}
use Rattle.space_groups.proofs.Rows.{some_members}
use Rattle.space_groups.proofs.Growing.{generated_fixes}
use Rattle.space_groups.proofs.CarriedLists.{turned, turned_closed, carried_mean, key_carried_back}
use Rattle.affine_sets.specs.declared.TheConstants.{MAX_GROWN_SHIFT}
use Rattle.affine_sets.specs.Averages.{whole_part}
use Rattle.affine_sets.specs.Subs.{AreElements, AreShiftsWithin, IsShifted}
use Rattle.affine_sets.specs.Growth.{IsLetter, IsProduct, IsGeneratedBy}
use Rattle.wyckoff_rows.specs.Steps.{IsEntry, AreKept, HasKeyOf, HasGrown, IsCandidate, IsAdded, IsKeptMore}
use Rattle.wyckoff_rows.specs.declared.entry.Entry.{Entry}
use Rattle.wyckoff_rows.proofs.Lists.{contains_at, contains_last}
use Rattle.wyckoff_rows.proofs.Standing.{closed_of_sub, sub_of_closed}

-- what a kept group and a candidate are to `grow`
abbrev pub Small : Map → Type 0
Small e = (k : Column) → IsShift UNIT e k → AreWithin MAX_GROWN_SHIFT k.x k.y k.z

pub grown_shifts : (set : List Map) (e : Map) → AreShiftsWithin MAX_GROWN_SHIFT set → AreShiftsWithin MAX_GROWN_SHIFT (e ∷ []) → AreShiftsWithin MAX_GROWN_SHIFT (e ∷ set)
grown_shifts set e h g = All-cons Small e set (All-head Small e [] g) h

module _ (members : List Operator) (group : IsGroup members) where
  abbrev L : SpaceGroup
  L = space_of members group

  -- the words of `IsProduct` are those of Span
  letter_in : (given : List Map) → All (IsElement UNIT members) given → (e : Map) → IsLetter given e → words.IsLetter (space L) given e
  letter_in given v e (inl c) = inl c
  letter_in given v e (inr r) =
      let f : Map = r.0 in
      let m : IsElement UNIT members f = All-contains (IsElement UNIT members) given f v r.1 in
      let q : e ≡ undo f = sym (∘-identity e) ∙ ap (λ x. e ∘ x) (sym ((space L).inv_right f m)) ∙ sym (∘_assoc e f (undo f)) ∙ ap (λ x. x ∘ undo f) r.2.left ∙ identity-∘ (undo f) in
      inr (f, r.1, subst (IsElement UNIT members) (sym q) ((space L).inv_in f m), r.2.right)

  letter_out : (given : List Map) → All (IsElement UNIT members) given → (e : Map) → words.IsLetter (space L) given e → IsLetter given e
  letter_out given v e (inl c) = inl c
  letter_out given v e (inr r) =
      let f : Map = r.0 in
      let m : IsElement UNIT members f = All-contains (IsElement UNIT members) given f v r.1 in
      let q : e ≡ undo f = basics.inverse_once (space L) f e m r.2 r.3 in
      inr (f, r.1, record { left = ap (λ x. x ∘ f) q ∙ (space L).inv_left f m; right = r.3 })

  spans : (given : List Map) → All (IsElement UNIT members) given → (x : Map) → IsProduct given x ↔ words.Span (space L) given x
  spans given v x = (
    (λ p. (p.0, All-weaker (IsLetter given) (words.IsLetter (space L) given) (letter_in given v) p.0 p.1, p.2)),
    (λ p. (p.0, All-weaker (words.IsLetter (space L) given) (IsLetter given) (letter_out given v) p.0 p.1, p.2)),
  )

  module _ (set sub : List Map) (e : Map) (valid : AreElements members (e ∷ set)) (made : IsGeneratedBy (e ∷ set) sub) where
    pub grown_fixes : (z : ScaledPoint) → FixAll sub z ↔ (FixAll set z × (moved e z ≡ z))
    grown_fixes z = generated_fixes L set sub e valid (λ x. ((λ c. (spans (e ∷ set) valid x).0 ((made x).0 c)), (λ s. (made x).1 ((spans (e ∷ set) valid x).1 s)))) z

    pub grown_has : (x : Map) → Contains (e ∷ set) x → Contains sub x
    grown_has x c =
        let m = All-contains (IsElement UNIT members) (e ∷ set) x valid c in
        (made x).1 ((spans (e ∷ set) valid x).1 (subst (words.Span (space L) (e ∷ set)) ((space L).left x m) (closing.span_gen (space L) (e ∷ set) identity_map x (closing.span_one (space L) (e ∷ set)) c)))

  pub at_least : (set sub : List Map) (e : Map) → AreElements members (e ∷ set) → IsGeneratedBy (e ∷ set) sub → IsSub UNIT members set → length set ≤ length sub
  at_least set sub e valid made s = lists.pigeonhole map_eq map_eq-is set sub (closed_of_sub members group set s).distinct (λ x q. grown_has set sub e valid made x (lists.Contains-later x e set q))

  -- a group that does not grow has the element already
  pub same_grown : (kept : List Entry) (k : Entry) (e : Map) (sub : List Map) → Contains kept k → IsEntry members k → AreElements members (e ∷ k.set) → IsGeneratedBy (e ∷ k.set) sub → length sub ≤ length k.set → HasGrown members kept k e
  same_grown kept k e sub c h valid made l =
      let d = closed_of_sub members group k.set h.kept.sub in
      let has : Contains k.set e = lists.onto map_eq map_eq-is k.set sub d.distinct (λ x q. grown_has k.set sub e valid made x (lists.Contains-later x e k.set q)) l e (grown_has k.set sub e valid made e (lists.Contains-here e k.set)) in
      λ y f q. (k, c, record { list = k.set; sub = h.kept.sub; fixes = λ z. ((λ g. (g, g e has)), (λ p. p.0)); average = k.average; mean = h.kept.mean; key = h.kept.key })

  -- the group moved near the origin
  module _ (sub near : List Map) (a : Block) (s : IsSub UNIT members sub) (shifted : (b : Block) → IsMean (length members) sub b → IsShifted b sub near) where
    closed : IsClosedList (space L) sub
    closed = closed_of_sub members group sub s

    b : Block
    b = (mean_exists L sub closed).0

    b_is : IsMean (length members) sub b
    unfolding b
    b_is = (mean_exists L sub closed).1

    v : Map
    v = shift_by UNIT (neg_column (whole_part b))

    v_in : IsElement UNIT members v
    unfolding v
    v_in = shift_in L (neg_column (whole_part b))

    near_is : near ≡ map (turned v) sub
    unfolding v
    near_is = shifted b b_is

    pub near_sub : IsSub UNIT members near
    near_sub = subst (IsSub UNIT members) (sym near_is) (sub_of_closed members group (map (turned v) sub) (turned_closed L v sub v_in closed))

    pub near_length : length near ≡ length sub
    near_length = ap length near_is ∙ length-map sub (turned v)

    near_average : IsMean (length members) near a → a ≡ carried v b
    near_average m =
        let c : IsMean (length members) near (carried v b) = subst (λ x. IsMean (length members) x (carried v b)) (sym near_is) (carried_mean v (length members) sub b b_is) in
        let n : 0 < length near = omega (arith, near_sub.identity.1) in
        cancel_block (pos (length near)) a (carried v b) (above (length near) n) (m ∙ sym c)

    -- where a kept group has the key of its average, what was grown has a kept key
    pub near_grown : (kept : List Entry) (k : Entry) (e : Map) → ((z : ScaledPoint) → FixAll sub z ↔ (FixAll k.set z × (moved e z ≡ z))) → IsMean (length members) near a → HasKeyOf members kept a → HasGrown members kept k e
    near_grown kept k e fixes m r =
        λ y f q. (r.0, r.1, record { list = sub; sub = s; fixes = fixes; average = b; mean = b_is; key = key_carried_back L (length members) v b r.0.key.key v_in (subst (λ x. IsKey UNIT members (length members) x r.0.key.key) (near_average m) r.2) })

    averaged : IsMean (length members) near a → Averaged L (length members)
    averaged m = record { some = some_members L; list = near; closed = closed_of_sub members group near near_sub; average = a; is_mean = m }

    -- and the full group of that average is at least as large
    pub full_as_large : (full : List Map) → IsMean (length members) near a → IsFull UNIT members a full → length sub ≤ length full
    unfolding averaged
    full_as_large full m f =
        let c = closed_of_sub members group near near_sub in
        let l : length near ≤ length full = lists.pigeonhole map_eq map_eq-is near full c.distinct (λ x q. (f.exactly x).1 (All-contains (IsElement UNIT members) near x near_sub.elements q, (λ y i. image_fixed (averaged m) y i x q))) in
        omega (arith, l, near_length)

-- what was added for the average of what k grew to is larger than k
pub added_more : (members : List Operator) (more : Bool) (old new : List Entry) (k : Entry) (a : Block) (n : ℕ) → IsAdded more old a new → length k.set < n → ((full : List Map) → IsFull UNIT members a full → n ≤ length full) → AreKept members new → IsKeptMore more old k new
added_more members more old new k a n h l large kept = record {
  one = λ e.
      let r = h.one e in
      let c : Contains new r.0 = subst (λ x. Contains x r.0) (sym r.1) (contains_last old r.0) in
      let f = (All-contains (IsEntry members) new r.0 kept.each c).full in
      (r.0, r.1, larger (length k.set) n (length r.0.set) l (large r.0.set (subst (λ x. IsFull UNIT members x r.0.set) r.2 f)));
  none = h.none;
}
  where
    larger : (a b c : ℕ) → a < b → b ≤ c → a < c
    larger a b c p q = omega arith

pub entry_at : (members : List Operator) (kept : List Entry) (i : ℕ) (k : Entry) → AreKept members kept → slice_get kept i ≡ Some k → IsEntry members k
entry_at members kept i k h s = All-contains (IsEntry members) kept k h.each (contains_at kept i k s)

pub grown_elements : (members : List Operator) (k : Entry) (e : Map) → IsEntry members k → IsCandidate members e → AreElements members (e ∷ k.set)
grown_elements members k e h c = All-cons (IsElement UNIT members) e k.set c.element h.kept.sub.elements

-- where no point is fixed by all there is nothing to keep
pub none_grown : (members : List Operator) (kept : List Entry) (k : Entry) (e : Map) → ((z : ScaledPoint) → FixAll (e ∷ k.set) z → ⊥) → HasGrown members kept k e
none_grown members kept k e none = λ y f q. absurd (none y (λ x c. ⊎_elim (λ p. subst (λ m. moved m y ≡ y) p q) (λ p. f x p) (lists.Contains-cases x e k.set c)))

pub larger_is : (a b : ℕ) → a ≤ b → (a ≡ b → ⊥) → a < b
larger_is a b l n = grind arith
