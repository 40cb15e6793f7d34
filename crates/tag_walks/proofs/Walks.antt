-- A walk by tags gives the list of the first elements, line by line.
use Rattle.std.proofs.Common.{◌≡◌, ℕ, ◌+◌, ◌<◌, ◌≤◌, ◌↔◌, ◌⊎◌, Bool, true, false, List, [], ◌∷◌, ◌++◌, map, length, get_or, set, inl, inr, ⊎_elim, ap, sym, ◌∙◌, subst, arith, Contains}
use Rattle.std.proofs.lemmas.Bool.{cases_lt, cases_eq, false≢true}
use Rattle.std.proofs.lemmas.List.{get_or-set_same, get_or-set_other}
use Rattle.std.proofs.lemmas.List.Elements.{All-contains, All-push, All-nil, Contains-append_left, Contains-append_right, Contains-append_cases}
use Rattle.finite_groups.proofs.Members as lists
use Rattle.finite_groups.proofs.Pairs.{AllPairs-append_one, one_list_in_order}
use Rattle.tag_walks.specs.Regions.{Region, IsRegion, IsListed, Lines, IsFirstList, IsFirstFree, IsTagged, IsTagWalk}

-- one tag more
pub set_one : {X : Type 0} (In : X → Type 0) (place : X → ℕ) → ((x y : X) → In x → In y → place x ≡ place y → x ≡ y) → (tags : List Bool) (p : ℕ) (x y : X) → place x < length tags → In x → p ≡ place x → In y
    → (get_or (set tags p true) (place y) false ≡ true) ↔ ((get_or tags (place y) false ≡ true) ⊎ (y ≡ x))
set_one {X} In place one tags p x y n i e j = (
  (λ t. ⊎_elim (λ q. inr (one y x j i (q ∙ e))) (λ q. inl (sym (get_or-set_other tags p (place y) true false q) ∙ t)) (cases_eq (place y) p)),
  (λ s. ⊎_elim (λ q. there q) (λ q. ⊎_elim (λ t. get_or-set_other tags p (place y) true false q ∙ t) (λ t. absurd (q (ap place t ∙ sym e))) s) (cases_eq (place y) p)),
)
  where
    inside : p < length tags
    inside = subst (λ k. k < length tags) (sym e) n

    there : place y ≡ p → get_or (set tags p true) (place y) false ≡ true
    there q = ap (λ k. get_or (set tags p true) k false) q ∙ get_or-set_same tags p true false inside

module _ (R : Region) (region : IsRegion R) where
  open R use {X, In, Before, Equivalent, place}

  -- of equivalent elements one is listed
  pub one_listed : (x y : X) → IsListed R x → IsListed R y → Equivalent x y → x ≡ y
  one_listed x y p q e =
      let a : place y < place x → ⊥ = λ l. p.first y q.in_region e ((region.order y x q.in_region p.in_region).1 l) in
      let b : place x < place y → ⊥ = λ l. q.first x p.in_region (region.back x y p.in_region q.in_region e) ((region.order x y p.in_region q.in_region).1 l) in
      region.one x y p.in_region q.in_region (omega (arith, a, b))

module _ (R : Region) (M : Lines R) (region : IsRegion R) where
  open R use {X, In, Before, Equivalent, place, count}
  open M use {L, at, IsLine}

  not_both : (x y : X) → In x → In y → Before x y → Before y x → ⊥
  not_both x y i j p q = let a = (region.order x y i j).0 p in let b = (region.order y x j i).0 q in omega (arith, a, b)

  -- a walk before its first line
  pub walk_begun : (tags : List Bool) → ((k : ℕ) → get_or tags k false ≡ false) → IsTagWalk R M 0 tags []
  walk_begun tags none = record {
    tagged = λ x i. ((λ t. absurd (false≢true (sym (none (place x)) ∙ t))), (λ r. lists.not_in_nil r.line r.member));
    passed = λ x i l. absurd (omega (arith, l));
    listed = All-nil _;
    before = All-nil _;
    lines = All-nil _;
    ordered = λ i j d l m. absurd (omega (arith, m));
  }

  module _ (from : ℕ) (tags : List Bool) (taken : List L) (walk : IsTagWalk R M from tags taken) where
    up_to : (p : ℕ) → ((k : ℕ) → from ≤ k → k < p → get_or tags k false ≡ true) → (x : X) → In x → place x < p → IsTagged R tags x
    up_to p before x i l = ⊎_elim (λ m. walk.passed x i m) (λ m. before (place x) m l) (cases_lt (place x) from)

    listed_of : (line : L) → Contains taken line → IsListed R (at line)
    listed_of line c = All-contains (λ (y : L). IsListed R (at y)) taken line walk.listed c

    next_listed : (p : ℕ) → get_or tags p false ≡ false → ((k : ℕ) → from ≤ k → k < p → get_or tags k false ≡ true) → (x : X) → In x → place x ≡ p → IsListed R x
    next_listed p free before x i e = record {
      in_region = i;
      first = λ y j q l.
          let less : place y < p = subst (λ n. place y < n) e ((region.order y x j i).0 l) in
          let r = (walk.tagged y j).0 (up_to p before y j less) in
          let there : IsTagged R tags x = (walk.tagged x i).1 (record { line = r.line; member = r.member; equivalent = region.on (at r.line) y x (listed_of r.line r.member).in_region j i r.equivalent (region.back x y i j q) }) in
          false≢true (sym free ∙ ap (λ n. get_or tags n false) (sym e) ∙ there);
    }

    of_last : (line other : L) → Contains (taken ++ line ∷ []) other → Contains taken other ⊎ (line ≡ other)
    of_last line other c = ⊎_elim (λ a. inl a) (λ b. ⊎_elim (λ e. inr e) (λ n. lists.not_in_nil other n) (lists.Contains-cases other line [] b)) (Contains-append_cases taken (line ∷ []) other c)

    -- one line more
    pub walk_more : (p : ℕ) (line : L) (new : List Bool) → from ≤ p → get_or tags p false ≡ false → ((k : ℕ) → from ≤ k → k < p → get_or tags k false ≡ true)
        → In (at line) → place (at line) ≡ p → IsLine line
        → ((x : X) → In x → IsTagged R new x ↔ (IsTagged R tags x ⊎ Equivalent (at line) x))
        → IsTagWalk R M (p + 1) new (taken ++ line ∷ [])
    walk_more p line new upto free before i e is more = record {
      tagged = λ x j. (
        (λ t. ⊎_elim (λ s. let r = (walk.tagged x j).0 s in record { line = r.line; member = Contains-append_left taken (line ∷ []) r.line r.member; equivalent = r.equivalent }) (λ q. record { line = line; member = Contains-append_right taken (line ∷ []) line (lists.Contains-here line []); equivalent = q }) ((more x j).0 t)),
        (λ r. (more x j).1 (⊎_elim (λ c. inl ((walk.tagged x j).1 (record { line = r.line; member = c; equivalent = r.equivalent }))) (λ s. inr (subst (λ (y : L). Equivalent (at y) x) (sym s) r.equivalent)) (of_last line r.line r.member))),
      );
      passed = λ x j l. (more x j).1 (⊎_elim
          (λ m. inl (up_to p before x j m))
          (λ m. let same : place (at line) ≡ place x = omega (arith, e, l, m) in
          inr (subst (Equivalent (at line)) (region.one (at line) x i j same) (region.itself (at line) i)))
          (cases_lt (place x) p));
      listed = All-push (λ (y : L). IsListed R (at y)) taken line walk.listed (next_listed p free before (at line) i e);
      before = All-push (λ (y : L). place (at y) < p + 1) taken line (λ k d l. omega (arith, walk.before k d l, upto)) (omega (arith, e));
      lines = All-push IsLine taken line walk.lines is;
      ordered = AllPairs-append_one (λ (a b : L). Before (at a) (at b)) taken line walk.ordered (λ y c.
          let l = All-contains (λ (z : L). place (at z) < from) taken y walk.before c in
          (region.order (at y) (at line) (listed_of y c).in_region i).1 (omega (arith, l, upto, e)));
    }

    -- the end: each place is tagged
    pub walk_over : ((k : ℕ) → from ≤ k → k < count → get_or tags k false ≡ true) → IsFirstList R M taken
    walk_over all = record {
      exactly = λ x. (
        (λ c. let r = lists.Contains-from_map at x taken c in subst (IsListed R) r.2 (listed_of r.0 r.1)),
        (λ l.
            let r = (walk.tagged x l.in_region).0 (up_to count all x l.in_region (region.within x l.in_region)) in
            subst (Contains (map at taken)) (one_listed R region (at r.line) x (listed_of r.line r.member) l r.equivalent) (lists.Contains-map at r.line taken r.member)),
      );
      lines = walk.lines;
      ordered = walk.ordered;
    }

  -- where an element has one line, the list is unique
  module _ (one_line : (a b : L) → IsLine a → IsLine b → at a ≡ at b → a ≡ b) where
    in_other : (a b : List L) → IsFirstList R M a → IsFirstList R M b → (x : L) → Contains a x → Contains b x
    in_other a b p q x c =
        let r = lists.Contains-from_map at (at x) b ((q.exactly (at x)).1 ((p.exactly (at x)).0 (lists.Contains-map at x a c))) in
        subst (Contains b) (one_line r.0 x (All-contains IsLine b r.0 q.lines r.1) (All-contains IsLine a x p.lines c) r.2) r.1

    pub one_first_list : (a b : List L) → IsFirstList R M a → IsFirstList R M b → a ≡ b
    one_first_list a b p q =
        one_list_in_order (λ (x y : L). Before (at x) (at y)) a b
        (λ x y c d l m.
        let i = ((p.exactly (at x)).0 (lists.Contains-map at x a c)).in_region in
        let j = ((p.exactly (at y)).0 (lists.Contains-map at y a d)).in_region in
        not_both (at x) (at y) i j l m)
        p.ordered q.ordered (λ x. (in_other a b p q x, in_other b a q p x))

-- ---- tags that were lent, and what `next` leaves

pub all_lent : (tags lent : List Bool) (from n : ℕ) → lent ≡ tags → length tags ≡ n → ((k : ℕ) → from ≤ k → k < length lent → get_or lent k false ≡ true) → (k : ℕ) → from ≤ k → k < n → get_or tags k false ≡ true
all_lent tags lent from n e f all k l m = ap (λ (v : List Bool). get_or v k false) (sym e) ∙ all k l (omega (arith, m, f, ap length e))

module _ (R : Region) (M : Lines R) (region : IsRegion R) where
  open R use {X, In, Equivalent, place, count}
  open M use {L, at, IsLine}

  pub stepped : (from : ℕ) (held : List Bool) (taken : List L) (p : ℕ) (line : L) (lent begun tags new : List Bool) → IsTagWalk R M from held taken → lent ≡ held → begun ≡ held → new ≡ tags
      → IsFirstFree lent from p
      → In (at line) → place (at line) ≡ p → IsLine line
      → ((x : X) → In x → IsTagged R tags x ↔ (IsTagged R begun x ⊎ Equivalent (at line) x))
      → IsTagWalk R M (p + 1) new (taken ++ line ∷ [])
  stepped from held taken p line lent begun tags new walk a b d free i q is more =
      subst (λ (t : List Bool). IsTagWalk R M (p + 1) t (taken ++ line ∷ [])) (sym d)
      (walk_more R M region from held taken walk p line tags free.later
      (ap (λ (t : List Bool). get_or t p false) (sym a) ∙ free.free)
      (λ k l m. ap (λ (t : List Bool). get_or t k false) (sym a) ∙ free.tagged_before k l m)
      i q is
      (λ x j. subst (λ (t : List Bool). IsTagged R tags x ↔ (IsTagged R t x ⊎ Equivalent (at line) x)) b (more x j)))

  pub over : (from : ℕ) (held : List Bool) (taken : List L) (lent : List Bool) → IsTagWalk R M from held taken → lent ≡ held → length held ≡ count
      → ((k : ℕ) → from ≤ k → k < length lent → get_or lent k false ≡ true) → IsFirstList R M taken
  over from held taken lent walk a n all = walk_over R M region from held taken walk (all_lent held lent from count a n all)
