-- The grid points of a cell as a region, and what tagging the images of a point does.
use Rattle.std.proofs.Common.{◌≡◌, ◌≢◌, ℕ, ℤ, ◌+◌, ◌*◌, ◌/◌, ◌<◌, ◌≤◌, ◌↔◌, ◌⊎◌, Bool, true, false, cond, List, [], ◌∷◌, ◌++◌, length, get_or, set, take, slice_get, Some, inl, inr, ⊎_elim, ap, sym, ◌∙◌, subst, refl, arith, Contains, count_by, length-take}
use Rattle.std.proofs.lemmas.Bool.{cases_eq}
use Rattle.std.proofs.lemmas.List.{take_more, take_all, get_or-set_same, get_or-set_other}
use Rattle.std.proofs.lemmas.List.Elements.{Contains-append_cases, Contains-append_left, Contains-append_right}
use Rattle.std.proofs.lemmas.List.Sums.{sum_by_push, count_by-le-length}
use Rattle.std.proofs.lemmas.Option.{get_or_from_slice_get, slice_get_within}
use Rattle.finite_groups.proofs.Members as lists
use Rattle.lattice_algebra.specs.Matrix.{entries, coordinates, matrix_of, column_of}
use Rattle.lattice_algebra.specs.Operator.{Operator, identity_operator}
use Rattle.group_closure.specs.GroupList.{IsGroup}
use Rattle.group_closure.specs.Runs.{IsRun}
use Rattle.group_closure.specs.declared.TheConstants.{MAX_OPERATORS}
use Rattle.tag_walks.specs.Regions.{IsRegion, IsFirstFree}
use Rattle.tag_walks.proofs.Walks as walks
use Rattle.tag_walks.proofs.Digits as digits
use Rattle.grid_tags.specs.declared.line.GridLine.{GridLine}
use Rattle.grid_tags.specs.Grids.{Grid, Triple, IsInGrid, IsGridInRange, IsKept, ComesBefore, triple_of, place_of, points}
use Rattle.grid_tags.specs.GridLists.{AreInOneOrbit, IsGridOrbit, IsGridLine, IsGridList, grid_region, grid_lines}
use Rattle.grid_tags.specs.Walks.{Walk, IsTagged, IsWalk}
use Rattle.grid_tags.specs.Steps.{triple_eq, turned, moved, act, fixing_count, IsReached, HasTag, KeepsTag, AreTagged}
use Rattle.grid_tags.proofs.Images.{HasSides, act_one}
use Rattle.grid_tags.proofs.OrbitLaws.{triple_eq-is, in_orbit, orbit_itself, orbit_back, orbit_on, orbit_law}

pub sides_of : (s : Grid) → IsGridInRange s → HasSides s
sides_of s g = record { a = omega (arith, g.a.0); b = omega (arith, g.b.0); c = omega (arith, g.c.0) }

module _ (s : Grid) where
  pub place_within : (p : Triple) → IsInGrid s p → place_of s p < points s
  unfolding place_of
  place_within p i = digits.place_below s.a s.b s.c p.i p.j p.k i.i i.j i.k

  pub same_place : (p q : Triple) → IsInGrid s p → IsInGrid s q → place_of s p ≡ place_of s q → p ≡ q
  unfolding place_of
  same_place p q i j e =
      let d = digits.place_same s.b s.c p.i p.j p.k q.i q.j q.k i.j i.k j.j j.k e in
      λ h. record { i = d.0 h; j = d.1 h; k = d.2 h }

  pub in_order : (p q : Triple) → IsInGrid s p → IsInGrid s q → ComesBefore p q ↔ (place_of s p < place_of s q)
  unfolding place_of
  in_order p q i j = (digits.place_before s.b s.c p.i p.j p.k q.i q.j q.k i.j i.k, digits.before_place s.b s.c p.i p.j p.k q.i q.j q.k i.j i.k j.j j.k)

module _ (members : List Operator) (s : Grid) (sides : HasSides s) (group : IsGroup members) (kept : IsKept members s) where
  pub region : IsRegion (grid_region members s)
  region = record {
    within = place_within s;
    one = same_place s;
    order = in_order s;
    itself = orbit_itself members s sides group kept;
    back = orbit_back members s sides group kept;
    on = orbit_on members s sides group kept;
  }

-- ---- the images of a point, member by member

taken_more : (members : List Operator) (i : ℕ) (f : Operator) → slice_get members i ≡ Some f → take (i + 1) members ≡ take i members ++ f ∷ []
taken_more members i f e = take_more members i f (slice_get_within members i f e) ∙ ap (λ (g : Operator). take i members ++ g ∷ []) (get_or_from_slice_get members i f f e)

module _ (members : List Operator) (s : Grid) (p : Triple) where
  -- one tag more
  one_more : {T : Type 0} (tags : List T) (tag : T) (at : ℕ) (there q : Triple) → length tags ≡ points s → IsInGrid s there → at ≡ place_of s there → IsInGrid s q
      → ((q ≡ there) × HasTag s (set tags at tag) q tag) ⊎ ((q ≢ there) × KeepsTag s tags (set tags at tag) q)
  one_more tags tag at there q n i e j = ⊎_elim
      (λ same. inl (same_place s q there j i (same ∙ e), λ d. ap (λ k. get_or (set tags at tag) k d) same ∙ get_or-set_same tags at tag d inside))
      (λ other. inr ((λ same. other (ap (place_of s) same ∙ sym e)), λ d. get_or-set_other tags at (place_of s q) tag d other))
      (cases_eq (place_of s q) at)
    where
      inside : at < length tags
      inside = let l = place_within s there i in omega (arith, n, e, l)

  reached_by : (i : ℕ) (f : Operator) (q : Triple) → slice_get members i ≡ Some f → IsReached (take (i + 1) members) s p q ↔ (IsReached (take i members) s p q ⊎ (act s f p ≡ q))
  reached_by i f q e = (
    (λ r. ⊎_elim
        (λ c. inl (r.0, c, r.2))
        (λ c. ⊎_elim (λ u. inr (ap (λ (g : Operator). act s g p) u ∙ r.2)) (λ n. lists.not_in_nil r.0 n) (lists.Contains-cases r.0 f [] c))
        (Contains-append_cases (take i members) (f ∷ []) r.0 (subst (λ xs. Contains xs r.0) (taken_more members i f e) r.1))),
    (λ r. ⊎_elim
        (λ c. (c.0, subst (λ xs. Contains xs c.0) (sym (taken_more members i f e)) (Contains-append_left (take i members) (f ∷ []) c.0 c.1), c.2))
        (λ u. (f, subst (λ xs. Contains xs f) (sym (taken_more members i f e)) (Contains-append_right (take i members) (f ∷ []) f (lists.Contains-here f [])), u))
        r),
  )

  pub tagged_more : {T : Type 0} (tag : T) (old tags : List T) (there : Triple) (i at : ℕ) (f : Operator) → length tags ≡ points s → slice_get members i ≡ Some f → IsInGrid s there → there ≡ act s f p → at ≡ place_of s there
      → AreTagged members s p tag old tags i → AreTagged members s p tag old (set tags at tag) (i + 1)
  tagged_more tag old tags there i at f n e j q a was x k =
      let by = reached_by i f x e in
      ⊎_elim
      (λ here. inl (by.1 (inr (sym q ∙ sym here.0)), here.1))
      (λ other. ⊎_elim
      (λ t. inl (by.1 (inl t.0), λ d. other.1 d ∙ t.1 d))
      (λ t. inr ((λ r. ⊎_elim t.0 (λ u. other.0 (sym u ∙ sym q)) (by.0 r)), λ d. other.1 d ∙ t.1 d))
      (was x k))
      (one_more tags tag at there x n j a k)

  tagged_none : {T : Type 0} (tag : T) (old : List T) → AreTagged members s p tag old old 0
  tagged_none tag old q i = inr ((λ r. lists.not_in_nil r.0 r.1), λ d. refl)

  -- the identity stands first
  pub tagged_first : {T : Type 0} (tag : T) (old : List T) (at : ℕ) → IsGroup members → length old ≡ points s → IsInGrid s p → at ≡ place_of s p → AreTagged members s p tag old (set old at tag) 1
  tagged_first tag old at group n i a = tagged_more tag old old p 0 at identity_operator n group.first i (sym (act_one s p i)) a (tagged_none tag old)

  -- ---- the count

  pub count_more : (i : ℕ) (f : Operator) → slice_get members i ≡ Some f → fixing_count members s p (i + 1) ≡ fixing_count members s p i + cond (triple_eq (act s f p) p) 1 0
  count_more i f e = ap (λ xs. count_by (λ (g : Operator). triple_eq (act s g p) p) xs) (taken_more members i f e) ∙ sum_by_push (λ (g : Operator). cond (triple_eq (act s g p) p) 1 0) (take i members) f

  pub count_yes : (i n : ℕ) (f : Operator) → slice_get members i ≡ Some f → n ≡ fixing_count members s p i → act s f p ≡ p → n + 1 ≡ fixing_count members s p (i + 1)
  count_yes i n f e q a = let t : cond {A = ℕ} (triple_eq (act s f p) p) 1 0 ≡ 1 = ap (λ b. cond {A = ℕ} b 1 0) ((triple_eq-is (act s f p) p).1 a) in omega (arith, q, t, count_more i f e)

  pub count_no : (i n : ℕ) (f : Operator) → slice_get members i ≡ Some f → n ≡ fixing_count members s p i → (act s f p ≡ p → ⊥) → n ≡ fixing_count members s p (i + 1)
  count_no i n f e q a = let t : cond {A = ℕ} (triple_eq (act s f p) p) 1 0 ≡ 0 = ap (λ b. cond {A = ℕ} b 1 0) (by (triple_eq (act s f p) p) (λ u. a ((triple_eq-is (act s f p) p).0 u))) in omega (arith, q, t, count_more i f e)
    where
      by : (b : Bool) → (b ≡ true → ⊥) → b ≡ false
      by true h = absurd (h refl)
      by false h = refl

  pub count_first : IsGroup members → IsInGrid s p → 1 ≡ fixing_count members s p 1
  count_first group i = count_yes 0 0 identity_operator group.first refl (act_one s p i)

  pub count_few : (i : ℕ) → fixing_count members s p i ≤ length members
  count_few i = let a = length-take i members in let b = count_by-le-length (λ (f : Operator). triple_eq (act s f p) p) (take i members) in omega (arith, a, b)

  -- of the members of a run
  pub count_run_yes : (i start n : ℕ) (f : Operator) → slice_get members i ≡ Some f → fixing_count members s p start + n ≡ fixing_count members s p i → act s f p ≡ p → fixing_count members s p start + (n + 1) ≡ fixing_count members s p (i + 1)
  count_run_yes i start n f e q a = let c = count_yes i (fixing_count members s p start + n) f e q a in omega (arith, c)

  pub count_room : (i start n : ℕ) → length members ≤ MAX_OPERATORS → start + n ≡ fixing_count members s p i → n ≤ MAX_OPERATORS
  count_room i start n l q = let c = count_few i in omega (arith, c, l, q)

-- what a rotation part and then a translation part make of a point
pub image_is : (s : Grid) (f : Operator) (p image : Triple) (t : List ℤ) → t ≡ coordinates f.t → image ≡ turned s f.w p → moved s image (column_of t) ≡ act s f p
image_is s f p image t b c = λ h. moved s (c h) (column_of (b h))

-- what the rotation part of the first member of a run makes is what those of the others make
pub run_image : (members : List Operator) (s : Grid) (p image : Triple) (i end : ℕ) (f : Operator) (w : List ℤ) → IsRun members i end → slice_get members i ≡ Some f → w ≡ entries f.w → image ≡ turned s (matrix_of w) p
    → (k : ℕ) (g : Operator) → i ≤ k → k < end → slice_get members k ≡ Some g → image ≡ turned s g.w p
run_image members s p image i end f w run e v q k g l m h = q ∙ (λ z. turned s (matrix_of (v z)) p) ∙ ap (λ a. turned s a p) (sym ((run k f g l e h).1 m))

-- ---- where the group keeps the grid

module _ (members : List Operator) (s : Grid) (sides : HasSides s) (group : IsGroup members) (kept : IsKept members s) (p : Triple) where
  -- the images are the orbit
  pub orbit_tagged : {T : Type 0} (tag : T) (old new : List T) → AreTagged members s p tag old new (length members) → (q : Triple) → IsInGrid s q
      → (AreInOneOrbit members s p q × HasTag s new q tag) ⊎ ((¬ AreInOneOrbit members s p q) × KeepsTag s old new q)
  orbit_tagged tag old new are q i =
      let all = take_all (length members) members (omega arith) in
      let o = in_orbit members s sides group kept p q i in
      ⊎_elim
      (λ t. inl (o.1 (t.0.0, subst (λ xs. Contains xs t.0.0) all t.0.1, t.0.2), t.1))
      (λ t. inr ((λ a. let f = o.0 a in t.0 (f.0, subst (λ xs. Contains xs f.0) (sym all) f.1, f.2)), t.1))
      (are q i)

  pub orbit_reached : (old new : List Bool) → AreTagged members s p true old new (length members) → (q : Triple) → IsInGrid s q → IsTagged s new q ↔ (IsTagged s old q ⊎ AreInOneOrbit members s p q)
  orbit_reached old new are q i = ⊎_elim
      (λ t. ((λ n. inr t.0), (λ n. t.1 false)))
      (λ t. ((λ n. inl (sym (t.1 false) ∙ n)), (λ n. ⊎_elim (λ o. t.1 false ∙ o) (λ a. absurd (t.0 a)) n)))
      (orbit_tagged true old new are q i)

  exchanged : (a b c n : ℕ) → n ≡ b * a → c ≡ a → c * b ≡ n
  exchanged a b c n e f = ap (λ v. v * b) f ∙ swap a b ∙ sym e
    where
      swap : (a b : ℕ) → a * b ≡ b * a
      swap a b = omega arith

  count_law : (n : ℕ) → IsInGrid s p → n ≡ fixing_count members s p (length members) → (orbit : List Triple) → IsGridOrbit members s p orbit → n * length orbit ≡ length members
  count_law n i e orbit o =
      exchanged _ (length orbit) n (length members) (orbit_law members s sides group kept p i orbit o)
      (e ∙ ap (λ xs. count_by (λ (g : Operator). triple_eq (act s g p) p) xs) (take_all (length members) members (omega arith)))

-- ---- the lines

quotient : (a b n : ℕ) → 0 < a → a * b ≡ n → n / a ≡ b
quotient a b n l e = grind arith

pub line_is : (members : List Operator) (s : Grid) (at : List ℕ) (n fixing : ℕ) → HasSides s → IsGroup members → IsKept members s → IsInGrid s (triple_of at) → length at ≡ 3 → n ≡ length members → 0 < fixing
    → fixing ≡ fixing_count members s (triple_of at) (length members) → IsGridLine members s (record { at = at; size = n / fixing })
line_is members s at n fixing sides group kept i three e some count = record {
  three = three;
  size = λ orbit o. quotient fixing (length orbit) n some (count_law members s sides group kept (triple_of at) fixing i count orbit o ∙ sym e);
}

-- ---- what `next` leaves

-- where some place is free
pub stepped : (members : List Operator) (old v : Walk) (taken : List GridLine) (p n fixing : ℕ) (at : List ℕ) (lent begun tags new : List Bool) → v ≡ old → IsWalk members old taken → lent ≡ v.tags → begun ≡ v.tags → new ≡ tags
    → IsFirstFree lent v.place p
    → IsInGrid v.size (triple_of at) → place_of v.size (triple_of at) ≡ p → length at ≡ 3 → n ≡ length members → 0 < fixing → fixing ≡ fixing_count members v.size (triple_of at) (length members)
    → AreTagged members v.size (triple_of at) true begun tags (length members)
    → IsWalk members (record { size = v.size; place = p + 1; tags = new }) (taken ++ record { at = at; size = n / fixing } ∷ [])
stepped members old v taken p n fixing at lent begun tags new e walk a b d free i q three len some count more =
    let w = subst (λ x. IsWalk members x taken) (sym e) walk in
    let sides = sides_of v.size w.range in
    record {
      group = w.group;
      range = w.range;
      kept = w.kept;
      tags = walks.stepped (grid_region members v.size) (grid_lines members v.size) (region members v.size sides w.group w.kept) v.place v.tags taken p (record { at = at; size = n / fixing }) lent begun tags new w.tags a b d free i q
          (line_is members v.size at n fixing sides w.group w.kept i three len some count)
          (orbit_reached members v.size sides w.group w.kept (triple_of at) begun tags more);
    }

-- where none is
pub over : (members : List Operator) (old v : Walk) (taken : List GridLine) (lent : List Bool) → v ≡ old → IsWalk members old taken → lent ≡ v.tags → length v.tags ≡ points v.size
    → ((k : ℕ) → v.place ≤ k → k < length lent → get_or lent k false ≡ true) → IsGridList members old.size taken
over members old v taken lent e walk a n all =
    let w = subst (λ x. IsWalk members x taken) (sym e) walk in
    subst (λ (x : Walk). IsGridList members x.size taken) e
    (walks.over (grid_region members v.size) (grid_lines members v.size) (region members v.size (sides_of v.size w.range) w.group w.kept) v.place v.tags taken lent w.tags a n all)
