-- A visit of a kept group: what is kept while its candidates are tried, and what is done at the end.
use Rattle.std.proofs.Common.{◌≡◌, ◌<◌, ◌≤◌, ◌+◌, ◌-◌, ◌*◌, ◌⊎◌, ℕ, zero, suc, List, [], ◌∷◌, ◌++◌, length, get_or, slice_get, Some, map, All, ap, sym, ◌∙◌, subst, arith, ⊎_elim, length-append, append_assoc, refl}
use Rattle.std.proofs.lemmas.List.Elements.{All-contains, Contains-append_left}
use Rattle.std.proofs.lemmas.Option.{slice_get_within, slice_get-get_or, same_Some}
use Rattle.lattice_algebra.specs.Operator.{Operator}
use Rattle.lattice_algebra.specs.Map.{Map}
use Rattle.exact_ops.specs.declared.TheConstants.{UNIT}
use Rattle.exact_ops.specs.declared.moves.Move.{Move}
use Rattle.exact_ops.specs.Elements.{map_in}
use Rattle.space_groups.specs.Space.{IsElement, ScaledPoint, moved}
use Rattle.wyckoff_rows.specs.Steps.{kept_in, IsEntry, AreKept, HasGrown, IsGrownByAll, AreEnough, IsVisited, IsVisiting, last_set, IsCandidate}
use Rattle.wyckoff_rows.specs.declared.entry.Entry.{Entry}
use Rattle.wyckoff_rows.proofs.Lists.{contains_at, at_contains, at_append, back_append, at_seam, map_at, last_at, last_appended}
use Rattle.wyckoff_rows.proofs.Standing.{stands_grown}

-- the group of what is kept has at most as many elements as there are members
pub size_within : (members : List Operator) (t : Entry) → IsEntry members t → length t.set ≤ length members
size_within members t h =
    let m : length t.set * t.mult ≡ length members = h.kept.mult t.set h.full in
    let i = All-contains (IsElement UNIT members) t.set _ h.kept.sub.elements h.kept.sub.identity in
    let n : 0 < length members = omega (arith, i.1) in
    bounded (length t.set) t.mult (length members) m n
  where
    bounded : (a b n : ℕ) → a * b ≡ n → 0 < n → a ≤ n
    bounded a zero n e h = absurd (omega (arith, e, h))
    bounded a (suc b) n e h = omega (arith, e)

-- ---- what grows with the list

pub grown_on : (members : List Operator) (old more : List Entry) (k : Entry) (e : Map) → HasGrown members old k e → HasGrown members (old ++ more) k e
grown_on members old more k e h = λ y f q. let r = h y f q in (r.0, Contains-append_left old more r.0 r.1, r.2)

pub done_on : (members : List Operator) (old more : List Entry) (k : Entry) → IsGrownByAll members old k → IsGrownByAll members (old ++ more) k
done_on members old more k h = λ e m. grown_on members old more k e (h e m)

-- ---- the loop

module _ (members : List Operator) (candidates : List Map) (k : Entry) (first : List Entry) where
  abbrev Visiting : List Entry → ℕ → Type 0
  Visiting now i = IsVisiting members candidates k first now i

  pub visit_begins : AreKept members first → Visiting first 0
  visit_begins a = record {
    extends = ([], sym (append_nil first));
    kept = a;
    tried = λ j e l s. absurd (omega (arith, l));
    done = λ j t l s. absurd (omega (arith, l, slice_get_within first j t s));
  }
    where
      append_nil : (xs : List Entry) → xs ++ [] ≡ xs
      append_nil [] = refl
      append_nil (x ∷ xs) = ap (λ v. x ∷ v) (append_nil xs)

  -- the candidate at i was tried
  tried_more : (now : List Entry) (i : ℕ) (e : Map) → slice_get candidates i ≡ Some e → ((j : ℕ) (c : Map) → j < i → slice_get candidates j ≡ Some c → HasGrown members now k c) → HasGrown members now k e
      → (j : ℕ) (c : Map) → j < i + 1 → slice_get candidates j ≡ Some c → HasGrown members now k c
  tried_more now i e s h g j c l q = ⊎_elim (λ b. h j c b q) (λ b. subst (HasGrown members now k) (same_Some e c (sym s ∙ ap (slice_get candidates) (sym b) ∙ q)) g) (below_or j i l)
    where
      below_or : (j i : ℕ) → j < i + 1 → (j < i) ⊎ (j ≡ i)
      below_or j i l = grind arith

  pub visit_same : (now : List Entry) (i : ℕ) (e : Map) → Visiting now i → slice_get candidates i ≡ Some e → HasGrown members now k e → Visiting now (i + 1)
  visit_same now i e v s g = record { extends = v.extends; kept = v.kept; tried = tried_more now i e s v.tried g; done = v.done }

  -- what was kept new was visited in its turn
  pub visit_more : (now mid new : List Entry) (t : Entry) (i : ℕ) (e : Map) → Visiting now i → slice_get candidates i ≡ Some e → mid ≡ now ++ t ∷ [] → HasGrown members mid k e → IsVisited members mid new → Visiting new (i + 1)
  visit_more now mid new t i e v s m g w =
      let more : List Entry = (t ∷ []) ++ w.extends.0 in
      let whole : new ≡ now ++ more = w.extends.1 ∙ ap (λ x. x ++ w.extends.0) m ∙ append_assoc now (t ∷ []) w.extends.0 in
      record {
        extends = (v.extends.0 ++ more, whole ∙ ap (λ x. x ++ more) v.extends.1 ∙ append_assoc first v.extends.0 more);
        kept = w.kept;
        tried = tried_more new i e s
            (λ j c l q. subst (λ x. HasGrown members x k c) (sym whole) (grown_on members now more k c (v.tried j c l q)))
            (subst (λ x. HasGrown members x k e) (sym w.extends.1) (grown_on members mid w.extends.0 k e g));
        done = λ j u l q. ⊎_elim
            (λ b. subst (λ x. IsGrownByAll members x u) (sym whole) (done_on members now more u (v.done j u l (back_append now more j u b (subst (λ x. slice_get x j ≡ Some u) whole q)))))
            (λ b. w.done j u (later j b) q)
            (split j (length now));
      }
    where
      split : (j n : ℕ) → (j < n) ⊎ (n ≤ j)
      split j n = grind arith

      later : (j : ℕ) → length now ≤ j → length mid ≤ j + 1
      later j b = omega (arith, ap length m, length-append now (t ∷ []))

  -- at the end the group itself is done
  pub visit_ends : (now : List Entry) (n : ℕ) → Visiting now n → length candidates ≤ n → 0 < length first → slice_get first (length first - 1) ≡ Some k → AreEnough members k.set candidates → IsVisited members first now
  visit_ends now n v l some s enough = record {
    extends = v.extends;
    kept = v.kept;
    done = λ j t h q. ⊎_elim
        (λ b. v.done j t b q)
        (λ b. subst (IsGrownByAll members now) (same_Some k t (sym (here j b) ∙ q)) itself)
        (split j (length first) h);
  }
    where
      split : (j n : ℕ) → n ≤ j + 1 → (n ≤ j) ⊎ (j ≡ n - 1)
      split j n h = grind arith

      here : (j : ℕ) → j ≡ length first - 1 → slice_get now j ≡ Some k
      here j b = ap (slice_get now) b ∙ subst (λ x. slice_get x (length first - 1) ≡ Some k) (sym v.extends.1) (at_append first v.extends.0 (length first - 1) k s)

      itself : IsGrownByAll members now k
      itself = λ e m y f q.
          let r = enough e m y f q in
          let c : Map = r.0 in
          let st = r.2 in
          let z : ScaledPoint = moved st.by y in
          let p = (st.points y).0 (f, q) in
          let at = at_contains candidates c r.1 in
          let g = v.tried r.1.0 c (omega (arith, slice_get_within candidates r.1.0 c at)) at z p.0 p.1 in
          (g.0, g.1, stands_grown members v.kept.group (kept_in k) c e g.0.key.key st g.2)

-- the group that is visited stays at its place
pub still_there : (members : List Operator) (candidates : List Map) (first now : List Entry) (k : ℕ) (t : Entry) (i : ℕ) → slice_get first k ≡ Some t → IsVisiting members candidates t first now i → slice_get now k ≡ Some t
still_there members candidates first now k t i s v = subst (λ x. slice_get x k ≡ Some t) (sym v.extends.1) (at_append first v.extends.0 k t s)

-- what is at a place of a list
pub item_is : {X : Type 0} (xs : List X) (k : ℕ) (x : X) → k < length xs → x ≡ get_or xs k x → slice_get xs k ≡ Some x
item_is xs k x h e = slice_get-get_or xs k x h ∙ ap Some (sym e)

pub candidate_is : (members : List Operator) (moves : List Move) (k : ℕ) (m : Move) → All (IsCandidate members) (map map_in moves) → slice_get moves k ≡ Some m → IsCandidate members (map_in m)
candidate_is members moves k m a s = All-contains (IsCandidate members) (map map_in moves) (map_in m) a (contains_at (map map_in moves) k (map_in m) (map_at map_in moves k m s))

-- the measure falls: what was kept new is larger than the group that is visited
pub left_falls : (members : List Operator) (first now mid : List Entry) (k t : Entry) → slice_get first (length first - 1) ≡ Some k → mid ≡ now ++ t ∷ [] → length k.set < length t.set → AreKept members mid
    → length members - length (last_set mid) < length members - length (last_set first)
left_falls members first now mid k t s m l h =
    let a : length (last_set first) ≡ length k.set = ap length (last_at first (length first - 1) k (omega (arith, slice_get_within first (length first - 1) k s)) s) in
    let b : length (last_set mid) ≡ length t.set = ap (λ x. length (last_set x)) m ∙ ap length (last_appended now t) in
    let c = All-contains (IsEntry members) mid t h.each (contains_at mid (length now) t (subst (λ x. slice_get x (length now) ≡ Some t) (sym m) (at_seam now t))) in
    omega (arith, size_within members t c)

pub last_is : (xs : List Entry) (n : ℕ) (t : Entry) → n ≡ length xs → 0 < length xs → t ≡ get_or xs (n - 1) t → slice_get xs (n - 1) ≡ Some t
last_is xs n t l h e = item_is xs (n - 1) t (omega (arith, l, h)) e

pub some_more : (now mid : List Entry) (t : Entry) → mid ≡ now ++ t ∷ [] → 0 < length mid
some_more now mid t e = omega (arith, ap length e, length-append now (t ∷ []))
