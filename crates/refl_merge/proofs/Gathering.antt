-- The merged lines of entries in order, run by run.
use Rattle.std.proofs.Common.{◌≡◌, ◌≢◌, ◌<◌, ◌≤◌, ◌+◌, ◌-◌, ℕ, ℤ, Bool, true, false, Some, List, [], ◌∷◌, ◌++◌, length, take, drop, get_or, slice_get, ⊎_elim, ap, sym, ◌∙◌, subst, refl, arith, All, Contains, Decides, filter, IsSorted, Ordering, Less, Equal, Greater, append-nil, IsTrue, cond, length-take, length-drop}
use Rattle.std.specs.Cmp.{IsTotalOrder}
use Rattle.std.specs.Cmp.Lexicographic.{slice_cmp}
use Rattle.std.specs.Ordering.{int_cmp, is_lt, is_eq, ordering_reverse}
use Rattle.std.proofs.lemmas.Bool.{cases_lt, true≢false, false≢true}
use Rattle.std.proofs.lemmas.Cmp.{lists_total, on_total, back_total, int_cmp_total, tied_itself}
use Rattle.std.proofs.lemmas.List.{length-map, get_or-take, get_or-drop}
use Rattle.std.proofs.lemmas.List.Elements.{All-contains, All-weaker, All-push, Contains-append_left, Contains-append_right, Contains-append_cases, Contains-push, filter-append}
use Rattle.std.proofs.lemmas.List.Sorted.{sorted_far, ranks_by}
use Rattle.std.proofs.Math.Seq.{take-add}
use Rattle.std.proofs.lemmas.Option.{slice_get-get_or, get_or_from_slice_get, slice_get_within}
use Rattle.finite_groups.proofs.Members as lists
use Rattle.finite_groups.proofs.Pairs.{AllPairs-append_one}
use Rattle.lattice_algebra.specs.Operator.{Operator}
use Rattle.group_closure.specs.GroupList.{IsGroup}
use Rattle.phase_rules.specs.declared.pairs.Pairs.{Pairs}
use Rattle.phase_rules.specs.Rows.{row_of}
use Rattle.phase_rules.specs.Marks.{IsAbsent}
use Rattle.phase_rules.proofs.Alike.{absent_together}
use Rattle.phase_rules.proofs.Classes.{equivalent_back}
use Rattle.refl_merge.specs.declared.merged.MergedLine.{MergedLine}
use Rattle.refl_merge.specs.declared.entries.Keyed.{Keyed}
use Rattle.refl_merge.specs.Merged.{IsMergeOf}
use Rattle.refl_merge.specs.Steps.{IsKeyed, measured_lines, entry_cmp, has_key, IsKeyRun, IsGreaterKey, AreBehind, IsLineOfRun, IsGathered, AreGathered}
use Rattle.refl_merge.proofs.Order.{list_ties}

-- ---- keys

list_total : IsTotalOrder (slice_cmp int_cmp)
list_total = lists_total int_cmp_total

not_greater_itself : (a b : List ℤ) → a ≡ b → IsGreaterKey a b → ⊥
not_greater_itself a b e p =
    let q : Less ≡ Equal = sym p ∙ ap (slice_cmp int_cmp b) e ∙ tied_itself list_total b in
    cc

-- a key that is not below another, and not it, is greater
greater_by : (a b : List ℤ) → is_lt (slice_cmp int_cmp a b) ≡ false → b ≢ a → IsGreaterKey a b
greater_by a b n d = by (slice_cmp int_cmp a b) refl n
  where
    by : (o : Ordering) → slice_cmp int_cmp a b ≡ o → is_lt o ≡ false → IsGreaterKey a b
    by Less e m = absurd (true≢false m)
    by Equal e m = absurd (d (sym (list_ties a b e)))
    by Greater e m = list_total.antisymm b a ∙ ap ordering_reverse e

-- a key below a greater one
lower : (a b c : List ℤ) → IsGreaterKey a b → is_lt (slice_cmp int_cmp b c) ≡ false → IsGreaterKey a c
lower a b c p n = by (slice_cmp int_cmp b c) refl n
  where
    by : (o : Ordering) → slice_cmp int_cmp b c ≡ o → is_lt o ≡ false → IsGreaterKey a c
    by Less e m = absurd (true≢false m)
    by Equal e m = subst (IsGreaterKey a) (list_ties b c e) p
    by Greater e m = list_total.trans c b a (list_total.antisymm c b ∙ ap ordering_reverse e) p

pub has_key-is : (key : List ℤ) (e : Keyed) → Decides (has_key key e) (key ≡ e.key)
has_key-is key e = (by (slice_cmp int_cmp key e.key) refl, λ q. ap is_eq (ap (slice_cmp int_cmp key) (sym q) ∙ tied_itself list_total key))
  where
    by : (o : Ordering) → slice_cmp int_cmp key e.key ≡ o → is_eq o ≡ true → key ≡ e.key
    by Less q t = absurd (false≢true t)
    by Equal q t = list_ties key e.key q
    by Greater q t = absurd (false≢true t)

-- ---- places

listed_at : (entries : List Keyed) (i : ℕ) (e : Keyed) → slice_get entries i ≡ Some e → Contains entries e
listed_at entries i e p = (i, slice_get_within entries i e p, get_or_from_slice_get entries i e e p)

pub entry_total : IsTotalOrder entry_cmp
entry_total = back_total (on_total (λ (e : Keyed). e.key) list_total)

-- of two entries of a list in order the first has no lesser key
not_later : (entries : List Keyed) (i j : ℕ) (e f : Keyed) → IsSorted entry_cmp entries → i ≤ j → slice_get entries i ≡ Some e → slice_get entries j ≡ Some f → is_lt (slice_cmp int_cmp e.key f.key) ≡ false
not_later entries i j e f sorted l p q =
    subst (λ (x : Keyed). is_lt (slice_cmp int_cmp x.key f.key) ≡ false) (get_or_from_slice_get entries i e e p)
    (subst (λ (x : Keyed). is_lt (slice_cmp int_cmp (get_or entries i e).key x.key) ≡ false) (get_or_from_slice_get entries j f e q)
    (sorted_far (λ a b. is_lt (entry_cmp a b)) (ranks_by entry_total (λ (e : Keyed). e)) entries sorted i j e l (slice_get_within entries j f q)))

some_entry : (entries : List Keyed) (i : ℕ) → i < length entries → (e : Keyed) × (slice_get entries i ≡ Some e)
some_entry [] i l = absurd (omega arith)
some_entry (e ∷ rest) i l = (get_or (e ∷ rest) i e, slice_get-get_or (e ∷ rest) i e l)

-- ---- one run more

module _ (entries : List Keyed) (sorted : IsSorted entry_cmp entries) (start end : ℕ) (run : IsKeyRun entries start end) where
  -- the key of the run is greater than each behind it
  run_behind : (s f : Keyed) (j : ℕ) → end ≤ j → slice_get entries start ≡ Some s → slice_get entries j ≡ Some f → IsGreaterKey s.key f.key
  run_behind s f j m p q =
      let within : end < length entries = omega (arith, slice_get_within entries j f q) in
      let g = some_entry entries end within in
      let first : IsGreaterKey s.key g.0.key = greater_by s.key g.0.key (not_later entries start end s g.0 sorted (omega (arith, run.beyond)) p g.1) (run.other s g.0 p g.1) in
      lower s.key g.0.key f.key first (not_later entries end j g.0 f sorted m g.1 q)

  pub behind_more : AreBehind entries start → AreBehind entries end
  behind_more b k j e f l m p q =
      ⊎_elim
      (λ before. b k j e f before (omega (arith, m, run.beyond)) p q)
      (λ here.
      let s = some_entry entries start (omega (arith, run.beyond, run.within)) in
      subst (λ key. IsGreaterKey key f.key) (sym (run.same k s.0 e here l s.1 p)) (run_behind s.0 f j m s.1 q))
      (cases_lt k start)

-- ---- the merged lines

filter_none : (p : Keyed → Bool) (entries : List Keyed) → ((e : Keyed) → Contains entries e → p e ≡ true → ⊥) → filter p entries ≡ []
filter_none p [] n = refl
filter_none p (e ∷ rest) n = by (p e) refl (filter_none p rest (λ f c. n f (lists.Contains-later f e rest c)))
  where
    by : (b : Bool) → p e ≡ b → filter p rest ≡ [] → cond b (e ∷ filter p rest) (filter p rest) ≡ []
    by true t q = absurd (n e (lists.Contains-here e rest) t)
    by false t q = q

measured_length : (entries : List Keyed) → length (measured_lines entries) ≡ length entries
measured_length entries = simp length-map

pub gathered_none : (members : List Operator) → AreGathered members [] []
gathered_none members = record { each = λ k d l. absurd (omega arith); all = λ e c. lists.not_in_nil e c; descending = λ i j d l k. absurd (omega arith) }

-- where a member of a part of the list stands
place_in_front : (entries : List Keyed) (n : ℕ) (e : Keyed) → Contains (take n entries) e → (k : ℕ) × (k < n) × (slice_get entries k ≡ Some e)
place_in_front entries n e c =
    let l : c.0 < n = omega (arith, c.1, length-take n entries) in
    let m : c.0 < length entries = omega (arith, c.1, length-take n entries) in
    (c.0, l, slice_get-get_or entries c.0 e m ∙ ap Some (sym (get_or-take n entries c.0 e l) ∙ c.2))

place_in_part : (entries : List Keyed) (i n : ℕ) (e : Keyed) → i + n ≤ length entries → Contains (take n (drop i entries)) e → (k : ℕ) × (i ≤ k) × (k < i + n) × (slice_get entries k ≡ Some e)
place_in_part entries i n e w c =
    let l : c.0 < n = omega (arith, c.1, length-take n (drop i entries)) in
    (i + c.0, omega arith, omega arith, slice_get-get_or entries (i + c.0) e (omega arith) ∙ ap Some (sym (get_or-drop i entries c.0 e) ∙ sym (get_or-take n (drop i entries) c.0 e l) ∙ c.2))

module _ (pairs : Pairs) (members : List Operator) (group : IsGroup members) (entries : List Keyed) (keyed : All (IsKeyed pairs members) entries) (sorted : IsSorted entry_cmp entries) (start end : ℕ) (is : IsKeyRun entries start end) (behind : AreBehind entries start) where
  abbrev front : List Keyed
  front = take start entries

  abbrev run : List Keyed
  run = take (end - start) (drop start entries)

  seam : take end entries ≡ front ++ run
  seam = let e : start + (end - start) ≡ end = omega (arith, is.beyond) in ap (λ n. take n entries) (sym e) ∙ take-add start (end - start) entries

  start_entry : (e : Keyed) × (slice_get entries start ≡ Some e)
  start_entry = some_entry entries start (omega (arith, is.beyond, is.within))

  in_run : (e : Keyed) → Contains run e → e.key ≡ start_entry.0.key
  in_run e c =
      let p = place_in_part entries start (end - start) e (omega (arith, is.beyond, is.within)) c in
      is.same p.0 start_entry.0 e p.1 (omega (arith, p.2, is.beyond)) start_entry.1 p.3

  in_front : (e : Keyed) → Contains front e → IsGreaterKey e.key start_entry.0.key
  in_front e c = let p = place_in_front entries start e c in behind p.0 start e start_entry.0 p.1 (omega arith) p.2 start_entry.1

  run_first : slice_get run 0 ≡ Some start_entry.0
  run_first =
      let d = start_entry.0 in
      let n : length run ≡ end - start = omega (arith, length-take (end - start) (drop start entries), length-drop start entries, is.beyond, is.within) in
      let e : start + 0 ≡ start = omega arith in
      slice_get-get_or run 0 d (omega (arith, n, is.beyond))
      ∙ ap Some (get_or-take (end - start) (drop start entries) 0 d (omega (arith, is.beyond)) ∙ get_or-drop start entries 0 d ∙ ap (λ n. get_or entries n d) e ∙ get_or_from_slice_get entries start d d start_entry.1)

  module _ (merged : List MergedLine) (line : MergedLine) (gathered : AreGathered members front merged) (of_run : IsLineOfRun members run line) where
    line_key : line.key ≡ start_entry.0.key
    line_key = of_run.key start_entry.0 run_first

    -- a line of the front has nothing in the run
    front_line : (x : MergedLine) → IsGathered members front x → IsGathered members (front ++ run) x
    front_line x g = record {
      some = (g.some.0, Contains-append_left front run g.some.0 g.some.1, g.some.2);
      merges = subst (λ own. IsMergeOf members (measured_lines own) x) (sym same) g.merges;
    }
      where
        above : IsGreaterKey x.key start_entry.0.key
        above = subst (λ key. IsGreaterKey key start_entry.0.key) (sym g.some.2) (in_front g.some.0 g.some.1)

        none : filter (has_key x.key) run ≡ []
        none = filter_none (has_key x.key) run (λ e c t. not_greater_itself x.key start_entry.0.key ((has_key-is x.key e).0 t ∙ in_run e c) above)

        same : filter (has_key x.key) (front ++ run) ≡ filter (has_key x.key) front
        same = filter-append (has_key x.key) front run ∙ ap (λ v. filter (has_key x.key) front ++ v) none ∙ append-nil (filter (has_key x.key) front)

    new_line : IsGathered members (front ++ run) line
    new_line = record {
      some = (start_entry.0, Contains-append_right front run start_entry.0 (listed_at run 0 start_entry.0 run_first), line_key);
      merges = subst (λ own. IsMergeOf members (measured_lines own) line) (sym same) merges_run;
    }
      where
        none : filter (has_key line.key) front ≡ []
        none = filter_none (has_key line.key) front (λ e c t. not_greater_itself e.key start_entry.0.key (sym ((has_key-is line.key e).0 t) ∙ line_key) (in_front e c))

        all_run : filter (has_key line.key) run ≡ run
        all_run = lists.filter_all (has_key line.key) run (λ e c. (has_key-is line.key e).1 (line_key ∙ sym (in_run e c)))

        same : filter (has_key line.key) (front ++ run) ≡ run
        same = filter-append (has_key line.key) front run ∙ ap (λ v. v ++ filter (has_key line.key) run) none ∙ all_run

        merges_run : IsMergeOf members (measured_lines run) line
        merges_run =
            let e : Keyed = start_entry.0 in
            let k = All-contains (IsKeyed pairs members) entries e keyed (listed_at entries start e start_entry.1) in
            let absent = of_run.absent e run_first in
            let to : IsTrue line.absent → IsAbsent members (row_of line.key) = λ t. subst (λ key. IsAbsent members (row_of key)) (sym line_key) (absent_together pairs members e.line.index (row_of e.key) group k.key.equivalent (absent.0 t)) in
            let back : IsAbsent members (row_of line.key) → IsTrue line.absent = λ a. absent.1 (absent_together pairs members (row_of e.key) e.line.index group (equivalent_back pairs members group e.line.index (row_of e.key) k.key.equivalent) (subst (λ key. IsAbsent members (row_of key)) line_key a)) in
            record {
              count = of_run.count ∙ sym (measured_length run);
              sum = of_run.sum;
              absent = (to, back);
              observed = (
                (λ t. let o = of_run.observed.0 t in (to o.0, o.1)),
                (λ o. of_run.observed.1 (back o.0, o.1)),
              );
            }

    pub gathered_more : AreGathered members (take end entries) (merged ++ line ∷ [])
    gathered_more = subst (λ own. AreGathered members own (merged ++ line ∷ [])) (sym seam) (record {
      each = All-push (IsGathered members (front ++ run)) merged line (All-weaker (IsGathered members front) (IsGathered members (front ++ run)) front_line merged gathered.each) new_line;
      all = λ e c. ⊎_elim
          (λ d. let r = gathered.all e d in (r.0, Contains-append_left merged (line ∷ []) r.0 r.1, r.2))
          (λ d. (line, Contains-push merged line, line_key ∙ sym (in_run e d)))
          (Contains-append_cases front run e c);
      descending = AllPairs-append_one (λ (a b : MergedLine). IsGreaterKey a.key b.key) merged line gathered.descending (λ x c.
          let g = All-contains (IsGathered members front) merged x gathered.each c in
          subst (λ key. IsGreaterKey key line.key) (sym g.some.2) (subst (IsGreaterKey g.some.0.key) (sym line_key) (in_front g.some.0 g.some.1)));
    })
