-- Where the entries with one key end, and what a run of entries holds.
use Rattle.std.proofs.Common.{◌≡◌, ◌≢◌, ◌<◌, ◌≤◌, ◌+◌, ℕ, ℤ, pos, ◌+ℤ◌, Bool, true, false, Some, List, [], ◌∷◌, ◌++◌, length, take, get_or, slice_get, ⊎_elim, ap, sym, ◌∙◌, subst, arith, All, Decides, int_eq}
use Rattle.std.specs.Cmp.{signed_Decides}
use Rattle.std.specs.Cmp.Lexicographic.{pointwise, pointwise_decides}
use Rattle.std.proofs.lemmas.Bool.{cases_lt, false≢true}
use Rattle.std.proofs.lemmas.Option.{get_or_from_slice_get, slice_get_within}
use Rattle.std.proofs.lemmas.List.{map-append, take_more, take_all}
use Rattle.std.proofs.lemmas.List.Elements.{All-more, All-contains}
use Rattle.finite_groups.proofs.Members as lists
use Rattle.refl_merge.specs.declared.measured.Measured.{Measured}
use Rattle.refl_merge.specs.declared.entries.Keyed.{Keyed}
use Rattle.refl_merge.specs.Merged.{sum_of_values, HasValue}
use Rattle.refl_merge.specs.Steps.{IsKeyRun, measured_lines}
use Rattle.refl_merge.proofs.Totals.{sum_of_values-append_one}

key_eq-is : (a b : List ℤ) → Decides (pointwise int_eq a b) (a ≡ b)
key_eq-is a b = pointwise_decides signed_Decides a b

abbrev AreOfKey : List Keyed → ℕ → ℕ → Type 0
AreOfKey entries start end = (k : ℕ) (e f : Keyed) → start ≤ k → k < end → slice_get entries start ≡ Some e → slice_get entries k ≡ Some f → f.key ≡ e.key

module _ (entries : List Keyed) (start end : ℕ) (x y : Keyed) (same : Bool) (is : same ≡ pointwise int_eq (get_or entries end x).key (get_or entries start y).key) where
  pub run_more : AreOfKey entries start end → same ≡ true → AreOfKey entries start (end + 1)
  run_more a t k e f l m p q =
      ⊎_elim
      (λ before. a k e f l before p q)
      (λ here.
      let at : k ≡ end = omega arith in
      let g = get_or_from_slice_get entries end f x (ap (λ n. slice_get entries n) (sym at) ∙ q) in
      let s = get_or_from_slice_get entries start e y p in
      ap (λ (v : Keyed). v.key) (sym g) ∙ (key_eq-is (get_or entries end x).key (get_or entries start y).key).0 (sym is ∙ t) ∙ ap (λ (v : Keyed). v.key) s)
      (cases_lt k end)

  pub run_ends : end ≤ length entries → start < end → AreOfKey entries start end → same ≡ false → IsKeyRun entries start end
  run_ends w b a n = record {
    within = w;
    beyond = b;
    same = a;
    other = λ e f p q r.
        let g = get_or_from_slice_get entries end f x q in
        let s = get_or_from_slice_get entries start e y p in
        let eq : (get_or entries end x).key ≡ (get_or entries start y).key = ap (λ (v : Keyed). v.key) g ∙ r ∙ sym (ap (λ (v : Keyed). v.key) s) in
        false≢true (sym n ∙ is ∙ (key_eq-is (get_or entries end x).key (get_or entries start y).key).1 eq);
  }

pub run_all : (entries : List Keyed) (start end : ℕ) → end ≤ length entries → start < end → AreOfKey entries start end → length entries ≤ end → IsKeyRun entries start end
run_all entries start end w b a l = record {
  within = w;
  beyond = b;
  same = a;
  other = λ e f p q. absurd (omega (arith, l, slice_get_within entries end f q));
}

-- ---- the values of a run

sum_of_values-measured : (front : List Keyed) (e : Keyed) → sum_of_values (measured_lines (front ++ e ∷ [])) ≡ sum_of_values (measured_lines front) +ℤ e.line.value
sum_of_values-measured front e = ap sum_of_values (map-append (λ (e : Keyed). e.line) front (e ∷ [])) ∙ sum_of_values-append_one (measured_lines front) e.line

pub sum_more : (run : List Keyed) (i : ℕ) (e : Keyed) → i < length run → e ≡ get_or run i e → sum_of_values (measured_lines (take i run)) +ℤ e.line.value ≡ sum_of_values (measured_lines (take (i + 1) run))
sum_more run i e l at = sym (ap (λ own. sum_of_values (measured_lines own)) (take_more run i e l ∙ ap (λ (x : Keyed). take i run ++ x ∷ []) (sym at)) ∙ sum_of_values-measured (take i run) e)

abbrev IsZero : Keyed → Type 0
IsZero e = e.line.value ≡ pos 0

pub value_there : (run : List Keyed) (i : ℕ) (e : Keyed) → i < length run → e ≡ get_or run i e → e.line.value ≢ pos 0 → HasValue (measured_lines run)
value_there run i e l at n = (e.line, lists.Contains-map (λ (e : Keyed). e.line) e run (i, l, sym at), n)

pub zeros_more : (run : List Keyed) (i : ℕ) (e : Keyed) → i < length run → e ≡ get_or run i e → All IsZero (take i run) → e.line.value ≡ pos 0 → All IsZero (take (i + 1) run)
zeros_more run i e l at a z = All-more IsZero run i e l a (subst IsZero at z)

pub no_value : (run : List Keyed) (i : ℕ) → length run ≤ i → All IsZero (take i run) → HasValue (measured_lines run) → ⊥
no_value run i l a v =
    let e = lists.Contains-from_map (λ (e : Keyed). e.line) v.0 run v.1 in
    v.2 (ap (λ (m : Measured). m.value) (sym e.2) ∙ All-contains IsZero run e.0 (subst (All IsZero) (take_all i run l) a) e.1)

-- ---- the lines with their keys

pub lines_more : (entries : List Keyed) (lines : List Measured) (k : ℕ) (e : Keyed) (m : Measured) → measured_lines entries ≡ take k lines → slice_get lines k ≡ Some m → e.line ≡ m → measured_lines (entries ++ e ∷ []) ≡ take (k + 1) lines
lines_more entries lines k e m p q r =
    map-append (λ (e : Keyed). e.line) entries (e ∷ [])
    ∙ ap (λ own. own ++ e.line ∷ []) p
    ∙ ap (λ (x : Measured). take k lines ++ x ∷ []) (r ∙ sym (get_or_from_slice_get lines k m m q))
    ∙ sym (take_more lines k m (slice_get_within lines k m q))
