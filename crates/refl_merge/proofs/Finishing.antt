-- From the merged lines of entries to the merged list of the lines.
use Rattle.std.proofs.Common.{◌≡◌, ℤ, Bool, true, false, cond, List, [], ◌∷◌, length, get_or, ap, sym, ◌∙◌, subst, refl, arith, All, Contains, filter, IsPermutation}
use Rattle.std.proofs.lemmas.Bool.{true≢false, false≢true}
use Rattle.std.proofs.lemmas.Bool.Decides.{same_from_decides}
use Rattle.std.proofs.lemmas.List.Elements.{All-contains}
use Rattle.std.proofs.lemmas.List.Sorted.{All-permutation, Contains-permutation, IsPermutation-map, IsPermutation-trans, IsPermutation-sym}
use Rattle.finite_groups.proofs.Members as lists
use Rattle.lattice_algebra.specs.Operator.{Operator}
use Rattle.group_closure.specs.GroupList.{IsGroup}
use Rattle.phase_rules.specs.declared.pairs.Pairs.{Pairs}
use Rattle.phase_rules.specs.Rows.{row_of}
use Rattle.phase_rules.specs.Equivalent.{AreEquivalent}
use Rattle.phase_rules.proofs.Classes.{equivalent_back}
use Rattle.refl_merge.specs.declared.measured.Measured.{Measured}
use Rattle.refl_merge.specs.declared.merged.MergedLine.{MergedLine}
use Rattle.refl_merge.specs.declared.entries.Keyed.{Keyed}
use Rattle.refl_merge.specs.Keys.{numbers_of, IsAbove, IsClassKey}
use Rattle.refl_merge.specs.Merged.{are_equivalent, lines_of_class, IsMergeOf, IsMergedLine, IsMergedList}
use Rattle.refl_merge.specs.Steps.{IsKeyed, AreKeyed, measured_lines, has_key, IsGreaterKey, IsGathered, AreGathered}
use Rattle.refl_merge.proofs.Order.{three_numbers}
use Rattle.refl_merge.proofs.Classes.{are_equivalent-is, one_key, key_of_key}
use Rattle.refl_merge.proofs.Gathering.{has_key-is}
use Rattle.refl_merge.proofs.Totals.{HaveOneTotal, one_total}

-- a sort moves the entries
pub keyed_sorted : (pairs : Pairs) (members : List Operator) (lines : List Measured) (a b : List Keyed) → IsPermutation a b → AreKeyed pairs members lines a → AreKeyed pairs members lines b
keyed_sorted pairs members lines a b p k = record {
  each = All-permutation (IsKeyed pairs members) a b p k.each;
  permutation = IsPermutation-trans lines (measured_lines a) (measured_lines b) k.permutation (IsPermutation-map (λ (e : Keyed). e.line) a b p);
}

-- the lines of the entries that pass a test, where the lines pass another with them
filter_lines : (p : Keyed → Bool) (q : Measured → Bool) (entries : List Keyed) → ((e : Keyed) → Contains entries e → p e ≡ q e.line) → measured_lines (filter p entries) ≡ filter q (measured_lines entries)
filter_lines p q [] s = refl
filter_lines p q (e ∷ rest) s = by (p e) (q e.line) (s e (lists.Contains-here e rest)) (filter_lines p q rest (λ f c. s f (lists.Contains-later f e rest c)))
  where
    by : (b c : Bool) → b ≡ c → measured_lines (filter p rest) ≡ filter q (measured_lines rest) → measured_lines (cond b (e ∷ filter p rest) (filter p rest)) ≡ cond c (e.line ∷ filter q (measured_lines rest)) (filter q (measured_lines rest))
    by true true t again = ap (λ v. e.line ∷ v) again
    by true false t again = absurd (true≢false t)
    by false true t again = absurd (false≢true t)
    by false false t again = again

-- a merged line of some lines is one of others with the same total
merge_of_same : (members : List Operator) (a b : List Measured) (line : MergedLine) → HaveOneTotal a b → IsMergeOf members a line → IsMergeOf members b line
merge_of_same members a b line t m = record {
  count = m.count ∙ t.count;
  sum = m.sum ∙ t.sum;
  absent = m.absent;
  observed = ((λ o. let r = m.observed.0 o in (r.0, t.value.0 r.1)), (λ r. m.observed.1 (r.0, t.value.1 r.1)));
}

above_by_key : (a b : List ℤ) → length a ≡ 3 → length b ≡ 3 → IsGreaterKey a b → IsAbove (row_of a) (row_of b)
above_by_key a b p q g = subst (λ v. IsGreaterKey v (numbers_of (row_of b))) (sym (three_numbers a p)) (subst (IsGreaterKey a) (sym (three_numbers b q)) g)

module _ (pairs : Pairs) (members : List Operator) (group : IsGroup members) (lines : List Measured) (entries : List Keyed) (keyed : AreKeyed pairs members lines entries) where
  keyed_at : (e : Keyed) → Contains entries e → IsKeyed pairs members e
  keyed_at e c = All-contains (IsKeyed pairs members) entries e keyed.each c

  -- an entry has the key of its class
  same_test : (f : Keyed) → Contains entries f → (e : Keyed) → Contains entries e → has_key f.key e ≡ are_equivalent pairs members (row_of f.key) e.line.index
  same_test f d e c =
      let kf = keyed_at f d in
      let ke = keyed_at e c in
      let own = key_of_key pairs members group f.line.index (row_of f.key) kf.key in
      same_from_decides (has_key f.key e) (are_equivalent pairs members (row_of f.key) e.line.index) (
        (λ t. subst (λ key. AreEquivalent pairs members (row_of key) e.line.index) (sym ((has_key-is f.key e).0 t)) (equivalent_back pairs members group e.line.index (row_of e.key) ke.key.equivalent)),
        (λ a.
            let same : row_of f.key ≡ row_of e.key = one_key pairs members group (row_of f.key) e.line.index (row_of f.key) (row_of e.key) a own ke.key in
            (has_key-is f.key e).1 (sym (three_numbers f.key kf.three) ∙ ap numbers_of same ∙ three_numbers e.key ke.three)),
      )
      (are_equivalent-is pairs members (row_of f.key) e.line.index)

  class_total : (f : Keyed) → Contains entries f → HaveOneTotal (measured_lines (filter (has_key f.key) entries)) (lines_of_class pairs members (row_of f.key) lines)
  class_total f d =
      let q = λ (m : Measured). are_equivalent pairs members (row_of f.key) m.index in
      subst (λ own. HaveOneTotal own (filter q lines)) (sym (filter_lines (has_key f.key) q entries (same_test f d))) (one_total q (measured_lines entries) lines (IsPermutation-sym lines (measured_lines entries) keyed.permutation))

  merged_line_is : (line : MergedLine) → IsGathered members entries line → IsMergedLine pairs members lines line
  merged_line_is line g =
      let f = g.some.0 in
      let k = keyed_at f g.some.1 in
      let at : f.key ≡ line.key = sym g.some.2 in
      let merges = merge_of_same members _ _ line (subst (λ key. HaveOneTotal (measured_lines (filter (has_key key) entries)) (lines_of_class pairs members (row_of key) lines)) at (class_total f g.some.1)) g.merges in
      let there = lists.Contains-map (λ (e : Keyed). e.line) f (filter (has_key line.key) entries) (lists.Contains-filter (has_key line.key) f entries g.some.1 ((has_key-is line.key f).1 g.some.2)) in
      record {
        three = ap length g.some.2 ∙ k.three;
        key = subst (λ key. IsClassKey pairs members (row_of key) (row_of key)) at (key_of_key pairs members group f.line.index (row_of f.key) k.key);
        some = omega (arith, g.merges.count, there.1);
        merges = merges;
      }

  -- a measured line stands in an entry
  entry_of : (m : Measured) → Contains lines m → (e : Keyed) × Contains entries e × (e.line ≡ m)
  entry_of m c = lists.Contains-from_map (λ (e : Keyed). e.line) m entries (Contains-permutation lines (measured_lines entries) m keyed.permutation c)

  pub merged_from_gathered : (merged : List MergedLine) → AreGathered members entries merged → IsMergedList pairs members lines merged
  merged_from_gathered merged g =
      let each : All (IsMergedLine pairs members lines) merged = λ k d l. merged_line_is (get_or merged k d) (g.each k d l) in
      record {
        each = each;
        all = λ m c.
            let e = entry_of m c in
            let r = g.all e.0 e.1 in
            let k = keyed_at e.0 e.1 in
            (r.0, r.1, subst (λ key. AreEquivalent pairs members m.index (row_of key)) (sym r.2) (subst (λ (m : Measured). AreEquivalent pairs members m.index (row_of e.0.key)) e.2 k.key.equivalent));
        descending = λ i j d l k. above_by_key (get_or merged i d).key (get_or merged j d).key (each i d (omega arith)).three (each j d k).three (g.descending i j d l k);
      }
