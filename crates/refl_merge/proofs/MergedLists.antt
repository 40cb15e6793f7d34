-- Every list of measured lines has one merged list, and each line is counted in it once.
use Rattle.std.proofs.Common.{◌≡◌, ◌⊎◌, ◌<◌, ◌+◌, ◌*◌, ℕ, pos, Bool, true, false, cond, List, [], ◌∷◌, length, map, get_or, inl, inr, ⊎_elim, ap, sym, ◌∙◌, subst, refl, arith, ◌&&◌, int_eq, AllPairs, Contains, Decides, sum_by, count_by}
use Rattle.std.proofs.lemmas.Bool.{false≢true}
use Rattle.std.proofs.lemmas.Bool.Decides.{same_from_decides, Decides-and, Decides-int_eq}
use Rattle.std.proofs.lemmas.List.{get_or-map, length-map}
use Rattle.std.proofs.lemmas.List.Elements.{All-contains, All-map, Contains-get_or}
use Rattle.std.proofs.lemmas.List.Sums.{sum_by-cons, length-filter}
use Rattle.finite_groups.proofs.Counts.{sum_by-exchange, sum_by-all}
use Rattle.finite_groups.proofs.Members as lists
use Rattle.finite_groups.proofs.Pairs.{AllPairs-first, AllPairs-rest, one_list_in_order}
use Rattle.finite_groups.proofs.Sorting as sorting
use Rattle.lattice_algebra.specs.Operator.{Operator}
use Rattle.group_closure.specs.GroupList.{IsGroup}
use Rattle.phase_rules.specs.declared.pairs.Pairs.{Pairs}
use Rattle.phase_rules.specs.declared.pairs.Pairs.TheVariants.{Apart}
use Rattle.phase_rules.specs.declared.parts.Mark.{Mark}
use Rattle.phase_rules.specs.declared.parts.Mark.TheVariants.{Absent, Free, Phase}
use Rattle.phase_rules.specs.Rows.{Row, origin_row, row_of}
use Rattle.phase_rules.specs.Equivalent.{AreEquivalent}
use Rattle.phase_rules.specs.Marks.{IsAbsent, IsMark}
use Rattle.phase_rules.proofs.Classes.{equivalent_itself, equivalent_back}
use Rattle.phase_rules.proofs.SomeMark.{some_mark}
use Rattle.refl_merge.specs.declared.measured.Measured.{Measured}
use Rattle.refl_merge.specs.declared.merged.MergedLine.{MergedLine}
use Rattle.refl_merge.specs.Keys.{numbers_of, IsAbove, IsClassKey}
use Rattle.refl_merge.specs.Merged.{are_equivalent, lines_of_class, sum_of_values, HasValue, IsMergedLine, IsMergedList, IsOnlyLineOf}
use Rattle.refl_merge.proofs.Order.{above_on, which_above, not_both_above, not_above_itself, three_numbers}
use Rattle.refl_merge.proofs.Classes.{are_equivalent-is, one_key, key_of_equivalent, key_of_key, some_key}

-- ---- lists in order

-- two elements of a list in order, neither of which stands before the other, are one
same_element : {X : Type 0} (R : X → X → Type 0) (xs : List X) (x y : X) → AllPairs R xs → Contains xs x → Contains xs y → (R x y → ⊥) → (R y x → ⊥) → x ≡ y
same_element R [] x y s c d n m = lists.not_in_nil x c
same_element R (z ∷ zs) x y s c d n m =
    ⊎_elim
    (λ p. ⊎_elim (λ q. sym p ∙ q) (λ f. absurd (n (subst (λ v. R v y) p (AllPairs-first R z y zs s f)))) (lists.Contains-cases y z zs d))
    (λ e. ⊎_elim (λ q. absurd (m (subst (λ v. R v x) q (AllPairs-first R z x zs s e)))) (λ f. same_element R zs x y (AllPairs-rest R z zs s) e f n m) (lists.Contains-cases y z zs d))
    (lists.Contains-cases x z zs c)

all_pairs_map : {X Y : Type 0} (R : Y → Y → Type 0) (f : X → Y) (xs : List X) (e : X) → AllPairs (λ a b. R (f a) (f b)) xs → AllPairs R (map f xs)
all_pairs_map R f xs e s i j d l k =
    let m : j < length xs = simp length-map at k in
    subst (λ v. R v (get_or (map f xs) j d)) (sym (get_or-map f xs i e d (omega arith))) (subst (λ v. R (f (get_or xs i e)) v) (sym (get_or-map f xs j e d m)) (s i j e l m))

none_counted : {X : Type 0} (p : X → Bool) (xs : List X) → ((x : X) → Contains xs x → p x ≡ true → ⊥) → count_by p xs ≡ 0
none_counted p [] n = refl
none_counted p (x ∷ xs) n = sum_by-cons (λ x. cond (p x) 1 0) x xs ∙ by (p x) refl (none_counted p xs (λ y c. n y (lists.Contains-later y x xs c)))
  where
    by : (b : Bool) → p x ≡ b → count_by p xs ≡ 0 → cond b 1 0 + count_by p xs ≡ 0
    by true e q = absurd (n x (lists.Contains-here x xs) e)
    by false e q = omega (arith, q)

-- where no two elements pass a test, and one does
one_counted : {X : Type 0} (p : X → Bool) (xs : List X) (x : X) → AllPairs (λ a b. p a ≡ true → p b ≡ true → ⊥) xs → Contains xs x → p x ≡ true → count_by p xs ≡ 1
one_counted p [] x s c e = lists.not_in_nil x c
one_counted p (y ∷ ys) x s c e = sum_by-cons (λ x. cond (p x) 1 0) y ys ∙ by (p y) refl (one_counted p ys x (AllPairs-rest (λ a b. p a ≡ true → p b ≡ true → ⊥) y ys s))
  where
    by : (b : Bool) → p y ≡ b → (Contains ys x → p x ≡ true → count_by p ys ≡ 1) → cond b 1 0 + count_by p ys ≡ 1
    by true f again = let none = none_counted p ys (λ z d t. AllPairs-first (λ a b. p a ≡ true → p b ≡ true → ⊥) y z ys s d f t) in omega (arith, none)
    by false f again = ⊎_elim (λ q. absurd (false≢true (sym f ∙ ap p q ∙ e))) (λ d. let one = again d e in omega (arith, one)) (lists.Contains-cases x y ys c)

-- ---- one class of each line

row_in : MergedLine → Row
row_in line = row_of line.key

module _ (pairs : Pairs) (members : List Operator) (group : IsGroup members) (lines : List Measured) (merged : List MergedLine) (is : IsMergedList pairs members lines merged) where
  merged_at : (line : MergedLine) → Contains merged line → IsMergedLine pairs members lines line
  merged_at line c = All-contains (IsMergedLine pairs members lines) merged line is.each c

  -- the key of a line is that of each row of its class
  key_at : (line : MergedLine) (h : Row) → Contains merged line → AreEquivalent pairs members h (row_of line.key) → IsClassKey pairs members h (row_of line.key)
  key_at line h c a = key_of_equivalent pairs members group (row_of line.key) h (row_of line.key) (equivalent_back pairs members group h (row_of line.key) a) (merged_at line c).key

  one_row : (a b : MergedLine) (h : Row) → Contains merged a → Contains merged b → AreEquivalent pairs members h (row_of a.key) → AreEquivalent pairs members h (row_of b.key) → row_of a.key ≡ row_of b.key
  one_row a b h c d p q = one_key pairs members group h h (row_of a.key) (row_of b.key) (equivalent_itself pairs members group h) (key_at a h c p) (key_at b h d q)

  one_line : (a b : MergedLine) (h : Row) → Contains merged a → Contains merged b → AreEquivalent pairs members h (row_of a.key) → AreEquivalent pairs members h (row_of b.key) → a ≡ b
  one_line a b h c d p q =
      let e = one_row a b h c d p q in
      same_element (λ (a b : MergedLine). IsAbove (row_of a.key) (row_of b.key)) merged a b is.descending c d (not_above_itself _ _ e) (not_above_itself _ _ (sym e))

  pub one_class : (m : Measured) → Contains lines m → (line : MergedLine) × IsOnlyLineOf pairs members merged m.index line
  one_class m c =
      let r = is.all m c in
      (r.0, record { listed = r.1; equivalent = r.2; only = λ other d a. one_line other r.0 m.index d r.1 a r.2 })

  -- ---- the sum of the counts

  abbrev counts : MergedLine → Measured → Bool
  counts line m = are_equivalent pairs members (row_of line.key) m.index

  counts_in : (line : MergedLine) (m : Measured) → counts line m ≡ true → AreEquivalent pairs members m.index (row_of line.key)
  counts_in line m t = equivalent_back pairs members group (row_of line.key) m.index ((are_equivalent-is pairs members (row_of line.key) m.index).0 t)

  counted_once : (m : Measured) → Contains lines m → count_by (λ (line : MergedLine). counts line m) merged ≡ 1
  counted_once m c =
      let r = is.all m c in
      one_counted (λ (line : MergedLine). counts line m) merged r.0
      (λ i j d l k s t.
      let a = Contains-get_or merged i d (omega arith) in
      let b = Contains-get_or merged j d k in
      not_above_itself _ _ (one_row (get_or merged i d) (get_or merged j d) m.index a b (counts_in (get_or merged i d) m s) (counts_in (get_or merged j d) m t)) (is.descending i j d l k))
      r.1
      ((are_equivalent-is pairs members (row_of r.0.key) m.index).1 (equivalent_back pairs members group m.index (row_of r.0.key) r.2))

  pub counts_add_up : sum_by (λ (line : MergedLine). line.count) merged ≡ length lines
  counts_add_up =
      lists.sum_by-agree (λ (line : MergedLine). line.count) (λ (line : MergedLine). count_by (counts line) lines) merged (λ line c. (merged_at line c).merges.count ∙ length-filter (counts line) lines)
      ∙ sum_by-exchange (λ (line : MergedLine) (m : Measured). cond (counts line m) 1 0) merged lines
      ∙ sum_by-all (λ (m : Measured). count_by (λ (line : MergedLine). counts line m) merged) 1 lines (λ i d l. counted_once (get_or lines i d) (Contains-get_or lines i d l))
      ∙ times_one (length lines)
    where
      times_one : (n : ℕ) → n * 1 ≡ n
      times_one n = omega arith

-- ---- one merged list

module _ (pairs : Pairs) (members : List Operator) (group : IsGroup members) (lines : List Measured) where
  -- a line with a count has a measured line in its class
  line_there : (line : MergedLine) → IsMergedLine pairs members lines line → (m : Measured) × Contains lines m × AreEquivalent pairs members m.index (row_of line.key)
  line_there line is =
      let class = lines_of_class pairs members (row_of line.key) lines in
      let m = first class (omega (arith, is.some, is.merges.count)) in
      let f = lists.Contains-from_filter (λ (m : Measured). are_equivalent pairs members (row_of line.key) m.index) m.0 lines m.1 in
      (m.0, f.0, equivalent_back pairs members group (row_of line.key) m.0.index ((are_equivalent-is pairs members (row_of line.key) m.0.index).0 f.1))
    where
      first : (xs : List Measured) → 0 < length xs → (m : Measured) × Contains xs m
      first [] l = absurd (omega arith)
      first (x ∷ xs) l = (x, lists.Contains-here x xs)

  -- two merged lines of one class are one
  same_merged : (a b : MergedLine) → IsMergedLine pairs members lines a → IsMergedLine pairs members lines b → row_of a.key ≡ row_of b.key → a ≡ b
  same_merged a b p q e =
      let key : a.key ≡ b.key = sym (three_numbers a.key p.three) ∙ ap numbers_of e ∙ three_numbers b.key q.three in
      let count : a.count ≡ b.count = p.merges.count ∙ ap (λ r. length (lines_of_class pairs members r lines)) e ∙ sym q.merges.count in
      let sum : a.sum ≡ b.sum = p.merges.sum ∙ ap (λ r. sum_of_values (lines_of_class pairs members r lines)) e ∙ sym q.merges.sum in
      let absent : a.absent ≡ b.absent = same_from_decides a.absent b.absent p.merges.absent (subst (λ r. Decides b.absent (IsAbsent members r)) (sym e) q.merges.absent) in
      let observed : a.observed ≡ b.observed =
      same_from_decides a.observed b.observed p.merges.observed
      (subst (λ r. Decides b.observed (IsAbsent members r × HasValue (lines_of_class pairs members r lines))) (sym e) q.merges.observed) in
      λ i. record { key = key i; count = count i; sum = sum i; absent = absent i; observed = observed i }

  listed_in_both : (a b : List MergedLine) → IsMergedList pairs members lines a → IsMergedList pairs members lines b → (line : MergedLine) → Contains a line → Contains b line
  listed_in_both a b p q line c =
      let is = merged_at pairs members group lines a p line c in
      let m = line_there line is in
      let r = q.all m.0 m.1 in
      let e = one_key pairs members group m.0.index m.0.index (row_of line.key) (row_of r.0.key) (equivalent_itself pairs members group m.0.index) (key_at pairs members group lines a p line m.0.index c m.2) (key_at pairs members group lines b q r.0 m.0.index r.1 r.2) in
      subst (Contains b) (sym (same_merged line r.0 is (merged_at pairs members group lines b q r.0 r.1) e)) r.1

  pub one_list : (a b : List MergedLine) → IsMergedList pairs members lines a → IsMergedList pairs members lines b → a ≡ b
  one_list a b p q =
      one_list_in_order (λ (a b : MergedLine). IsAbove (row_of a.key) (row_of b.key)) a b (λ x y c d s t. not_both_above (row_of x.key) (row_of y.key) s t) p.descending q.descending
      (λ line. (listed_in_both a b p q line, listed_in_both b a q p line))

-- ---- some merged list

abbrev Decided : Type 0 → Type 0
Decided P = (b : Bool) × Decides b P

decided : {P : Type 0} → P ⊎ (P → ⊥) → Decided P
decided (inl p) = (true, ((λ _. p), (λ _. refl)))
decided (inr n) = (false, ((λ e. absurd (false≢true e)), (λ p. absurd (n p))))

both_decided : {P Q : Type 0} → Decided P → Decided Q → Decided (P × Q)
both_decided p q = (p.0 && q.0, Decides-and p.0 q.0 p.1 q.1)

module _ (members : List Operator) where
  absent_by : (h : Row) (mark : Mark) → IsMark Apart members h mark → IsAbsent members h ⊎ (IsAbsent members h → ⊥)
  absent_by h Absent m = inl m
  absent_by h Free m = inr m.present
  absent_by h (Phase s) m = inr m.present

  absent_decided : (h : Row) → Decided (IsAbsent members h)
  absent_decided h = let m = some_mark members h Apart in decided (absent_by h m.0 m.1)

value_or_none : (lines : List Measured) → HasValue lines ⊎ (HasValue lines → ⊥)
value_or_none [] = inr (λ v. lists.not_in_nil v.0 v.1)
value_or_none (m ∷ rest) = by (int_eq m.value (pos 0)) (Decides-int_eq m.value (pos 0)) (value_or_none rest)
  where
    by : (b : Bool) → Decides b (m.value ≡ pos 0) → HasValue rest ⊎ (HasValue rest → ⊥) → HasValue (m ∷ rest) ⊎ (HasValue (m ∷ rest) → ⊥)
    by b d (inl v) = inl (v.0, lists.Contains-later v.0 m rest v.1, v.2)
    by false d (inr none) = inl (m, lists.Contains-here m rest, λ e. false≢true (d.1 e))
    by true d (inr none) = inr (λ v. ⊎_elim (λ (e : m ≡ v.0). v.2 (ap (λ (x : Measured). x.value) (sym e) ∙ d.0 refl)) (λ c. none (v.0, c, v.2)) (lists.Contains-cases v.0 m rest v.1))

module _ (pairs : Pairs) (members : List Operator) (group : IsGroup members) (lines : List Measured) where
  key_in : Measured → Row
  key_in m = (some_key pairs members group m.index).0

  line_with : Row → MergedLine
  line_with key =
      let class = lines_of_class pairs members key lines in
      let absent = absent_decided members key in
      record {
        key = numbers_of key;
        count = length class;
        sum = sum_of_values class;
        absent = absent.0;
        observed = (both_decided absent (decided (value_or_none class))).0;
      }

  line_is : (m : Measured) → Contains lines m → IsMergedLine pairs members lines (line_with (key_in m))
  unfolding key_in line_with
  line_is m c =
      let key = some_key pairs members group m.index in
      let class = lines_of_class pairs members key.0 lines in
      let absent = absent_decided members key.0 in
      let there = lists.Contains-filter (λ (m : Measured). are_equivalent pairs members key.0 m.index) m lines c ((are_equivalent-is pairs members key.0 m.index).1 (equivalent_back pairs members group m.index key.0 key.1.equivalent)) in
      record {
        three = refl;
        key = key_of_key pairs members group m.index key.0 key.1;
        some = omega (arith, there.1);
        merges = record { count = refl; sum = refl; absent = absent.1; observed = (both_decided absent (decided (value_or_none class))).1 };
      }

  pub some_list : (merged : List MergedLine) × IsMergedList pairs members lines merged
  unfolding line_with key_in
  some_list =
      let r = sorting.sorted IsAbove above_on which_above (map key_in lines) in (
        map line_with r.0,
        record {
          each = All-map (IsMergedLine pairs members lines) line_with r.0 (λ i d l.
              let m = lists.Contains-from_map key_in (get_or r.0 i d) lines ((r.2 (get_or r.0 i d)).1 (Contains-get_or r.0 i d l)) in
              subst (λ key. IsMergedLine pairs members lines (line_with key)) m.2 (line_is m.0 m.1));
          all = λ m c.
              let key = some_key pairs members group m.index in
              (line_with key.0, lists.Contains-map line_with key.0 r.0 ((r.2 key.0).0 (lists.Contains-map key_in m lines c)), key.1.equivalent);
          descending = all_pairs_map (λ (a b : MergedLine). IsAbove (row_of a.key) (row_of b.key)) line_with r.0 origin_row r.1;
        },
      )
