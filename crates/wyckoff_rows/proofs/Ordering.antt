-- The rows in order: sorted, with no two alike, since no two keys are.
use Rattle.std.proofs.Common.{◌≡◌, ◌<◌, ◌+◌, inl, inr, ℤ, Bool, false, Ordering, Less, Equal, Greater, List, length, get_or, map, AllPairs, IsPermutation, IsSorted, ap, ap₂, sym, ◌∙◌, subst₂, arith, refl}
use Rattle.std.proofs.lemmas.List.{length-map, get_or-map}
use Rattle.std.proofs.lemmas.List.Elements.{All-contains, Contains-get_or}
use Rattle.std.specs.Cmp.{IsTotalOrder}
use Rattle.std.specs.Cmp.Lexicographic.{slice_cmp}
use Rattle.std.specs.List.{IsDistinct}
use Rattle.std.specs.List.Sorted.{IsStrictlySortedBy}
use Rattle.std.specs.Ordering.{MatchOrdering, nat_cmp, int_cmp, ordering_then, ordering_reverse, is_eq, is_lt}
use Rattle.std.specs.FinMap.{int_cmp-IsAntisymmetric, slice_cmp-IsAntisymmetric}
use Rattle.std.proofs.lemmas.Bool.{true≢false}
use Rattle.std.proofs.lemmas.Map.Keys.{Less-from_sorted, sorted_from_all_adjacent, apart_from_distinct, IsDistinct-from_apart, IsDistinct-IsPermutation}
use Rattle.std.proofs.lemmas.Cmp.{lists_total, on_total, then_total, back_total, int_cmp_total, nat_cmp_total, ranked}
use Rattle.lattice_algebra.specs.Matrix.{entries, coordinates}
use Rattle.lattice_algebra.specs.Operator.{Operator}
use Rattle.space_groups.specs.Keys.{Key, IsBelow}
use Rattle.space_groups.proofs.Keys.{same_entries, same_coordinates}
use Rattle.space_groups.proofs.Ordered.{less_is_below}
use Rattle.space_groups.specs.Rows as shown
use Rattle.space_groups.specs.Rows.{IsRowBefore}
use Rattle.affine_sets.specs.Averages.{KeyOver}
use Rattle.wyckoff_rows.specs.Shown.{row_in, row_cmp}
use Rattle.wyckoff_rows.specs.Steps.{row_shown, IsEntry, AreKept}
use Rattle.wyckoff_rows.specs.declared.entry.Entry.{Entry}
use Rattle.wyckoff_rows.specs.declared.parts.Row.{Row}
use Rattle.wyckoff_rows.proofs.Lists.{some_at}

pub row_cmp_total : IsTotalOrder row_cmp
row_cmp_total = then_total (back_total (on_total (λ (r : Row). r.mult) nat_cmp_total))
    (then_total (back_total (on_total (λ (r : Row). entries r.key.key.m) (lists_total int_cmp_total))) (on_total (λ (r : Row). coordinates r.key.key.t) (lists_total int_cmp_total)))

key_over_path : (p q : KeyOver) → p.key ≡ q.key → p.over ≡ q.over → p ≡ q
key_over_path p q k o = λ i. record { key = k i; over = o i }

-- ---- what the comparison says

equal_lists : (xs ys : List ℤ) → slice_cmp int_cmp xs ys ≡ Equal → xs ≡ ys
equal_lists xs ys e = slice_cmp-IsAntisymmetric int_cmp-IsAntisymmetric xs ys e

less_before : (a b : Row) → row_cmp a b ≡ Less → IsRowBefore (row_in a) (row_in b)
less_before a b e =
    go (nat_cmp b.mult a.mult) (slice_cmp int_cmp (entries b.key.key.m) (entries a.key.key.m)) (slice_cmp int_cmp (coordinates a.key.key.t) (coordinates b.key.key.t)) (ranked b.mult a.mult (nat_cmp b.mult a.mult) refl)
    (less_is_below (entries b.key.key.m) (entries a.key.key.m)).0 (equal_lists (entries b.key.key.m) (entries a.key.key.m)) (less_is_below (coordinates a.key.key.t) (coordinates b.key.key.t)).0 e
  where
    go : (o p q : Ordering) → MatchOrdering o (b.mult < a.mult) (b.mult ≡ a.mult) (a.mult < b.mult) → (p ≡ Less → IsBelow (entries b.key.key.m) (entries a.key.key.m)) → (p ≡ Equal → entries b.key.key.m ≡ entries a.key.key.m)
        → (q ≡ Less → IsBelow (coordinates a.key.key.t) (coordinates b.key.key.t)) → ordering_then o (ordering_then p q) ≡ Less → IsRowBefore (row_in a) (row_in b)
    go Less p q m f g h e = inl m
    go Equal Less q m f g h e = inr (sym m, inl (f refl))
    go Equal Equal q m f g h e = inr (sym m, inr (same_entries a.key.key.m b.key.key.m (sym (g refl)), h e))
    go Equal Greater q m f g h e = cc
    go Greater p q m f g h e = cc

key_path : (p q : Key) → p.m ≡ q.m → p.t ≡ q.t → p ≡ q
key_path p q m t = λ i. record { m = m i; t = t i }

equal_key : (a b : Row) → row_cmp a b ≡ Equal → a.key.key ≡ b.key.key
equal_key a b e =
    go (nat_cmp b.mult a.mult) (slice_cmp int_cmp (entries b.key.key.m) (entries a.key.key.m)) (slice_cmp int_cmp (coordinates a.key.key.t) (coordinates b.key.key.t)) (equal_lists (entries b.key.key.m) (entries a.key.key.m)) (equal_lists (coordinates a.key.key.t) (coordinates b.key.key.t)) e
  where
    go : (o p q : Ordering) → (p ≡ Equal → entries b.key.key.m ≡ entries a.key.key.m) → (q ≡ Equal → coordinates a.key.key.t ≡ coordinates b.key.key.t) → ordering_then o (ordering_then p q) ≡ Equal → a.key.key ≡ b.key.key
    go Equal Equal q g h e = key_path a.key.key b.key.key (same_entries a.key.key.m b.key.key.m (sym (g refl))) (same_coordinates a.key.key.t b.key.key.t (h e))
    go Equal Less q g h e = cc
    go Equal Greater q g h e = cc
    go Less p q g h e = cc
    go Greater p q g h e = cc

equal_mult : (a b : Row) → row_cmp a b ≡ Equal → a.mult ≡ b.mult
equal_mult a b e = go (nat_cmp b.mult a.mult) (ordering_then (slice_cmp int_cmp (entries b.key.key.m) (entries a.key.key.m)) (slice_cmp int_cmp (coordinates a.key.key.t) (coordinates b.key.key.t))) (ranked b.mult a.mult (nat_cmp b.mult a.mult) refl) e
  where
    go : (o p : Ordering) → MatchOrdering o (b.mult < a.mult) (b.mult ≡ a.mult) (a.mult < b.mult) → ordering_then o p ≡ Equal → a.mult ≡ b.mult
    go Equal p m e = sym m
    go Less p m e = cc
    go Greater p m e = cc

-- what the order sees of two rows
abbrev shown_cmp : shown.Row → shown.Row → Ordering
shown_cmp a b = ordering_then (nat_cmp b.mult a.mult) (ordering_then (slice_cmp int_cmp (entries b.key.m) (entries a.key.m)) (slice_cmp int_cmp (coordinates a.key.t) (coordinates b.key.t)))

-- rows that compare as equal show the same
pub equal_rows : (a b : Row) → row_cmp a b ≡ Equal → row_in a ≡ row_in b
equal_rows a b e = let k = equal_key a b e in λ i. record { mult = equal_mult a b e i; key = k i }

-- and those that show the same compare as equal
pub rows_equal : (a b : Row) → row_in a ≡ row_in b → row_cmp a b ≡ Equal
rows_equal a b e = ap (λ (r : shown.Row). shown_cmp r (row_in b)) e ∙ itself (row_cmp b b) (row_cmp_total.antisymm b b)
  where
    itself : (o : Ordering) → o ≡ ordering_reverse o → o ≡ Equal
    itself Less e = cc
    itself Equal e = refl
    itself Greater e = cc

-- ---- no two rows are alike

alike : Row → Row → Bool
alike a b = is_eq (row_cmp a b)

not_alike : (a b : Row) → (row_cmp a b ≡ Equal → ⊥) → alike a b ≡ false
unfolding alike
not_alike a b n = go (row_cmp a b) refl
  where
    go : (o : Ordering) → row_cmp a b ≡ o → is_eq o ≡ false
    go Less e = refl
    go Equal e = absurd (n e)
    go Greater e = refl

alike_flips : (a b : Row) → alike a b ≡ alike b a
unfolding alike
alike_flips a b = ap is_eq (row_cmp_total.antisymm a b) ∙ go (row_cmp b a)
  where
    go : (o : Ordering) → is_eq (ordering_reverse o) ≡ is_eq o
    go Less = refl
    go Equal = refl
    go Greater = refl

shown_apart : (members : List Operator) (kept : List Entry) → AreKept members kept → IsDistinct alike (map row_shown kept)
shown_apart members kept h = IsDistinct-from_apart alike (map row_shown kept) (λ i j d l b.
    let n : j < length kept = simp length-map at b in
    let m : i < length kept = omega (arith, l, n) in
    let x = (some_at kept i m).0 in
    let u : Entry = get_or kept i x in
    let v : Entry = get_or kept j x in
    let p = All-contains (IsEntry members) kept u h.each (Contains-get_or kept i x m) in
    let q = All-contains (IsEntry members) kept v h.each (Contains-get_or kept j x n) in
    let a = get_or-map row_shown kept i x d m in
    let c = get_or-map row_shown kept j x d n in
    ap₂ alike a c ∙ not_alike (row_shown u) (row_shown v) (λ e. h.apart i j x l n (key_over_path u.key v.key (equal_key (row_shown u) (row_shown v) e) (p.over ∙ sym q.over))))

strictly : (rows : List Row) (d : Row) → IsSorted row_cmp rows → IsDistinct alike rows → IsStrictlySortedBy row_cmp rows
unfolding alike
strictly rows d s a = sorted_from_all_adjacent row_cmp_total rows d (λ k l. less (row_cmp (get_or rows k d) (get_or rows (k + 1) d)) (get_or rows k d) (get_or rows (k + 1) d) refl (s k d (omega arith) l) (apart_from_distinct alike rows k (k + 1) d a (omega arith) l))
  where
    less : (o : Ordering) (p q : Row) → row_cmp p q ≡ o → is_lt (row_cmp q p) ≡ false → alike p q ≡ false → o ≡ Less
    less Less p q e f n = refl
    less Equal p q e f n = absurd (true≢false (sym (ap is_eq e) ∙ n))
    less Greater p q e f n = absurd (true≢false (sym (ap is_lt (row_cmp_total.antisymm q p ∙ ap ordering_reverse e)) ∙ f))

pub rows_in_order : (members : List Operator) (kept : List Entry) (rows : List Row) → AreKept members kept → IsPermutation (map row_shown kept) rows → IsSorted row_cmp rows → AllPairs IsRowBefore (map row_in rows)
rows_in_order members kept rows h p s i j d l b =
    let n : j < length rows = simp length-map at b in
    let m : i < length rows = omega (arith, l, n) in
    let x = (some_at rows i m).0 in
    let distinct = IsDistinct-IsPermutation alike alike_flips (map row_shown kept) rows p (shown_apart members kept h) in
    let less = Less-from_sorted row_cmp rows i j x (strictly rows x s distinct) l n in
    subst₂ IsRowBefore (sym (get_or-map row_in rows i x d m)) (sym (get_or-map row_in rows j x d n)) (less_before (get_or rows i x) (get_or rows j x) less)
