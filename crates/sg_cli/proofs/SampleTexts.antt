-- A seed asks for one group, and it has one text.
use Rattle.std.proofs.Common.{◌≡◌, ◌⊎◌, ◌<◌, ◌++◌, ℕ, zero, suc, List, [], ◌∷◌, length, slice_index_or, inl, inr, ⊎_elim, refl, sym, ap, ap₂, subst, ◌∙◌, arith}
use Rattle.std.proofs.lemmas.Bool.{cases_eq}
use Rattle.std.proofs.lemmas.Int.{ints}
use Rattle.std.proofs.lemmas.List.{ext_get_or}
use Rattle.lattice_algebra.specs.Operator.{Operator}
use Rattle.lattice_algebra.specs.Point.{IsPoint}
use Rattle.exact_ops.specs.declared.TheConstants.{UNIT}
use Rattle.triplet_text.specs.Lines.{lines_of}
use Rattle.triplet_text.proofs.LineLaws.{same_list, read_are_operators}
use Rattle.group_closure.specs.Words.{Closes}
use Rattle.group_closure.specs.GroupList.{IsGroupList, IsGroup}
use Rattle.group_closure.proofs.Lists.{one_list, not_closing, group_of_closing}
use Rattle.group_closure.proofs.Existence.{closes_or_not}
use Rattle.space_groups.specs.Rows.{Row, IsAt, Fits, IsTable}
use Rattle.samples.specs.declared.counting.TheConstants.{POINTS}
use Rattle.samples.specs.Groups.{number_of, triplets_of, IsSampleGroup}
use Rattle.samples.specs.Points.{made_point}
use Rattle.samples.specs.Counts.{IsCount, none, one_more, no_more, AreCounts}
use Rattle.samples.proofs.Triplets.{ReadsAndCloses, each}
use Rattle.table_print.specs.Sample.{IsSampleText}
use Rattle.sg_cli.specs.Wyckoff.{IsCountedText}

-- ---- the group

abbrev lines_for : ℕ → List (List ℕ)
lines_for number = lines_of (triplets_of number)

list_for : (seed : ℕ) → ReadsAndCloses (number_of seed)
list_for seed = each (number_of seed) (omega arith) (omega arith)

pub made_is_group : (seed : ℕ) (members : List Operator) → IsSampleGroup (number_of seed) members → IsGroup members
made_is_group seed members h =
    let lines = lines_for (number_of seed) in
    let r = list_for seed in
    group_of_closing h.list members (read_are_operators lines h.list h.read) (subst Closes (same_list lines r.0 h.list r.1 h.read) r.2) h.group

pub one_made : (seed : ℕ) (a b : List Operator) → IsSampleGroup (number_of seed) a → IsSampleGroup (number_of seed) b → a ≡ b
one_made seed a b p q =
    let same = same_list (lines_for (number_of seed)) p.list q.list p.read q.read in
    one_list q.list a b (subst (λ list. IsGroupList list a) same p.group) q.group

pub some_made : (seed : ℕ) → (members : List Operator) × IsSampleGroup (number_of seed) members
some_made seed =
    let r = list_for seed in
    ⊎_elim
    (λ c. (c.0, record { list = r.0; read = r.1; group = c.2 }))
    (λ u. absurd (not_closing r.0 u r.2))
    (closes_or_not r.0 (read_are_operators (lines_for (number_of seed)) r.0 r.1))

-- ---- the counts

one_count : (P : ℕ → Type 0) (n c d : ℕ) → IsCount P n c → IsCount P n d → c ≡ d
one_count P n c d none none = refl
one_count P n c d (one_more {n = m} {c = x} h p) (one_more {c = y} k q) = ap suc (one_count P m x y h k)
one_count P n c d (one_more h p) (no_more k q) = absurd (q p)
one_count P n c d (no_more h p) (one_more k q) = absurd (p q)
one_count P n c d (no_more {n = m} {c = x} h p) (no_more {c = y} k q) = one_count P m x y h k

some_count : (P : ℕ → Type 0) → ((i : ℕ) → P i ⊎ (P i → ⊥)) → (n : ℕ) → (c : ℕ) × IsCount P n c
some_count P which zero = (0, none)
some_count P which (suc n) = let r = some_count P which n in ⊎_elim (λ p. (suc r.0, one_more r.1 p)) (λ q. (r.0, no_more r.1 q)) (which n)

-- each place has a row
row_at : (rows : List Row) (k : ℕ) → k < length rows → (row : Row) × IsAt rows k row
row_at [] k l = absurd (omega (arith, l))
row_at (row ∷ rows) zero l = (row, record { within = l; is = λ d. refl })
row_at (row ∷ rows) (suc k) l = let r = row_at rows k (omega (arith, l)) in (r.0, record { within = l; is = r.1.is })

-- numbers for all places are a list of them
some_list : (P : ℕ → ℕ → Type 0) (n : ℕ) → ((k : ℕ) → k < n → (c : ℕ) × P k c) → (counts : List ℕ) × (length counts ≡ n) × ((k : ℕ) → k < n → P k (slice_index_or counts k 0))
some_list P zero each = ([], refl, λ k l. absurd (omega (arith, l)))
some_list P (suc n) each =
    let first = each 0 (omega arith) in
    let rest = some_list (λ k. P (suc k)) n (λ k l. each (suc k) (omega (arith, l))) in
    (first.0 ∷ rest.0, ap suc rest.1, by first.0 rest.0 first.1 rest.2)
  where
    by : (c : ℕ) (counts : List ℕ) → P 0 c → ((k : ℕ) → k < n → P (suc k) (slice_index_or counts k 0)) → (k : ℕ) → k < suc n → P k (slice_index_or (c ∷ counts) k 0)
    by c counts first rest zero l = first
    by c counts first rest (suc k) l = rest k (omega (arith, l))

module _ (members : List Operator) (seed : ℕ) (rows : List Row) where
  abbrev FitsPoint : Row → ℕ → Type 0
  FitsPoint row i = Fits UNIT members row (made_point seed i)

  one_list_of_counts : (n : ℕ) (a b : List ℕ) → AreCounts members rows seed n a → AreCounts members rows seed n b → a ≡ b
  one_list_of_counts n a b p q =
      ext_get_or 0 a b (p.all ∙ sym q.all)
      (λ k l. let r = row_at rows k (subst (λ m. k < m) p.all l) in one_count (FitsPoint r.0) n (slice_index_or a k 0) (slice_index_or b k 0) (p.each k r.0 r.1) (q.each k r.0 r.1))

  module _ (table : IsTable UNIT members rows) where
    fits_or_not : (k : ℕ) (row : Row) → IsAt rows k row → (i : ℕ) → FitsPoint row i ⊎ (FitsPoint row i → ⊥)
    fits_or_not k row at i =
        let x = made_point seed i in
        let point : IsPoint x = twelve i in
        let e = table.every x point in
        ⊎_elim
        (λ s. let same = sym (e.2.is row) ∙ (subst (λ j. IsAt rows j row) (sym s) at).is row in inl (subst (λ r. FitsPoint r i) same e.3))
        (λ o. inr (λ f. o (table.one x e.0 k e.1 row point e.2 at e.3 f)))
        (cases_eq e.0 k)
      where
        twelve : (i : ℕ) → IsPoint (made_point seed i)
        twelve i = omega (arith, ints)

    some_list_of_counts : (n : ℕ) → (counts : List ℕ) × AreCounts members rows seed n counts
    some_list_of_counts n = let r = some_list (λ k c. (row : Row) → IsAt rows k row → IsCount (FitsPoint row) n c) (length rows) at_place in (r.0, record { all = r.1; each = λ k row at. r.2 k at.within row at })
      where
        at_place : (k : ℕ) → k < length rows → (c : ℕ) × ((row : Row) → IsAt rows k row → IsCount (FitsPoint row) n c)
        at_place k l =
            let r = row_at rows k l in
            let c = some_count (FitsPoint r.0) (fits_or_not k r.0 r.1) n in
            (c.0, λ row at. subst (λ q. IsCount (FitsPoint q) n c.0) (sym (r.1.is row) ∙ at.is row) c.1)

-- ---- the text

module _ (members : List Operator) (seed : ℕ) (rows : List Row) (table : IsTable UNIT members rows) where
  pub one_counted_text : (s t : List ℕ) → IsCountedText members seed rows s → IsCountedText members seed rows t → s ≡ t
  one_counted_text s t p q =
      let same = one_list_of_counts members seed rows POINTS p.counts q.counts p.are q.are in
      let k = subst (λ counts. IsSampleText (number_of seed) members rows counts s) same p.is_text in
      k.whole ∙ ap₂ (λ (a b : List ℕ). a ++ b) (k.is_first ∙ sym q.is_text.is_first) (k.is_later ∙ sym q.is_text.is_later) ∙ sym q.is_text.whole

  pub some_counted_text : (text : List ℕ) × IsCountedText members seed rows text
  some_counted_text = let r = some_list_of_counts members seed rows table POINTS in (_, record { counts = r.0; are = r.1; is_text = record { first = _; is_first = refl; later = _; is_later = refl; whole = refl } })

-- what was printed of numbers that are the group's number and the counts
pub counted_text : (members : List Operator) (seed : ℕ) (rows : List Row) (number : ℕ) (counts shown : List ℕ) → AreCounts members rows seed POINTS counts → number ≡ number_of seed → shown ≡ counts → (text : List ℕ) → IsSampleText number members rows shown text → IsCountedText members seed rows text
counted_text members seed rows number counts shown are e f text t = record { counts = counts; are = are; is_text = subst (λ n. IsSampleText n members rows counts text) e (subst (λ l. IsSampleText number members rows l text) f t) }
