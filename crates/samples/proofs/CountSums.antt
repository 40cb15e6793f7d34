-- The counts of the rows of a table have the number of points as their sum.
use Rattle.std.proofs.Common.{◌≡◌, ◌⊎◌, ◌<◌, ◌+◌, ℕ, zero, suc, List, [], ◌∷◌, length, get_or, sum, inl, inr, ⊎_elim, refl, sym, ap, ap₂, ◌∙◌, subst, arith}
use Rattle.std.proofs.lemmas.Int.{ints}
use Rattle.std.proofs.lemmas.List.{get_or_default}
use Rattle.std.proofs.lemmas.List.Sums.{sum_by-cons}
use Rattle.lattice_algebra.specs.Operator.{Operator}
use Rattle.lattice_algebra.specs.Point.{IsPoint}
use Rattle.exact_ops.specs.declared.TheConstants.{UNIT}
use Rattle.space_groups.specs.Rows.{Row, IsAt, Fits, IsTable}
use Rattle.samples.specs.Points.{made_point}
use Rattle.samples.specs.Counts.{IsCount, none, one_more, no_more, AreCounts}
use Rattle.samples.proofs.CountSteps.{no_row}

-- ---- counts of numbers below n, each of which has exactly one of the properties

-- the count is one more than that before, or the same
without_last : (P : ℕ → Type 0) (m n c : ℕ) → m ≡ suc n → IsCount P m c → (d : ℕ) × IsCount P n d × ((P n × (c ≡ suc d)) ⊎ ((P n → ⊥) × (c ≡ d)))
without_last P m n c e none = absurd (omega (arith, e))
without_last P m n c e (one_more {n = i} {c = d} h p) = let s : i ≡ n = omega (arith, e) in (d, subst (λ j. IsCount P j d) s h, inl (subst P s p, refl))
without_last P m n c e (no_more {n = i} {c = d} h p) = let s : i ≡ n = omega (arith, e) in (d, subst (λ j. IsCount P j d) s h, inr (subst (λ j. P j → ⊥) s p, refl))

nothing_counted : (P : ℕ → Type 0) (m c : ℕ) → m ≡ 0 → IsCount P m c → c ≡ 0
nothing_counted P m c e none = refl
nothing_counted P m c e (one_more {n = i} {c = d} h p) = absurd (omega (arith, e))
nothing_counted P m c e (no_more {n = i} {c = d} h p) = absurd (omega (arith, e))

abbrev AreCounted : (ℕ → ℕ → Type 0) → ℕ → List ℕ → Type 0
AreCounted P n cs = (k : ℕ) → k < length cs → IsCount (P k) n (get_or cs k 0)

-- k is the only property of i
abbrev IsOnly : (ℕ → ℕ → Type 0) → List ℕ → ℕ → ℕ → Type 0
IsOnly P cs i k = (k < length cs) × P k i × ((j : ℕ) → j < length cs → P j i → j ≡ k)

with_first : (c : ℕ) (cs : List ℕ) → sum (c ∷ cs) ≡ c + sum cs
with_first c cs = sum_by-cons (λ x. x) c cs

none_has_last : (P : ℕ → ℕ → Type 0) (n : ℕ) (cs : List ℕ) → AreCounted P (suc n) cs → ((k : ℕ) → k < length cs → P k n → ⊥) → AreCounted P n cs
none_has_last P n cs h not k l =
    let r = without_last (P k) (suc n) n (get_or cs k 0) refl (h k l) in
    ⊎_elim (λ p. absurd (not k l p.0)) (λ p. subst (IsCount (P k) n) (sym p.1) r.1) r.2

first_and_others : (P : ℕ → ℕ → Type 0) (n c : ℕ) (cs : List ℕ) → IsCount (P 0) n c → AreCounted (λ k. P (suc k)) n cs → AreCounted P n (c ∷ cs)
first_and_others P n c cs h t zero l = h
first_and_others P n c cs h t (suc k) l = t k (omega (arith, l))

more_first : (c d : ℕ) (cs : List ℕ) → c ≡ suc d → sum (c ∷ cs) ≡ suc (sum (d ∷ cs))
more_first c d cs e = omega (arith, e, with_first c cs, with_first d cs)

more_later : (c d : ℕ) (cs ds : List ℕ) → c ≡ d → sum cs ≡ suc (sum ds) → sum (c ∷ cs) ≡ suc (sum (d ∷ ds))
more_later c d cs ds e f = omega (arith, e, f, with_first c cs, with_first d ds)

one_has_last : (P : ℕ → ℕ → Type 0) (n k : ℕ) (cs : List ℕ) → AreCounted P (suc n) cs → IsOnly P cs n k → (ds : List ℕ) × (length ds ≡ length cs) × AreCounted P n ds × (sum cs ≡ suc (sum ds))
one_has_last P n k [] h o = absurd (omega (arith, o.0))
one_has_last P n zero (c ∷ cs) h o =
    let r = without_last (P 0) (suc n) n c refl (h 0 (omega arith)) in
    let others = none_has_last (λ k. P (suc k)) n cs (λ k l. h (suc k) (omega (arith, l))) (λ k l p. let e = o.2 (suc k) (omega (arith, l)) p in omega (arith, e)) in
    ⊎_elim (λ p. (r.0 ∷ cs, refl, first_and_others P n r.0 cs r.1 others, more_first c r.0 cs p.1)) (λ p. absurd (p.0 o.1)) r.2
one_has_last P n (suc k) (c ∷ cs) h o =
    let r = without_last (P 0) (suc n) n c refl (h 0 (omega arith)) in
    let t = one_has_last (λ k. P (suc k)) n k cs (λ k l. h (suc k) (omega (arith, l))) (omega (arith, o.0), o.1, λ j l p. let e = o.2 (suc j) (omega (arith, l)) p in omega (arith, e)) in
    ⊎_elim (λ p. let e = o.2 0 (omega arith) p.0 in absurd (omega (arith, e))) (λ p. (r.0 ∷ t.0, ap suc t.1, first_and_others P n r.0 t.0 r.1 t.2, more_later c r.0 cs t.0 p.1 t.3)) r.2

all_zero : (cs : List ℕ) → ((k : ℕ) → k < length cs → get_or cs k 0 ≡ 0) → sum cs ≡ 0
all_zero [] h = refl
all_zero (c ∷ cs) h = with_first c cs ∙ ap₂ (λ a b. a + b) (h 0 (omega arith)) (all_zero cs (λ k l. h (suc k) (omega (arith, l))))

sum_of_counts : (P : ℕ → ℕ → Type 0) (n : ℕ) (cs : List ℕ) → AreCounted P n cs → ((i : ℕ) → (k : ℕ) × IsOnly P cs i k) → sum cs ≡ n
sum_of_counts P zero cs h one = all_zero cs (λ k l. nothing_counted (P k) 0 (get_or cs k 0) refl (h k l))
sum_of_counts P (suc n) cs h one =
    let k = one n in
    let t = one_has_last P n k.0 cs h k.1 in
    let few : (j : ℕ) → j < length t.0 → j < length cs = λ j l. subst (λ m. j < m) t.1 l in
    let more : (j : ℕ) → j < length cs → j < length t.0 = λ j l. subst (λ m. j < m) (sym t.1) l in
    t.3 ∙ ap suc (sum_of_counts P n t.0 t.2 (λ i. let o = one i in (o.0, (more o.0 o.1.0, o.1.1, λ j l p. o.1.2 j (few j l) p))))

-- ---- the points that fit each row of a table

made_is_point : (seed i : ℕ) → IsPoint (made_point seed i)
made_is_point seed i = omega (arith, ints)

abbrev row_at : List Row → ℕ → Row
row_at rows k = get_or rows k no_row

is_at : (rows : List Row) (k : ℕ) → k < length rows → IsAt rows k (row_at rows k)
is_at rows k l = record { within = l; is = λ d. get_or_default rows k d no_row l }

pub counts_of_table : (members : List Operator) (rows : List Row) (seed n : ℕ) (counts : List ℕ) → IsTable UNIT members rows → AreCounts members rows seed n counts → sum counts ≡ n
counts_of_table members rows seed n counts table h = sum_of_counts P n counts (λ k l. h.each k (row_at rows k) (is_at rows k (here k l))) one
  where
    P : ℕ → ℕ → Type 0
    P k i = Fits UNIT members (row_at rows k) (made_point seed i)

    here : (k : ℕ) → k < length counts → k < length rows
    here k l = subst (λ m. k < m) h.all l

    one : (i : ℕ) → (k : ℕ) × IsOnly P counts i k
    one i =
        let x = made_point seed i in
        let p = made_is_point seed i in
        let f = table.every x p in
        let l : f.0 < length counts = subst (λ m. f.0 < m) (sym h.all) f.2.within in
        (f.0, (l, subst (λ r. Fits UNIT members r x) (sym (f.2.is no_row)) f.3, λ j m q. table.one x j f.0 (row_at rows j) f.1 p (is_at rows j (here j m)) f.2 q f.3))
