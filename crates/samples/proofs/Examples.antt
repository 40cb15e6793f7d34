-- Worked examples: the definitions on literals; nothing cites these.
use Rattle.std.proofs.Common.{◌≡◌, ◌%◌, ℕ, zero, suc, pos, List, [], ◌∷◌, get_or, ⊎_elim, Contains, All, sym, subst, refl, arith}
use Rattle.std.specs.List.Sorted.{IsStrictlySortedBy}
use Rattle.std.proofs.lemmas.Int.{ints}
use Rattle.std.proofs.lemmas.List.Elements.{All-nil, All-head}
use Rattle.std.proofs.lemmas.Option.{slice_get_within}
use Rattle.finite_groups.proofs.Members as lists
use Rattle.lattice_algebra.specs.Matrix.{identity, origin}
use Rattle.lattice_algebra.specs.Operator.{Operator, identity_operator, modulo}
use Rattle.lattice_algebra.specs.Point.{Point, IsPoint}
use Rattle.lattice_algebra.proofs.Examples.{point}
use Rattle.exact_ops.specs.declared.TheConstants.{UNIT}
use Rattle.exact_ops.proofs.Narrow.{some_parts}
use Rattle.group_closure.specs.Words.{IsLetter, value, Span}
use Rattle.group_closure.specs.GroupList.{IsGroupList}
use Rattle.space_groups.specs.Keys.{key_of}
use Rattle.space_groups.specs.Rows.{Row, IsAt, Fits, IsTable}
use Rattle.space_groups.proofs.OneOperator as smallest
use Rattle.group_closure.proofs.Examples.{group_of_one}
use Rattle.wyckoff_rows.proofs.Finishing.{table_of_rows}
use Rattle.triplet_text.specs.Lines.{skipped, blank, end}
use Rattle.samples.specs.Points.{next, drawn, made_point}
use Rattle.samples.specs.Groups.{number_of, IsSampleGroup}
use Rattle.samples.specs.Counts.{IsCount, none, one_more, no_more, AreCounts}

-- ---- points: the seed 0 draws 2 first, and the first point of the seed 5 is 9/12,1/12,6/12

first_state : next 0 ≡ 1013904223
unfolding next
first_state = refl

first_drawn : drawn (next 0) ≡ 2
unfolding next drawn
first_drawn = refl

first_point : made_point 5 0 ≡ point (pos 9) (pos 1) (pos 6) (pos 12)
unfolding next drawn
first_point = refl

-- ---- groups: the seed 5 asks for the sixth, and the first is P1

sixth : number_of 5 ≡ 6
sixth = refl

abbrev one : List Operator
one = identity_operator ∷ []

spans : (f : Operator) → Span [] f → identity_operator ≡ f
spans f s = by s.0 s.1 s.2
  where
    by : (word : List Operator) → All (IsLetter []) word → value word ≡ f → identity_operator ≡ f
    by [] a e = e
    by (x ∷ word) a e = ⊎_elim (λ c. lists.not_in_nil x c) (λ r. lists.not_in_nil r.0 r.1) (All-head (IsLetter []) x word a)

generated_by_none : IsGroupList [] one
unfolding IsStrictlySortedBy
generated_by_none = record {
  first = refl;
  span = λ f. ((λ c. ⊎_elim (λ e. ([], All-nil _, e)) (λ n. lists.not_in_nil f n) (lists.Contains-cases f identity_operator [] c)), (λ s. subst (Contains one) (spans f s) (0, omega arith, refl)));
  distinct = λ i j d l m. absurd (omega arith);
  sorted = tt;
}

first_group : IsSampleGroup 1 one
first_group = record { list = []; read = skipped (blank tt) end; group = generated_by_none }

no_group : IsSampleGroup 1 [] → ⊥
no_group g = let l = slice_get_within [] 0 identity_operator g.group.first in omega (arith, l)

-- ---- counts: two of 0, 1 and 2 are even

abbrev IsEven : ℕ → Type 0
IsEven n = n % 2 ≡ 0

two_even : IsCount IsEven 3 2
two_even = one_more (no_more (one_more none refl) (λ e. omega (arith, e))) refl

zero_is_even : IsCount IsEven 1 0 → ⊥
zero_is_even (no_more c n) = n refl

-- each made point fits the row of P1
abbrev general : Row
general = record { mult = 1; key = record { m = identity; t = origin } }

table : IsTable UNIT one (general ∷ [])
unfolding key_of modulo
table = table_of_rows one group_of_one (general ∷ []) (smallest.row_list_of_shifts UNIT some_parts)

at_place : (k : ℕ) (row : Row) → IsAt (general ∷ []) k row → general ≡ row
at_place zero row a = a.is general
at_place (suc k) row a = absurd (let l = a.within in omega (arith, l))

fits : (x : Point) → IsPoint x → Fits UNIT one general x
fits x p = let r = table.every x p in subst (λ v. Fits UNIT one v x) (sym (at_place r.0 r.1 r.2)) r.3

two_of_two : AreCounts one (general ∷ []) 5 2 (2 ∷ [])
two_of_two = record { all = refl; each = at }
  where
    both_fit : IsCount (λ i. Fits UNIT one general (made_point 5 i)) 2 2
    both_fit = one_more (one_more none (fits _ (omega (arith, ints)))) (fits _ (omega (arith, ints)))

    at : (k : ℕ) (row : Row) → IsAt (general ∷ []) k row → IsCount (λ i. Fits UNIT one row (made_point 5 i)) 2 (get_or (2 ∷ []) k 0)
    at zero row a = subst (λ v. IsCount (λ i. Fits UNIT one v (made_point 5 i)) 2 2) (at_place zero row a) both_fit
    at (suc k) row a = absurd (let l = a.within in omega (arith, l))

no_counts : AreCounts one (general ∷ []) 5 2 [] → ⊥
no_counts c = omega (arith, c.all)
