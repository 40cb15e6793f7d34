-- The order of rows.
use Rattle.std.proofs.Common.{◌≡◌, ◌⊎◌, ℤ, ◌<ℤ◌, pos, List, [], ◌∷◌, length, cond, get_or, ap, sym, ◌∙◌, subst, refl, arith, inl, inr, Ordering, Less, Equal, Greater}
use Rattle.std.specs.Cmp.{IsTotalOrder}
use Rattle.std.specs.Cmp.Lexicographic.{slice_cmp}
use Rattle.std.specs.FinMap.{int_cmp-IsAntisymmetric, slice_cmp-IsAntisymmetric}
use Rattle.std.specs.Ordering.{int_cmp, ordering_reverse, ordering_then, is_lt, ord_max, MatchOrdering}
use Rattle.std.proofs.lemmas.Cmp.{lists_total, on_total, int_cmp_total, int_ranked, tied_itself}
use Rattle.std.proofs.lemmas.Int.{ints}
use Rattle.phase_rules.specs.Rows.{Row, row_of}
use Rattle.refl_merge.specs.Keys.{numbers_of, row_cmp, IsAbove}

pub row_cmp_total : IsTotalOrder row_cmp
row_cmp_total = on_total numbers_of (lists_total int_cmp_total)

pub list_ties : (a b : List ℤ) → slice_cmp int_cmp a b ≡ Equal → a ≡ b
list_ties a b e = slice_cmp-IsAntisymmetric int_cmp-IsAntisymmetric a b e

pub row_ties : (a b : Row) → row_cmp a b ≡ Equal → a ≡ b
row_ties a b e = ap row_of (list_ties (numbers_of a) (numbers_of b) e)

pub above_on : (a b c : Row) → IsAbove a b → IsAbove b c → IsAbove a c
above_on a b c p q = row_cmp_total.trans c b a q p

pub above_by_first : (a b : Row) → b.h <ℤ a.h → IsAbove a b
above_by_first a b l = by (int_cmp b.h a.h) (int_ranked b.h a.h _ refl)
  where
    by : (o : Ordering) → MatchOrdering o (b.h <ℤ a.h) (b.h ≡ a.h) (a.h <ℤ b.h) → ordering_then o (ordering_then (int_cmp b.k a.k) (ordering_then (int_cmp b.l a.l) Equal)) ≡ Less
    by Less m = refl
    by Equal m = absurd (omega (arith, ints, l, m))
    by Greater m = absurd (omega (arith, ints, l, m))

pub not_above_itself : (a b : Row) → a ≡ b → IsAbove a b → ⊥
not_above_itself a b e p =
    let q : Less ≡ Equal = sym p ∙ ap (row_cmp b) e ∙ tied_itself row_cmp_total b in
    cc

pub not_both_above : (a b : Row) → IsAbove a b → IsAbove b a → ⊥
not_both_above a b p q = not_above_itself a a refl (above_on a b a p q)

pub which_above : (a b : Row) → IsAbove a b ⊎ ((a ≡ b) ⊎ IsAbove b a)
which_above a b = by (row_cmp a b) refl
  where
    by : (o : Ordering) → row_cmp a b ≡ o → IsAbove a b ⊎ ((a ≡ b) ⊎ IsAbove b a)
    by Less e = inr (inr e)
    by Equal e = inr (inl (row_ties a b e))
    by Greater e = inl (row_cmp_total.antisymm b a ∙ ap ordering_reverse e)

-- a list of three numbers is that of its row
pub three_numbers : (l : List ℤ) → length l ≡ 3 → numbers_of (row_of l) ≡ l
three_numbers [] e = absurd (omega arith)
three_numbers (a ∷ []) e = absurd (omega arith)
three_numbers (a ∷ b ∷ []) e = absurd (omega arith)
three_numbers (a ∷ b ∷ c ∷ []) e = refl
three_numbers (a ∷ b ∷ c ∷ d ∷ rest) e = absurd (omega arith)

-- the greater of two lists
pub record IsGreater (a b r : List ℤ) : Type 0 where
  pub one : (r ≡ a) ⊎ (r ≡ b)
  pub not_first : slice_cmp int_cmp r a ≡ Less → ⊥
  pub not_second : slice_cmp int_cmp r b ≡ Less → ⊥

pub max_is : (a b r : List ℤ) → r ≡ ord_max (slice_cmp int_cmp) a b → IsGreater a b r
max_is a b r e = subst (IsGreater a b) (sym e) (by (slice_cmp int_cmp b a) refl)
  where
    total : IsTotalOrder (slice_cmp int_cmp)
    total = lists_total int_cmp_total

    itself : (x : List ℤ) → slice_cmp int_cmp x x ≡ Less → ⊥
    itself x p = let q : Less ≡ Equal = sym p ∙ tied_itself total x in cc

    by : (o : Ordering) → slice_cmp int_cmp b a ≡ o → IsGreater a b (cond (is_lt o) a b)
    by Less p = record { one = inl refl; not_first = itself a; not_second = λ q. let s : Less ≡ Greater = sym q ∙ total.antisymm a b ∙ ap ordering_reverse p in cc }
    by Equal p = record { one = inr refl; not_first = λ q. let s : Less ≡ Equal = sym q ∙ p in cc; not_second = itself b }
    by Greater p = record { one = inr refl; not_first = λ q. let s : Less ≡ Greater = sym q ∙ p in cc; not_second = itself b }

-- where the first two numbers are the same, the third decides
pub third_decides : (a b : List ℤ) → length a ≡ 3 → length b ≡ 3 → get_or a 0 (pos 0) ≡ get_or b 0 (pos 0) → get_or a 1 (pos 0) ≡ get_or b 1 (pos 0) → slice_cmp int_cmp a b ≡ int_cmp (get_or a 2 (pos 0)) (get_or b 2 (pos 0))
third_decides a b la lb p q =
    let r = row_of a in
    let s = row_of b in
    let first : int_cmp r.h s.h ≡ Equal = ap (int_cmp r.h) (sym p) ∙ tied_itself int_cmp_total r.h in
    let second : int_cmp r.k s.k ≡ Equal = ap (int_cmp r.k) (sym q) ∙ tied_itself int_cmp_total r.k in
    ap (λ v. slice_cmp int_cmp v b) (sym (three_numbers a la))
    ∙ ap (slice_cmp int_cmp (numbers_of r)) (sym (three_numbers b lb))
    ∙ ap (λ o. ordering_then o (ordering_then (int_cmp r.k s.k) (ordering_then (int_cmp r.l s.l) Equal))) first
    ∙ ap (λ o. ordering_then o (ordering_then (int_cmp r.l s.l) Equal)) second
    ∙ then_equal (int_cmp r.l s.l)
  where
    then_equal : (o : Ordering) → ordering_then o Equal ≡ o
    then_equal Less = refl
    then_equal Equal = refl
    then_equal Greater = refl
