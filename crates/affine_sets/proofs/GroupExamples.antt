-- The definitions on examples: finite groups of elements of P1, and what elements generate; only examples cite these.
use Rattle.std.proofs.Common.{◌≡◌, ◌<◌, ℕ, ℤ, pos, negsuc, ◌+ℤ◌, ◌*ℤ◌, List, [], ◌∷◌, length, inl, inr, ⊎_elim, All, Contains, ap, sym, ◌∙◌, subst, refl, arith}
use Rattle.std.specs.List.{fold}
use Rattle.std.proofs.lemmas.Int.{ints}
use Rattle.std.proofs.lemmas.Option.{slice_get_within}
use Rattle.std.proofs.lemmas.List.Elements.{All-nil, All-push, All-head, All-from_recursion}
use Rattle.finite_groups.proofs.Members as lists
use Rattle.lattice_algebra.specs.Matrix.{Matrix, Column, identity, origin, no_matrix, det, adjugate, scaled, times, neg_column, ◌·◌, ◌·ᶜ◌, ◌+ᶜ◌, ◌+ᵐ◌}
use Rattle.lattice_algebra.specs.Operator.{Operator, identity_operator, modulo, AreWithin}
use Rattle.lattice_algebra.specs.Map.{Map, ◌∘◌, identity_map, undo, operator_of, IsShift}
use Rattle.lattice_algebra.proofs.Examples.{inversion}
use Rattle.exact_ops.specs.declared.TheConstants.{UNIT}
use Rattle.exact_ops.proofs.Narrow.{some_parts}
use Rattle.space_groups.specs.Space.{IsElement, ScaledPoint, moved}
use Rattle.space_groups.specs.Averages.{Block, no_block, block_of, block_plus, block_times, block_scaled, sum_of}
use Rattle.space_groups.proofs.OneOperator as smallest
use Rattle.affine_sets.specs.declared.TheConstants.{MAX_GROWN_SHIFT}
use Rattle.affine_sets.specs.Subs.{IsSubList, AreElements, AreShiftsWithin, conjugate_by, IsShifted, IsNearShift}
use Rattle.affine_sets.specs.Averages.{IsSpecialBlock, IsSum}
use Rattle.affine_sets.specs.Conditions.{IsAverage, IsSumOfGroup, LeavesAlone, IsNearAverage, IsOfFullGroup, HaveConjugateImages}
use Rattle.affine_sets.specs.Growth.{IsLetter, IsProduct, IsGeneratedBy}
use Rattle.affine_sets.proofs.Groups.{trivial_list, trivial_shifts, shifts_wider}
use Rattle.affine_sets.proofs.Sums.{number_of_sum}
use Rattle.affine_sets.proofs.Examples.{column, middle, none}

abbrev pub o : ℤ
o = pos 0

abbrev pub one : List Operator
one = identity_operator ∷ []

in_one : (f : Operator) → Contains one f → identity_operator ≡ f
in_one f c = ⊎_elim (λ e. e) (λ n. lists.not_in_nil f n) (lists.Contains-cases f identity_operator [] c)

abbrev trivial : List Map
trivial = identity_map ∷ []

-- x + n / 24, and the inversion at n / 48
abbrev pub shift : ℤ → Map
shift n = record { w = identity; s = column n }

abbrev inverted : ℤ → Map
inverted n = record { w = inversion; s = column n }

abbrev half : ScaledPoint
half = record { n = column (pos 12); d = 1; some = omega arith }

abbrev zero_point : ScaledPoint
zero_point = record { n = origin; d = 1; some = omega arith }

-- ---- finite groups

sub_list : IsSubList trivial
sub_list = trivial_list

no_sub_list : IsSubList [] → ⊥
no_sub_list s = let l = slice_get_within [] 0 identity_map s.first in omega (arith, l)

are_elements : AreElements one trivial
unfolding operator_of modulo
are_elements = All-from_recursion (IsElement UNIT one) trivial ((0, omega arith, refl), tt)

-- x+1/2,y,z is no element of P1
no_elements : AreElements one (shift (pos 12) ∷ []) → ⊥
unfolding operator_of modulo
no_elements a = by (in_one _ (All-head (IsElement UNIT one) (shift (pos 12)) [] a))
  where
    by : identity_operator ≡ record { w = identity; t = column (pos 12) } → ⊥
    by e = let x : o ≡ pos 12 = ap (λ (f : Operator). f.t.x) e in omega (arith, ints, x)

shifts_within : (size : ℕ) → AreShiftsWithin size trivial
shifts_within size = shifts_wider 0 size trivial (omega arith) trivial_shifts

-- two cells along x are more than one
not_within : AreShiftsWithin 1 (shift (pos 48) ∷ []) → ⊥
unfolding modulo ◌+ᶜ◌ times
not_within a = let w = All-head (λ (e : Map). (k : Column) → IsShift UNIT e k → AreWithin 1 k.x k.y k.z) (shift (pos 48)) [] a (column (pos 2)) refl in omega (arith, w.first)

-- ---- near the origin

-- one cell on, the inversion at 0,0,0 is that at 1,0,0
one_cell_on : conjugate_by (shift (pos 24)) (inverted o) ≡ inverted (pos 48)
unfolding undo ◌∘◌ ◌·◌ ◌·ᶜ◌ ◌+ᶜ◌ det adjugate scaled neg_column
one_cell_on = refl

-- the group of the inversion at 3/2,0,0 becomes that of 1/2,0,0
is_shifted : IsShifted (middle (pos 72)) (identity_map ∷ inverted (pos 72) ∷ []) (identity_map ∷ inverted (pos 24) ∷ [])
unfolding undo ◌∘◌ ◌·◌ ◌·ᶜ◌ ◌+ᶜ◌ det adjugate scaled neg_column times
is_shifted = refl

not_shifted : IsShifted (middle (pos 72)) (inverted (pos 72) ∷ []) (inverted (pos 72) ∷ []) → ⊥
unfolding undo ◌∘◌ ◌·◌ ◌·ᶜ◌ ◌+ᶜ◌ det adjugate scaled neg_column times
not_shifted e = let x : pos 72 ≡ pos 24 = ap (λ (l : List Map). first_shift l) e in omega (arith, ints, x)
  where
    first_shift : List Map → ℤ
    first_shift [] = o
    first_shift (g ∷ gs) = g.s.x

near_shift : IsNearShift inversion (column (pos 3)) (column (pos 1))
unfolding ◌·ᶜ◌ ◌+ᶜ◌ neg_column
near_shift = record { within = record { first = omega arith; second = omega arith; third = omega arith } }

no_near_shift : IsNearShift inversion (column (pos 103)) (column (pos 1)) → ⊥
unfolding ◌·ᶜ◌ ◌+ᶜ◌ neg_column
no_near_shift n = omega (arith, n.within.first)

-- ---- averages of them

abbrev pub whole : ℤ → Block
whole n = record { m = identity; t = origin; n = n }

pub average : IsAverage one (whole (pos 1))
average = record { group = trivial; is_group = smallest.alone_sub UNIT some_parts; mean = smallest.alone_mean; shifts = shifts_within MAX_GROWN_SHIFT }

-- over one member none stands over 2
pub not_over_two : (k : ℕ) (s : ℤ) → 0 < k → pos k *ℤ pos 2 ≡ pos 1 *ℤ s → s ≡ pos k → ⊥
not_over_two k s l e n = omega (arith, ints, l, e, n)

no_average : IsAverage one (whole (pos 2)) → ⊥
unfolding block_scaled
no_average a = not_over_two (length a.group) (sum_of a.group).n (let c = a.is_group.identity in omega (arith, c.1)) (ap (λ (b : Block). b.n) a.mean) (number_of_sum a.group)

full_group : IsOfFullGroup one (whole (pos 1))
full_group = record { group = trivial; is_group = smallest.alone_sub UNIT some_parts; full = smallest.alone_full UNIT some_parts; mean = smallest.alone_mean }

no_full_group : IsOfFullGroup one (whole (pos 2)) → ⊥
unfolding block_scaled
no_full_group a = not_over_two (length a.group) (sum_of a.group).n (let c = a.is_group.identity in omega (arith, c.1)) (ap (λ (b : Block). b.n) a.mean) (number_of_sum a.group)

sum_of_group : IsSumOfGroup one (whole (pos 1))
unfolding block_plus block_of ◌+ᵐ◌ ◌+ᶜ◌
sum_of_group = record { group = trivial; is_group = smallest.alone_sub UNIT some_parts; sum = refl }

no_sum : IsSumOfGroup one no_block → ⊥
no_sum a = by (length a.group) (sum_of a.group).n (let c = a.is_group.identity in omega (arith, c.1)) (ap (λ (b : Block). b.n) a.sum) (number_of_sum a.group)
  where
    by : (k : ℕ) (s : ℤ) → 0 < k → s ≡ o → s ≡ pos k → ⊥
    by k s l e n = omega (arith, ints, l, e, n)

-- the identity leaves it alone, and a cell along x does not
left_alone : LeavesAlone (whole (pos 1)) identity_map
unfolding block_times block_of times ◌·◌ ◌·ᶜ◌ ◌+ᶜ◌
left_alone = refl

not_left_alone : LeavesAlone (whole (pos 1)) (shift (pos 24)) → ⊥
unfolding block_times block_of times ◌·◌ ◌·ᶜ◌ ◌+ᶜ◌
not_left_alone e = let x : pos 24 ≡ o = ap (λ (b : Block). b.t.x) e in omega (arith, ints, x)

near_average : IsNearAverage (middle (pos 24))
near_average = record { over = 2; number = refl; some = omega arith; within = omega arith; translation = record { first = omega arith; second = omega arith; third = omega arith } }

over_none : IsNearAverage (whole o) → ⊥
over_none a = let n = a.number in let s = a.some in omega (arith, ints, n, s)

-- all of space lies over itself, and not over the origin alone
same_image : HaveConjugateImages one (whole (pos 1)) (whole (pos 1))
unfolding operator_of modulo
same_image = (identity_map, (0, omega arith, refl), λ y. ((λ i. smallest.in_whole UNIT some_parts (moved identity_map y)), (λ i. smallest.in_whole UNIT some_parts y)))

abbrev at_origin : Block
at_origin = record { m = no_matrix; t = origin; n = pos 1 }

other_image : HaveConjugateImages one (whole (pos 1)) at_origin → ⊥
unfolding operator_of moved times ◌·ᶜ◌ ◌+ᶜ◌
other_image h =
    let g = h.0 in
    let w : identity ≡ g.w = ap (λ (f : Operator). f.w) (in_one (operator_of UNIT g) h.1) in
    let a = (h.2 half).0 (smallest.in_whole UNIT some_parts half) in
    let b = (h.2 zero_point).0 (smallest.in_whole UNIT some_parts zero_point) in
    by g.w.xx g.w.xy g.w.xz g.s.x (g.w ·ᶜ column (pos 12) +ᶜ times (pos 1) g.s) (g.w ·ᶜ origin +ᶜ times (pos 1) g.s) (ap (λ (m : Matrix). m.xx) w) (ap (λ (c : Column). c.x) a) (ap (λ (c : Column). c.x) b)
  where
    by : (a b c x : ℤ) (u v : Column) → pos 1 ≡ a → o *ℤ u.x +ℤ o *ℤ u.y +ℤ o *ℤ u.z +ℤ pos 1 *ℤ o ≡ pos 1 *ℤ (a *ℤ pos 12 +ℤ b *ℤ o +ℤ c *ℤ o +ℤ pos 1 *ℤ x)
        → o *ℤ v.x +ℤ o *ℤ v.y +ℤ o *ℤ v.z +ℤ pos 1 *ℤ o ≡ pos 1 *ℤ (a *ℤ o +ℤ b *ℤ o +ℤ c *ℤ o +ℤ pos 1 *ℤ x) → ⊥
    by a b c x u v p q r = omega (arith, ints, p, q, r)

-- a block over nothing is none that is kept, and one over two is no sum of one map
not_special : IsSpecialBlock (whole o) → ⊥
not_special s = let n = s.number in let l = s.some in omega (arith, ints, n, l)

is_sum : IsSum (record { m = no_matrix; t = column (pos 24); n = pos 2 })
is_sum = record { count = 2; number = refl; within = omega arith; matrix = record { x = none 4; y = none 4; z = none 4 }; translation = record { first = omega arith; second = omega arith; third = omega arith } }

no_sum_of_fewer : IsSum (whole (negsuc 0)) → ⊥
no_sum_of_fewer s = let n = s.number in omega (arith, ints, n)

-- ---- what elements generate

abbrev alone : List Map
alone = inverted o ∷ []

turned_apart : {A : Type 0} → inversion ≡ identity → A
turned_apart e = absurd (let x : negsuc 0 ≡ pos 1 = ap (λ (m : Matrix). m.xx) e in omega (arith, ints, x))

letter : IsLetter alone (inverted o)
letter = inl (0, omega arith, refl)

no_letter : IsLetter alone identity_map → ⊥
unfolding ◌∘◌ ◌·◌
no_letter (inl c) = ⊎_elim (λ e. turned_apart (ap (λ (g : Map). g.w) e)) (λ n. lists.not_in_nil identity_map n) (lists.Contains-cases identity_map (inverted o) [] c)
no_letter (inr r) = ⊎_elim (λ e. turned_apart (ap (λ (g : Map). identity · g.w) e ∙ ap (λ (g : Map). g.w) r.2.left)) (λ n. lists.not_in_nil r.0 n) (lists.Contains-cases r.0 (inverted o) [] r.1)

-- the inversion twice is the identity, and nothing generates the identity alone
twice : IsProduct alone identity_map
unfolding ◌∘◌ ◌·◌ ◌·ᶜ◌ ◌+ᶜ◌
twice = (inverted o ∷ inverted o ∷ [], All-push (IsLetter alone) (inverted o ∷ []) (inverted o) (All-push (IsLetter alone) [] (inverted o) (All-nil _) letter) letter, refl)

pub by_none : (e : Map) → IsProduct [] e → identity_map ≡ e
by_none e p = by p.0 p.1 p.2
  where
    by : (word : List Map) → All (IsLetter []) word → fold ◌∘◌ identity_map word ≡ e → identity_map ≡ e
    by [] a q = q
    by (x ∷ word) a q = ⊎_elim (λ c. lists.not_in_nil x c) (λ r. lists.not_in_nil r.0 r.1) (All-head (IsLetter []) x word a)

no_product : IsProduct [] (inverted o) → ⊥
no_product p = turned_apart (sym (ap (λ (g : Map). g.w) (by_none (inverted o) p)))

generated : IsGeneratedBy [] trivial
generated e = ((λ c. ([], All-nil _, smallest.in_alone e c)), (λ p. subst (Contains trivial) (by_none e p) (0, omega arith, refl)))

not_generated : IsGeneratedBy [] [] → ⊥
not_generated g = lists.not_in_nil identity_map ((g identity_map).1 ([], All-nil _, refl))
