-- The definitions on examples: what single steps keep while a group grows and while a key is looked for; nothing cites these.
use Rattle.std.proofs.Common.{◌≡◌, ◌<◌, ◌*◌, ◌/◌, ◌%◌, ℕ, zero, suc, ℤ, pos, negsuc, ◌+ℤ◌, ◌*ℤ◌, Option, None, Some, Bool, true, false, List, [], ◌∷◌, length, inl, inr, ⊎_elim, Contains, ap, sym, ◌∙◌, subst, refl, arith}
use Rattle.std.proofs.lemmas.Bool.{false≢true}
use Rattle.std.proofs.lemmas.Int.{ints}
use Rattle.std.proofs.lemmas.Option.{slice_get_within, same_Some}
use Rattle.std.proofs.lemmas.List.Elements.{All-nil, All-push, All-from_recursion}
use Rattle.finite_groups.proofs.Members as lists
use Rattle.lattice_algebra.specs.Matrix.{Matrix, Column, matrix_of, entries, coordinates, no_matrix, identity, origin, det, adjugate, scaled, times, neg_column, ◌·◌, ◌·ᶜ◌, ◌+ᶜ◌}
use Rattle.lattice_algebra.specs.Operator.{Operator, identity_operator, modulo, AreWithin}
use Rattle.lattice_algebra.specs.Map.{Map, ◌∘◌, identity_map, undo}
use Rattle.lattice_algebra.proofs.Ring.{con}
use Rattle.lattice_algebra.proofs.MatrixRing.{column_at, ◌·ˢᶜ◌, ◌+ˢᶜ◌, sym_times, sym_identity, sym_origin, column_ring}
use Rattle.lattice_algebra.proofs.Examples.{inverting, both}
use Rattle.space_groups.specs.Averages.{Block, sum_of, block_scaled, block_of, block_times}
use Rattle.space_groups.specs.Regions as Regions
use Rattle.space_groups.specs.Keys.{carried, key_of, IsBelow}
use Rattle.space_groups.proofs.Ordered.{not_below_itself, not_before_itself}
use Rattle.affine_sets.specs.declared.numbers.Offset.{Offset}
use Rattle.affine_sets.specs.declared.growth.Placed.{Placed}
use Rattle.affine_sets.specs.declared.keys.Sizes.{Sizes}
use Rattle.affine_sets.specs.Averages.{KeyOver}
use Rattle.affine_sets.specs.Growth.{placed_map, Holds, Puts, HoldsMap, AreHeld, IsApart, AreOld, IsInBlock, Extends, IsLetter, AreProducts, IsTorn, no_shift}
use Rattle.affine_sets.specs.Conjugates.{turned_matrix, carried_key, moved_key, IsLeftOf, IsGreatestBefore, Heads, AreSizes, AreWholeFor, AreEnoughFor, IsMultiple, IsSameOrOpposite, IsCandidate, IsNoLater, AreNotBefore}
use Rattle.affine_sets.proofs.Sums.{number_of_sum}
use Rattle.affine_sets.proofs.Examples.{column}
use Rattle.affine_sets.proofs.GroupExamples.{o, one, shift, whole, average, not_over_two, by_none}

whole_shift : (k : Column) → identity ·ᶜ k ≡ identity ·ᶜ origin +ᶜ times (pos 1) (identity ·ᶜ k)
unfolding ◌·ᶜ◌ ◌+ᶜ◌ times
whole_shift k = column_ring (coordinates k) (sym_identity ·ˢᶜ column_at 0) (sym_identity ·ˢᶜ sym_origin +ˢᶜ sym_times (con (pos 1)) (sym_identity ·ˢᶜ column_at 0)) tt

-- ---- what is held of P1: the identity, or nothing

abbrev first : Placed
first = record { place = 0; shift = no_shift }

abbrev held : List (Option Offset)
held = Some no_shift ∷ []

abbrev none_held : List (Option Offset)
none_held = None ∷ []

is_some : Option Offset → Bool
is_some None = false
is_some (Some k) = true

holds : Holds held 0 no_shift
holds = refl

nothing_held : (p : ℕ) (k : Offset) → Holds none_held p k → ⊥
unfolding is_some
nothing_held zero k h = false≢true (ap is_some h)
nothing_held (suc p) k h = false≢true (ap is_some h)

held_alone : (p : ℕ) (k : Offset) → Holds held p k → (p ≡ 0) × (k ≡ no_shift)
unfolding is_some
held_alone zero k h = (refl, sym (same_Some no_shift k h))
held_alone (suc p) k h = absurd (false≢true (ap is_some h))

back_to : (p : ℕ) (k : Offset) → (p ≡ 0) × (k ≡ no_shift) → Holds held p k
back_to p k r = subst (λ q. Holds held q k) (sym r.0) (subst (Holds held 0) (sym r.1) holds)

puts : Puts none_held held first
puts p k = ((λ h. inr (held_alone p k h)), (λ h. ⊎_elim (λ n. absurd (nothing_held p k n)) (λ r. back_to p k r) h))

puts_nothing : Puts none_held none_held first → ⊥
puts_nothing h = nothing_held 0 no_shift ((h 0 no_shift).1 (inr (refl, refl)))

holds_identity : HoldsMap one held identity_map
unfolding ◌+ᶜ◌ times
holds_identity = (first, omega arith, refl, refl)

holds_none : HoldsMap one none_held identity_map → ⊥
holds_none h = nothing_held h.0.place h.0.shift h.2

are_held : AreHeld (first ∷ []) held
are_held p k = (
  (λ h. let r = held_alone p k h in subst (λ q. Contains (first ∷ []) (record { place = q; shift = k })) (sym r.0) (subst (λ j. Contains (first ∷ []) (record { place = 0; shift = j })) (sym r.1) (0, omega arith, refl))),
  (λ c. ⊎_elim (λ e. back_to p k (sym (ap (λ (x : Placed). x.place) e), sym (ap (λ (x : Placed). x.shift) e))) (λ n. lists.not_in_nil _ n) (lists.Contains-cases (record { place = p; shift = k }) first [] c)),
)

not_held : AreHeld (first ∷ []) none_held → ⊥
not_held h = nothing_held 0 no_shift ((h 0 no_shift).1 (0, omega arith, refl))

-- x,y,z is held, and x+1/2,y,z has the same matrix
abbrev centred : List Operator
centred = identity_operator ∷ record { w = identity; t = column (pos 12) } ∷ []

is_apart : IsApart centred held (record { place = 1; shift = no_shift })
is_apart = record { other = first; within = omega arith; held_there = refl; rotation = refl; differ = λ e. omega (arith, ap (λ (x : Placed). x.place) e) }

not_apart : IsApart centred none_held (record { place = 1; shift = no_shift }) → ⊥
not_apart a = nothing_held a.other.place a.other.shift a.held_there

-- ---- groups that grow

in_first : (x : Placed) → Contains (first ∷ []) x → first ≡ x
in_first x c = ⊎_elim (λ e. e) (λ n. lists.not_in_nil x n) (lists.Contains-cases x first [] c)

are_old : AreOld one (first ∷ [])
unfolding ◌∘◌ ◌·◌ ◌·ᶜ◌ ◌+ᶜ◌ times
are_old = record {
  first = refl;
  within = All-from_recursion (λ (h : Placed). h.place < 1) (first ∷ []) (omega arith, tt);
  size = All-from_recursion (λ (h : Placed). AreWithin 1000000 h.shift.x h.shift.y h.shift.z) (first ∷ []) (record { first = omega arith; second = omega arith; third = omega arith }, tt);
  products = λ a b c d. subst (λ v. (h : Placed) × Contains (first ∷ []) h × (placed_map one h ≡ placed_map one v ∘ placed_map one b)) (in_first a c) (subst (λ v. (h : Placed) × Contains (first ∷ []) h × (placed_map one h ≡ placed_map one first ∘ placed_map one v)) (in_first b d) (first, (0, omega arith, refl), refl));
}

none_old : AreOld one [] → ⊥
none_old a = let l = slice_get_within [] 0 first a.first in omega (arith, l)

in_block : IsInBlock one (first ∷ []) first identity_map
unfolding ◌∘◌ ◌·◌ ◌·ᶜ◌ ◌+ᶜ◌ times
in_block = (first, (0, omega arith, refl), refl)

in_no_block : IsInBlock one [] first identity_map → ⊥
in_no_block b = lists.not_in_nil b.0 b.1

extends : Extends [] (first ∷ [])
extends j r e = absurd (let l = slice_get_within [] j r e in omega (arith, l))

extends_not : Extends (first ∷ []) [] → ⊥
extends_not h = let l = slice_get_within [] 0 first (h 0 first refl) in omega (arith, l)

-- the identity is a product of none, and the translation by a cell along x is not
products : AreProducts one [] held
unfolding ◌+ᶜ◌ times
products e h = ([], All-nil _, by h.0 (held_alone h.0.place h.0.shift h.2) ∙ h.3)
  where
    by : (x : Placed) → (x.place ≡ 0) × (x.shift ≡ no_shift) → identity_map ≡ placed_map one x
    by x r = ap (placed_map one) (λ i. record { place = sym r.0 i; shift = sym r.1 i })

abbrev held_on : List (Option Offset)
held_on = Some (record { x = pos 1; y = o; z = o }) ∷ []

no_products : AreProducts one [] held_on → ⊥
unfolding ◌+ᶜ◌ times
no_products a = by (by_none _ (a (shift (pos 24)) (record { place = 0; shift = record { x = pos 1; y = o; z = o } }, omega arith, refl, refl)))
  where
    by : identity_map ≡ shift (pos 24) → ⊥
    by e = let x : o ≡ pos 24 = ap (λ (g : Map). g.s.x) e in omega (arith, ints, x)

-- that translation and the identity have one matrix
torn : IsTorn (shift (pos 24) ∷ [])
unfolding ◌∘◌ ◌·◌ ◌·ᶜ◌ ◌+ᶜ◌
torn = record {
  one = identity_map;
  other = shift (pos 24);
  is_product = ([], All-nil _, refl);
  is_product_too = (shift (pos 24) ∷ [], All-push (IsLetter (shift (pos 24) ∷ [])) [] (shift (pos 24)) (All-nil _) (inl (0, omega arith, refl)), refl);
  rotation = refl;
  differ = λ e. let x : o ≡ pos 24 = ap (λ (g : Map). g.s.x) e in omega (arith, ints, x);
}

not_torn : IsTorn [] → ⊥
not_torn t = t.differ (sym (by_none t.one t.is_product) ∙ by_none t.other t.is_product_too)

-- ---- conjugates

abbrev diagonal : ℤ → ℤ → Matrix
diagonal x y = record { xx = x; xy = o; xz = o; yx = o; yy = y; yz = o; zx = o; zy = o; zz = o }

-- -y,x,z turns the axis x to the axis y
abbrev turn : Operator
turn = record { w = matrix_of (o ∷ negsuc 0 ∷ o ∷ pos 1 ∷ o ∷ o ∷ o ∷ o ∷ pos 1 ∷ []); t = origin }

turned_axis : turned_matrix turn (diagonal (pos 1) o) ≡ diagonal o (pos 1)
unfolding ◌·◌ det adjugate scaled
turned_axis = refl

-- of these two the axis x is the greater matrix
greatest : IsGreatestBefore one (diagonal (pos 1) o) (diagonal (pos 1) o) 1
unfolding ◌·◌ det adjugate scaled
greatest zero f l e b = not_below_itself (entries (diagonal (pos 1) o)) (subst (λ (g : Operator). IsBelow (entries (diagonal (pos 1) o)) (entries (turned_matrix g (diagonal (pos 1) o)))) (sym (same_Some identity_operator f e)) b)
greatest (suc k) f l e b = omega (arith, l)

not_greatest : IsGreatestBefore one (diagonal (pos 1) o) (diagonal o (pos 1)) 1 → ⊥
unfolding ◌·◌ det adjugate scaled
not_greatest g = g 0 identity_operator (omega arith) refl (inl (omega (arith, ints)))

heads : Heads both 1 1
heads = inl refl

heads_none : Heads both 1 0 → ⊥
heads_none (inl e) = omega (arith, e)
heads_none (inr r) = omega (arith, r.1)

abbrev sizes : ℕ → ℕ → ℕ → Sizes
sizes x y z = record { x = x; y = y; z = z }

are_sizes : AreSizes (sizes 1 2 192)
are_sizes = record { some_x = omega arith; some_y = omega arith; some_z = omega arith; x = omega arith; y = omega arith; z = omega arith }

no_sizes : AreSizes (sizes 1 0 1) → ⊥
no_sizes s = omega (arith, s.some_y)

-- over 2 the column 1,0,0 is whole twice, and not once
whole_twice : AreWholeFor (sizes 2 1 1) (diagonal (pos 1) (pos 2)) 2
unfolding Regions.diagonal ◌·◌ scaled
whole_twice = (diagonal (pos 1) (pos 1), refl)

not_whole_once : AreWholeFor (sizes 1 1 1) (diagonal (pos 1) (pos 2)) 2 → ⊥
unfolding Regions.diagonal ◌·◌ scaled
not_whole_once w = let x : pos 1 ≡ pos 2 *ℤ w.0.xx = ap (λ (m : Matrix). m.xx) w.1 in omega (arith, ints, x)

-- whole columns ask for no shift but none, and halves for one more
no_shift_enough : AreEnoughFor (sizes 1 1 1) identity 1
no_shift_enough k = (0, omega arith, identity ·ᶜ k, whole_shift k)

not_enough : AreEnoughFor (sizes 1 1 1) identity 2 → ⊥
unfolding ◌·ᶜ◌ ◌+ᶜ◌ times
not_enough h = let r = h (column (pos 1)) in by r.0 r.1 r.2.x (ap (λ (c : Column). c.x) r.3)
  where
    by : (i : ℕ) → i < 1 * 1 * 1 → (c : ℤ) → pos 1 ≡ pos 1 *ℤ pos (i / 1 / 1) +ℤ o *ℤ pos (i / 1 % 1) +ℤ o *ℤ pos (i % 1) +ℤ pos 2 *ℤ c → ⊥
    by zero l c e = omega (arith, ints, e)
    by (suc i) l c e = omega (arith, l)

multiple : IsMultiple (column (pos 1)) (column (pos 3)) 2
unfolding ◌+ᶜ◌ times
multiple = (pos 3, origin, refl)

no_multiple : IsMultiple (column (pos 2)) (column (pos 1)) 2 → ⊥
unfolding ◌+ᶜ◌ times
no_multiple m = let x : pos 1 ≡ m.0 *ℤ pos 2 +ℤ pos 2 *ℤ m.1.x = ap (λ (c : Column). c.x) m.2 in omega (arith, ints, x)

-- over 2 the column -1,0,0 is the opposite of 1,0,0, and over 4 the column 2,0,0 is neither
opposite : IsSameOrOpposite (column (pos 1)) (column (negsuc 0)) 2
unfolding ◌+ᶜ◌ times neg_column
opposite = (origin, inr refl)

neither : IsSameOrOpposite (column (pos 1)) (column (pos 2)) 4 → ⊥
unfolding ◌+ᶜ◌ times neg_column
neither s = ⊎_elim
    (λ e. let x : pos 2 ≡ pos 1 +ℤ pos 4 *ℤ s.0.x = ap (λ (c : Column). c.x) e in omega (arith, ints, x))
    (λ e. let x : pos 2 ≡ negsuc 0 +ℤ pos 4 *ℤ s.0.x = ap (λ (c : Column). c.x) e in omega (arith, ints, x))
    s.1

-- ---- keys: the inversion at 1/2,0,0 has the same one at -1/2,0,0

abbrev left_at : ℤ → ℕ → KeyOver
left_at x n = record { key = record { m = no_matrix; t = column x }; over = n }

carried_back : carried_key inverting (left_at (pos 24) 2) ≡ (left_at (pos 24) 2).key
unfolding key_of carried block_times block_of undo modulo times ◌·◌ ◌·ᶜ◌ ◌+ᶜ◌ det adjugate scaled neg_column
carried_back = refl

moved_back : moved_key (left_at (pos 24) 2) (column (pos 1)) ≡ (left_at (pos 24) 2).key
unfolding key_of carried block_times block_of undo modulo times ◌·◌ ◌·ᶜ◌ ◌+ᶜ◌ det adjugate scaled neg_column
moved_back = refl

candidate : IsCandidate both (left_at (pos 24) 2) no_matrix (left_at (pos 24) 2)
unfolding key_of carried block_times block_of undo modulo times ◌·◌ ◌·ᶜ◌ ◌+ᶜ◌ det adjugate scaled neg_column
candidate = record { over = refl; matrix = refl; by = inverting; member = (1, omega arith, refl); shift = column (pos 1); gives = refl }

no_candidate : IsCandidate both (left_at (pos 24) 2) no_matrix (left_at (pos 24) 3) → ⊥
no_candidate c = omega (arith, c.over)

abbrev its_key : KeyOver
its_key = record { key = record { m = identity; t = origin }; over = 1 }

is_left : IsLeftOf one its_key
unfolding key_of modulo
is_left = record { average = whole (pos 1); is_average = average; key = refl; over = refl }

none_left : IsLeftOf one (record { key = its_key.key; over = 2 }) → ⊥
unfolding block_scaled
none_left l = let a = l.is_average in by (length a.group) (sum_of a.group).n l.average.n (let c = a.is_group.identity in omega (arith, c.1)) l.over (ap (λ (b : Block). b.n) a.mean) (number_of_sum a.group)
  where
    by : (k : ℕ) (s n : ℤ) → 0 < k → pos 2 ≡ n → pos k *ℤ n ≡ pos 1 *ℤ s → s ≡ pos k → ⊥
    by k s n h p e q = not_over_two k s h (subst (λ v. pos k *ℤ v ≡ pos 1 *ℤ s) (sym p) e) q

-- what comes before the first key comes before itself, and the key at 0 comes before that at 1/2
no_later : IsNoLater (left_at o 2) (left_at o 2)
no_later k b = b

later : IsNoLater (left_at (pos 24) 2) (left_at o 2) → ⊥
later h = not_before_itself (left_at o 2).key (h (left_at o 2).key (inr (refl, inl (omega (arith, ints)))))

-- of no places none is before it; that of x,y,z at 0 is before 1/2
not_before : AreNotBefore both (left_at o 2) (left_at (pos 24) 2) 1 1
not_before i f k l m = absurd (omega (arith, l, m))

one_before : AreNotBefore both (left_at o 2) (left_at (pos 24) 2) 0 1 → ⊥
unfolding key_of carried block_times block_of undo modulo times ◌·◌ ◌·ᶜ◌ ◌+ᶜ◌ det adjugate scaled neg_column
one_before h = h 0 identity_operator origin (omega arith) (omega arith) refl (inr (refl, inl (omega (arith, ints))))
