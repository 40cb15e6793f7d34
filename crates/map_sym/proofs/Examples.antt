-- Worked examples: the definitions for the values 5, 6 and 7 in a grid of 3, 1 and 1 points under P-1; nothing cites these.
use Rattle.std.proofs.Common.{◌≡◌, ◌<◌, ℕ, zero, suc, ℤ, pos, negsuc, List, [], ◌∷◌, get_or, ⊎_elim, Contains, codes, subst, refl, arith}
use Rattle.std.specs.Fmt.{digits}
use Rattle.std.proofs.lemmas.Int.{ints}
use Rattle.finite_groups.proofs.Members as lists
use Rattle.lattice_algebra.proofs.Examples.{both}
use Rattle.group_closure.proofs.Examples.{group_of_both}
use Rattle.triplet_text.specs.Integers.{minus}
use Rattle.grid_tags.specs.Grids.{IsInGrid, IsGridInRange, place_of}
use Rattle.grid_tags.specs.GridLists.{AreInOneOrbit, IsGridOrbit}
use Rattle.grid_tags.proofs.OrbitLaws.{orbit_itself, orbit_back, orbit_on}
use Rattle.grid_tags.proofs.Examples.{triple, three, three_sides, kept, inside, each_point, pair, pair_is_orbit, exchanged, alone, line, grid_list}
use Rattle.map_sym.specs.SummedMaps.{GridValues, SummedMap, AreAllPoints, value_at, IsOrbitSum, IsSummedMap, IsOneOnEachOrbit, IsSumOverList}
use Rattle.map_sym.specs.Steps.{sum_below, gathered_at, AreGathered, AreSpread, AreSummed, AreWithin, IsItsOwn}
use Rattle.map_sym.specs.MapTexts.{sum_text, total_text}
use Rattle.map_sym.specs.ValueLines.{IsValueLine}
use Rattle.map_sym.proofs.OrbitSums.{one_sum, one_on_orbits, sum_over_list}

range : IsGridInRange three
range = record { a = (omega arith, omega arith); b = (omega arith, omega arith); c = (omega arith, omega arith); few = omega arith }

abbrev values : ℤ → ℤ → ℤ → GridValues
values x y z = record { size = three; values = x ∷ y ∷ z ∷ [] }

abbrev given : GridValues
given = values (pos 5) (pos 6) (pos 7)

all_three : AreAllPoints given
all_three = refl

two_alone : AreAllPoints (record { size = three; values = pos 5 ∷ pos 6 ∷ [] }) → ⊥
two_alone a = omega (arith, a)

third_value : value_at given (triple 2 0 0) ≡ pos 7
unfolding place_of
third_value = refl

-- ---- sums over orbits: the origin is alone, the other two points are one orbit

origin_is_orbit : IsGridOrbit both three (triple 0 0 0) (triple 0 0 0 ∷ [])
origin_is_orbit = record {
  exactly = λ q. (
    (λ c. ⊎_elim (λ e. subst (λ p. IsInGrid three p × AreInOneOrbit both three (triple 0 0 0) p) e (inside 0 (omega arith), itself)) (λ n. lists.not_in_nil q n) (lists.Contains-cases q (triple 0 0 0) [] c)),
    (λ h. each_point (λ p. AreInOneOrbit both three (triple 0 0 0) p → Contains (triple 0 0 0 ∷ []) p) (λ a. (0, omega arith, refl)) (λ a. absurd (omega (arith, alone 1 (omega arith) a))) (λ a. absurd (omega (arith, alone 2 (omega arith) a))) q h.0 h.1),
  );
  once = λ i j d l m. absurd (omega arith);
}
  where
    itself : AreInOneOrbit both three (triple 0 0 0) (triple 0 0 0)
    itself = orbit_itself both three three_sides group_of_both kept (triple 0 0 0) (inside 0 (omega arith))

origin_sum : IsOrbitSum both given (triple 0 0 0) (pos 5)
unfolding place_of
origin_sum = record { orbit = triple 0 0 0 ∷ []; is_orbit = origin_is_orbit; is_sum = refl }

pair_sum : IsOrbitSum both given (triple 1 0 0) (pos 13)
unfolding place_of
pair_sum = record { orbit = pair; is_orbit = pair_is_orbit; is_sum = refl }

-- neither the value of the point alone nor twice the sum
no_other_sum : (sum : ℤ) → IsOrbitSum both given (triple 1 0 0) sum → sum ≡ pos 13
no_other_sum sum s =
    let i = inside 1 (omega arith) in
    one_sum both given group_of_both range kept (triple 1 0 0) (triple 1 0 0) sum (pos 13) i i (orbit_itself both three three_sides group_of_both kept (triple 1 0 0) i) s pair_sum

not_alone : IsOrbitSum both given (triple 1 0 0) (pos 6) → ⊥
not_alone s = let e = no_other_sum (pos 6) s in omega (arith, ints, e)

not_twice : IsOrbitSum both given (triple 1 0 0) (pos 26) → ⊥
not_twice s = let e = no_other_sum (pos 26) s in omega (arith, ints, e)

-- ---- the map: 5, 13 and 13, with the total 18

abbrev summed : ℤ → SummedMap
summed total = record { sums = values (pos 5) (pos 13) (pos 13); total = total }

third_is_orbit : IsGridOrbit both three (triple 2 0 0) pair
third_is_orbit = record {
  exactly = λ q. (
    (λ c. let h = (pair_is_orbit.exactly q).0 c in (h.0, orbit_on both three three_sides group_of_both kept (triple 2 0 0) (triple 1 0 0) q third second h.0 back h.1)),
    (λ h. (pair_is_orbit.exactly q).1 (h.0, orbit_on both three three_sides group_of_both kept (triple 1 0 0) (triple 2 0 0) q second third h.0 exchanged h.1)),
  );
  once = pair_is_orbit.once;
}
  where
    second : IsInGrid three (triple 1 0 0)
    second = inside 1 (omega arith)

    third : IsInGrid three (triple 2 0 0)
    third = inside 2 (omega arith)

    back : AreInOneOrbit both three (triple 2 0 0) (triple 1 0 0)
    back = orbit_back both three three_sides group_of_both kept (triple 1 0 0) (triple 2 0 0) second third exchanged

third_sum : IsOrbitSum both given (triple 2 0 0) (pos 13)
unfolding place_of
third_sum = record { orbit = pair; is_orbit = third_is_orbit; is_sum = refl }

is_summed : IsSummedMap both given (summed (pos 18))
unfolding place_of
is_summed = record {
  size = refl;
  all = refl;
  sums = each_point (λ p. IsOrbitSum both given p (value_at (values (pos 5) (pos 13) (pos 13)) p)) origin_sum pair_sum third_sum;
  total = refl;
}

-- the total is that of the values, and not that of the sums at all points
not_of_sums : IsSummedMap both given (summed (pos 31)) → ⊥
not_of_sums s = let e : pos 31 ≡ pos 18 = s.total in omega (arith, ints, e)

one_on_each : IsOneOnEachOrbit both (values (pos 5) (pos 13) (pos 13))
one_on_each = one_on_orbits both given group_of_both range kept (summed (pos 18)) is_summed

not_one_on_each : IsOneOnEachOrbit both given → ⊥
unfolding place_of
not_one_on_each o = let e : pos 6 ≡ pos 7 = o (triple 1 0 0) (triple 2 0 0) (inside 1 (omega arith)) (inside 2 (omega arith)) exchanged in omega (arith, ints, e)

over_list : IsSumOverList both (values (pos 5) (pos 13) (pos 13)) (pos 18)
over_list = sum_over_list both given group_of_both range kept (summed (pos 18)) is_summed all_three

-- the firsts of the given values alone have another sum
not_over_list : IsSumOverList both given (pos 18) → ⊥
unfolding place_of
not_over_list s = let e : pos 11 ≡ pos 18 = s (line 0 1 ∷ line 1 2 ∷ []) grid_list in omega (arith, ints, e)

-- ---- steps: 0 and 1 are first places, and 2 has 1 as its first

abbrev firsts : List ℕ
firsts = 0 ∷ 1 ∷ 1 ∷ []

abbrev read : List ℤ
read = pos 5 ∷ pos 6 ∷ pos 7 ∷ []

below_two : sum_below (λ k. pos k) 3 ≡ pos 3
below_two = refl

at_one : gathered_at firsts read 1 3 ≡ pos 13
at_one = refl

-- what holds of 0, 1 and 2 holds of each
each : (P : ℕ → Type 0) → P 0 → P 1 → P 2 → (n : ℕ) → n < 3 → P n
each P a b c zero l = a
each P a b c (suc zero) l = b
each P a b c (suc (suc zero)) l = c
each P a b c (suc (suc (suc n))) l = absurd (omega (arith, l))

gathered : AreGathered firsts read (pos 5 ∷ pos 13 ∷ pos 0 ∷ []) 3
gathered = each (λ k. _ ≡ gathered_at firsts read k 3) refl refl refl

not_gathered : AreGathered firsts read (pos 5 ∷ pos 13 ∷ pos 0 ∷ []) 2 → ⊥
not_gathered g = let e : pos 13 ≡ pos 6 = g 1 (omega arith) in omega (arith, ints, e)

spread : AreSpread firsts (pos 5 ∷ pos 13 ∷ pos 0 ∷ []) (pos 5 ∷ pos 13 ∷ pos 13 ∷ []) 3
spread = each (λ k. _ ≡ _) refl refl refl

not_spread : AreSpread firsts (pos 5 ∷ pos 13 ∷ pos 0 ∷ []) (pos 5 ∷ pos 13 ∷ pos 0 ∷ []) 3 → ⊥
not_spread s = let e : pos 0 ≡ pos 13 = s 2 (omega arith) in omega (arith, ints, e)

summed_by_firsts : AreSummed firsts read (pos 5 ∷ pos 13 ∷ pos 13 ∷ [])
summed_by_firsts = each (λ k. _ ≡ _) refl refl refl

not_summed_by_firsts : AreSummed firsts read (pos 5 ∷ pos 13 ∷ pos 0 ∷ []) → ⊥
not_summed_by_firsts s = let e : pos 0 ≡ pos 13 = s 2 (omega arith) in omega (arith, ints, e)

within_two : AreWithin 2 firsts
within_two = each (λ k. get_or firsts k 0 < 2) (omega arith) (omega arith) (omega arith)

not_within_one : AreWithin 1 firsts → ⊥
not_within_one w = let l : 1 < 1 = w 2 (omega arith) in omega (arith, l)

its_own : IsItsOwn firsts
its_own = each (λ k. get_or firsts (get_or firsts k 0) 0 ≡ get_or firsts k 0) refl refl refl

not_its_own : IsItsOwn (1 ∷ 2 ∷ 2 ∷ []) → ⊥
not_its_own o = let e : 2 ≡ 1 = o 0 (omega arith) in omega (arith, e)

-- ---- texts

pair_text : sum_text (line 1 2) (pos 13) ≡ codes "1 0 0 2 13\n"
unfolding digits
pair_text = refl

total_below : total_text (negsuc 17) ≡ codes "total -18\n"
unfolding digits
total_below = refl

minus_seven : IsValueLine (codes " -7 ") (negsuc 6)
minus_seven = record { field = codes "-7"; is_field = refl; is_value = minus (record { digits = record { some = omega arith; digits = (refl, tt) }; short = omega arith; value = refl }) }

-- two fields write no value
apart : (z : ℤ) → IsValueLine (codes "- 7") z → ⊥
apart z w = let e : codes "-" ∷ codes "7" ∷ [] ≡ w.field ∷ [] = w.is_field in absurd cc
