-- What gathering at first points and spreading makes is the summed map.
use Rattle.std.proofs.Common.{◌≡◌, ℕ, ◌<◌, ℤ, pos, Bool, cond, eqb, List, length, get_or, ap, sym, ◌∙◌, subst, arith}
use Rattle.lattice_algebra.specs.Operator.{Operator}
use Rattle.group_closure.specs.GroupList.{IsGroup}
use Rattle.tag_walks.proofs.FirstPlaces.{one_first_place}
use Rattle.tag_walks.proofs.Whole.{upto}
use Rattle.tag_walks.proofs.Sums.{total-filter, total_of_firsts}
use Rattle.grid_tags.specs.Grids.{Grid, Triple, IsInGrid, IsGridInRange, IsKept, place_of, points}
use Rattle.grid_tags.specs.GridLists.{AreFirstPoints}
use Rattle.grid_tags.proofs.Tags.{place_within}
use Rattle.grid_tags.proofs.Whole.{some_orbit}
use Rattle.map_sym.specs.SummedMaps.{GridValues, AreAllPoints, value_at, sum_over, IsOrbitSum, IsSummedMap}
use Rattle.map_sym.specs.Steps.{gathered_at, AreSummed, AreWithin, IsItsOwn}
use Rattle.map_sym.proofs.OrbitSums.{R, region, full, value, is_class, whole_numbers, total_is_sum, total_is_below}

module _ (members : List Operator) (given : GridValues) (group : IsGroup members) (range : IsGridInRange given.size) (kept : IsKept members given.size) (firsts : List ℕ) (are : AreFirstPoints members given.size firsts) where
  abbrev count : ℕ
  count = points given.size

  -- the first place of a place is that of some point, which is its own first
  first_at : (k : ℕ) → k < length firsts → (get_or firsts k 0 < count) × (get_or firsts (get_or firsts k 0) 0 ≡ get_or firsts k 0)
  first_at k l =
      let x = full members given group range kept k (omega (arith, l, are.len)) in
      let y = are.first x.0 x.1.in_region in
      let at : get_or firsts k 0 ≡ place_of given.size y.0 = ap (λ j. get_or firsts j 0) (sym x.1.at_place) ∙ y.2 in
      let own = (one_first_place (R members given group range kept) firsts (region members given group range kept) are y.0 x.0 y.1.listed.in_region x.1.in_region).0 y.1.equivalent in (
        subst (λ j. j < count) (sym at) (place_within given.size y.0 y.1.listed.in_region),
        ap (λ j. get_or firsts j 0) at ∙ own ∙ ap (λ j. get_or firsts j 0) x.1.at_place,
      )

  pub within : (n : ℕ) → n ≡ count → AreWithin n firsts
  within n e k l = subst (λ m. get_or firsts k 0 < m) (sym e) (first_at k l).0

  pub own : IsItsOwn firsts
  own k l = (first_at k l).1

  pub summed : (sums : List ℤ) → AreAllPoints given → AreSummed firsts given.values sums → (p : Triple) → IsInGrid given.size p → IsOrbitSum members given p (get_or sums (place_of given.size p) (pos 0))
  summed sums all are_summed p i =
      let o = some_orbit members given.size group range kept p in
      let k = place_of given.size p in
      let first = get_or firsts k 0 in
      let inside = place_within given.size p i in
      let test : ℕ → Bool = λ j. eqb (get_or firsts j 0) first in
      record {
        orbit = o.0;
        is_orbit = o.1;
        is_sum =
            are_summed k (omega (arith, inside, all))
            ∙ ap (gathered_at firsts given.values first) all
            ∙ sym (total_is_below (λ j. cond (test j) (get_or given.values j (pos 0)) (pos 0)) count)
            ∙ sym (total-filter whole_numbers (value members given group range kept) test (upto count))
            ∙ sym (total_of_firsts (R members given group range kept) (region members given group range kept) whole_numbers (value members given group range kept) (full members given group range kept) firsts are p i o.0 (is_class members given group range kept p o.0 o.1))
            ∙ total_is_sum (value_at given) o.0;
      }

  -- what was read of lists that were lent
  pub is_summed : (s : Grid) (read : List ℕ) (values new items : List ℤ) (sum : ℤ) → s ≡ given.size → read ≡ firsts → values ≡ given.values → items ≡ new → length new ≡ count → AreAllPoints given
      → AreSummed read values new → sum ≡ sum_over (λ (v : ℤ). v) values → IsSummedMap members given (record { sums = record { size = s; values = items }; total = sum })
  is_summed s read values new items sum size r v e len all are_summed total =
      let now : AreSummed firsts given.values items = subst (AreSummed firsts given.values) (sym e) (subst (λ f. AreSummed f given.values new) r (subst (λ z. AreSummed read z new) v are_summed)) in
      record {
        size = size;
        all = ap length e ∙ len ∙ ap points (sym size);
        sums = λ p i. subst (λ (z : Grid). IsOrbitSum members given p (get_or items (place_of z p) (pos 0))) (sym size) (summed items all now p i);
        total = total ∙ ap (sum_over (λ (z : ℤ). z)) v;
      }
