-- Sums over orbits: there is one at each point, equal at the points of an orbit, and those at the points of the grid list have the sum
-- of all values as theirs.
use Rattle.std.proofs.Common.{◌≡◌, ℕ, zero, suc, ℤ, pos, ◌+ℤ◌, List, [], ◌∷◌, get_or, Contains, ap, ap₂, sym, ◌∙◌, subst, refl, arith}
use Rattle.std.proofs.lemmas.Int.{ints}
use Rattle.finite_groups.specs.Groups.{Addition}
use Rattle.finite_groups.proofs.Members as lists
use Rattle.finite_groups.proofs.Totals.{total}
use Rattle.lattice_algebra.specs.Operator.{Operator}
use Rattle.group_closure.specs.GroupList.{IsGroup}
use Rattle.tag_walks.specs.Regions.{Region, IsRegion, IsFull, IsClassOf}
use Rattle.tag_walks.proofs.Whole.{upto}
use Rattle.tag_walks.proofs.Sums.{total-append, one_total, total_of_classes}
use Rattle.grid_tags.specs.declared.line.GridLine.{GridLine}
use Rattle.grid_tags.specs.Grids.{Triple, IsInGrid, IsGridInRange, IsKept, points, triple_of}
use Rattle.grid_tags.specs.GridLists.{AreInOneOrbit, IsGridOrbit, IsGridList, grid_region, grid_lines}
use Rattle.grid_tags.proofs.Tags as tags
use Rattle.grid_tags.proofs.Whole as whole
use Rattle.map_sym.specs.SummedMaps.{GridValues, SummedMap, AreAllPoints, value_at, sum_over, IsOrbitSum, IsSummedMap, IsOneOnEachOrbit, IsSumOverList}
use Rattle.map_sym.specs.Steps.{sum_below}
use Rattle.map_sym.proofs.Sums.{below_all}

-- ---- sums of whole numbers

pub add_none : (z : ℤ) → z +ℤ pos 0 ≡ z
add_none z = omega (arith, ints)

abbrev pub whole_numbers : Addition
whole_numbers = record {
  M = ℤ;
  plus = ◌+ℤ◌;
  none = pos 0;
  assoc = regroup;
  comm = exchange;
  unit = none_first;
}
  where
    regroup : (a b c : ℤ) → (a +ℤ b) +ℤ c ≡ a +ℤ (b +ℤ c)
    regroup a b c = omega (arith, ints)

    exchange : (a b : ℤ) → a +ℤ b ≡ b +ℤ a
    exchange a b = omega (arith, ints)

    none_first : (a : ℤ) → pos 0 +ℤ a ≡ a
    none_first a = omega (arith, ints)

pub total_is_sum : {X : Type 0} (f : X → ℤ) (xs : List X) → total whole_numbers f xs ≡ sum_over f xs
total_is_sum f [] = refl
total_is_sum f (x ∷ xs) = ap (λ z. f x +ℤ z) (total_is_sum f xs)

over_agree : {X : Type 0} (f g : X → ℤ) (xs : List X) → ((x : X) → Contains xs x → f x ≡ g x) → sum_over f xs ≡ sum_over g xs
over_agree f g [] h = refl
over_agree f g (x ∷ xs) h = ap₂ ◌+ℤ◌ (h x (lists.Contains-here x xs)) (over_agree f g xs (λ y c. h y (lists.Contains-later y x xs c)))

pub total_is_below : (f : ℕ → ℤ) (n : ℕ) → total whole_numbers f (upto n) ≡ sum_below f n
total_is_below f zero = refl
total_is_below f (suc n) = total-append whole_numbers f (upto n) (n ∷ []) ∙ ap (λ z. z +ℤ (f n +ℤ pos 0)) (total_is_below f n) ∙ ap (λ z. sum_below f n +ℤ z) (add_none (f n))

-- ---- at the points of a grid

module _ (members : List Operator) (given : GridValues) (group : IsGroup members) (range : IsGridInRange given.size) (kept : IsKept members given.size) where
  abbrev pub R : Region
  R = grid_region members given.size

  pub region : IsRegion R
  region = tags.region members given.size (tags.sides_of given.size range) group kept

  pub full : IsFull R
  full = whole.full members given.size group range kept

  abbrev pub value : ℕ → ℤ
  value k = get_or given.values k (pos 0)

  pub is_class : (p : Triple) (orbit : List Triple) → IsGridOrbit members given.size p orbit → IsClassOf R p orbit
  is_class p orbit o = record { exactly = o.exactly; once = o.once }

  pub some_sum : (p : Triple) → (sum : ℤ) × IsOrbitSum members given p sum
  some_sum p = let o = whole.some_orbit members given.size group range kept p in (_, record { orbit = o.0; is_orbit = o.1; is_sum = refl })

  -- points of one orbit have one sum
  pub one_sum : (p q : Triple) (a b : ℤ) → IsInGrid given.size p → IsInGrid given.size q → AreInOneOrbit members given.size p q → IsOrbitSum members given p a → IsOrbitSum members given q b → a ≡ b
  one_sum p q a b i j e x y =
      x.is_sum ∙ sym (total_is_sum (value_at given) x.orbit)
      ∙ one_total R region whole_numbers value p q x.orbit y.orbit i j e (is_class p x.orbit x.is_orbit) (is_class q y.orbit y.is_orbit)
      ∙ total_is_sum (value_at given) y.orbit ∙ sym y.is_sum

  -- the sums at the points of the grid list
  pub sum_of_list : (sum_at : Triple → ℤ) → ((p : Triple) → IsInGrid given.size p → IsOrbitSum members given p (sum_at p)) → AreAllPoints given → (list : List GridLine) → IsGridList members given.size list
      → sum_over (λ (line : GridLine). sum_at (triple_of line.at)) list ≡ sum_over (λ (v : ℤ). v) given.values
  sum_of_list sum_at sums all list is =
      over_agree (λ (line : GridLine). sum_at (triple_of line.at)) class_sum list each
      ∙ sym (total_is_sum class_sum list)
      ∙ total_of_classes R region whole_numbers value (grid_lines members given.size) full (whole.one_line members given.size group range kept) class_at (whole.right members given.size group range kept) list is
      ∙ total_is_below value (points given.size) ∙ ap (sum_below value) (sym all) ∙ below_all given.values
    where
      class_at : Triple → List Triple
      class_at = whole.class_at members given.size group range kept

      class_sum : GridLine → ℤ
      class_sum line = total whole_numbers (value_at given) (class_at (triple_of line.at))

      each : (line : GridLine) → Contains list line → sum_at (triple_of line.at) ≡ class_sum line
      each line c =
          let p = triple_of line.at in
          let i = ((is.exactly p).0 (lists.Contains-map (λ (l : GridLine). triple_of l.at) line list c)).in_region in
          let right = whole.right members given.size group range kept p i in
          one_sum p p (sum_at p) (class_sum line) i i (region.itself p i) (sums p i) (record { orbit = class_at p; is_orbit = record { exactly = right.exactly; once = right.once }; is_sum = total_is_sum (value_at given) (class_at p) })

  -- ---- summed maps

  module _ (summed : SummedMap) (is : IsSummedMap members given summed) where
    pub one_on_orbits : IsOneOnEachOrbit members summed.sums
    one_on_orbits p q i j e =
        one_sum p q (value_at summed.sums p) (value_at summed.sums q)
        (subst (λ s. IsInGrid s p) is.size i) (subst (λ s. IsInGrid s q) is.size j) (subst (λ s. AreInOneOrbit members s p q) is.size e)
        (is.sums p (subst (λ s. IsInGrid s p) is.size i)) (is.sums q (subst (λ s. IsInGrid s q) is.size j))

    pub sum_over_list : AreAllPoints given → IsSumOverList members summed.sums summed.total
    sum_over_list all list l = sum_of_list (value_at summed.sums) is.sums all list (subst (λ s. IsGridList members s list) is.size l) ∙ sym is.total
