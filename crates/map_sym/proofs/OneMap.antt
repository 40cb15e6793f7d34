-- Values have a summed map, and one only.
use Rattle.std.proofs.Common.{◌≡◌, ℕ, zero, suc, ◌<◌, ◌≤◌, ℤ, pos, List, [], ◌∷◌, ◌++◌, length, length-append, get_or, ⊎_elim, ap, sym, ◌∙◌, subst, refl, arith}
use Rattle.std.proofs.lemmas.Bool.{cases_lt}
use Rattle.std.proofs.lemmas.List.{ext_get_or, get_or_append_left}
use Rattle.std.proofs.Math.Seq.{get_or-append_seam}
use Rattle.lattice_algebra.specs.Operator.{Operator}
use Rattle.group_closure.specs.GroupList.{IsGroup}
use Rattle.grid_tags.specs.Grids.{Grid, Triple, IsInGrid, IsGridInRange, IsKept, place_of, points}
use Rattle.grid_tags.proofs.Tags.{place_within}
use Rattle.map_sym.specs.SummedMaps.{GridValues, SummedMap, value_at, sum_over, IsOrbitSum, IsSummedMap}
use Rattle.map_sym.proofs.OrbitSums.{region, full, some_sum, one_sum}

module _ (members : List Operator) (given : GridValues) (group : IsGroup members) (range : IsGridInRange given.size) (kept : IsKept members given.size) where
  -- the sum of a map at the place of a point
  at_place : (map : SummedMap) → IsSummedMap members given map → (p : Triple) (k : ℕ) → place_of given.size p ≡ k → get_or map.sums.values k (pos 0) ≡ value_at map.sums p
  at_place map is p k e = ap (λ j. get_or map.sums.values j (pos 0)) (sym e ∙ ap (λ (s : Grid). place_of s p) (sym is.size))

  same_values : (a b : SummedMap) → IsSummedMap members given a → IsSummedMap members given b → a.sums.values ≡ b.sums.values
  same_values a b x y =
      let len = x.all ∙ ap points (x.size ∙ sym y.size) ∙ sym y.all in
      ext_get_or (pos 0) a.sums.values b.sums.values len (λ k l.
      let p = full members given group range kept k (omega (arith, l, x.all, ap points x.size)) in
      let i = p.1.in_region in
      at_place a x p.0 k p.1.at_place
      ∙ one_sum members given group range kept p.0 p.0 (value_at a.sums p.0) (value_at b.sums p.0) i i ((region members given group range kept).itself p.0 i) (x.sums p.0 i) (y.sums p.0 i)
      ∙ sym (at_place b y p.0 k p.1.at_place))

  pub one_map : (a b : SummedMap) → IsSummedMap members given a → IsSummedMap members given b → a ≡ b
  one_map a b x y =
      let size = x.size ∙ sym y.size in
      let values = same_values a b x y in
      let total = x.total ∙ sym y.total in
      λ h. record { sums = record { size = size h; values = values h }; total = total h }

  -- sums for the first n places
  record AreSums (n : ℕ) (sums : List ℤ) : Type 0 where
    pub len : length sums ≡ n
    pub are : (p : Triple) → IsInGrid given.size p → place_of given.size p < n → IsOrbitSum members given p (get_or sums (place_of given.size p) (pos 0))

  one_more : (n : ℕ) (sums : List ℤ) (x : Triple) → IsInGrid given.size x → place_of given.size x ≡ n → AreSums n sums → (more : List ℤ) × AreSums (suc n) more
  one_more n sums x i at was =
      let sum = some_sum members given group range kept x in (
        sums ++ sum.0 ∷ [],
        record {
          len = length-append sums (sum.0 ∷ []) ∙ (let e = was.len in omega (arith, e));
          are = λ p j l. ⊎_elim
              (λ m. subst (IsOrbitSum members given p) (sym (get_or_append_left sums (sum.0 ∷ []) (pos 0) (place_of given.size p) (omega (arith, m, was.len)))) (was.are p j m))
              (λ m.
              let same : place_of given.size p ≡ n = omega (arith, m, l) in
              let e : p ≡ x = (region members given group range kept).one p x j i (same ∙ sym at) in
              subst (λ (q : Triple). IsOrbitSum members given q (get_or (sums ++ sum.0 ∷ []) (place_of given.size q) (pos 0))) (sym e)
              (subst (IsOrbitSum members given x) (sym (ap (λ k. get_or (sums ++ sum.0 ∷ []) k (pos 0)) (at ∙ sym was.len) ∙ get_or-append_seam sums sum.0 [] (pos 0))) sum.1))
              (cases_lt (place_of given.size p) n);
        },
      )

  up_to : (n : ℕ) → n ≤ points given.size → (sums : List ℤ) × AreSums n sums
  up_to zero l = ([], record { len = refl; are = λ p i m. absurd (omega (arith, m)) })
  up_to (suc n) l =
      let was = up_to n (omega (arith, l)) in
      let x = full members given group range kept n (omega (arith, l)) in
      one_more n was.0 x.0 x.1.in_region x.1.at_place was.1

  pub some_map : (map : SummedMap) × IsSummedMap members given map
  some_map =
      let sums = up_to (points given.size) (omega arith) in (
        record { sums = record { size = given.size; values = sums.0 }; total = sum_over (λ (v : ℤ). v) given.values },
        record { size = refl; all = sums.1.len; sums = λ p i. sums.1.are p i (place_within given.size p i); total = refl },
      )
