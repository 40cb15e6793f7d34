-- Finitely many points are enough: each point has, up to an element of the space group, the site-symmetry group of one of them. They are
-- generic points of all idempotent blocks whose matrix and translation are as small as those of an average near the origin.
use Rattle.std.proofs.Common.{◌≡◌, ◌<◌, ◌*◌, ◌⊎◌, inl, inr, ⊎_elim, ◌↔◌, ℕ, pos, ◌*ℤ◌, List, length, map, Contains, ap, sym, ◌∙◌, subst, refl}
use Rattle.std.specs.List.{flat_map}
use Rattle.std.proofs.lemmas.Bool.{cases_Bool, false≢true}
use Rattle.lattice_algebra.specs.Matrix.{Column, neg_column, ◌+ᶜ◌, times}
use Rattle.lattice_algebra.specs.Operator.{AreWithin, HasEntriesWithin}
use Rattle.lattice_algebra.specs.Map.{Map, operator_of}
use Rattle.lattice_algebra.proofs.Numbers.{positive_product, entries_or_not}
use Rattle.lattice_algebra.proofs.Columns.{swap_columns}
use Rattle.lattice_algebra.proofs.Remainders.{whole_part, modulo_parts}
use Rattle.lattice_algebra.proofs.Maps.{map_eq, map_eq-is}
use Rattle.finite_groups.proofs.Members as lists
use Rattle.space_groups.specs.Space.{IsElement, ScaledPoint, moved}
use Rattle.space_groups.specs.Averages.{Block, block_times, block_scaled, IsInImage}
use Rattle.space_groups.specs.Regions.{shift_by}
use Rattle.space_groups.specs.Keys.{carried}
use Rattle.space_groups.proofs.Blocks.{block_path}
use Rattle.space_groups.proofs.Elements.{SpaceGroup}
use Rattle.space_groups.proofs.Means as means
use Rattle.space_groups.proofs.Means.{Keeps}
use Rattle.space_groups.proofs.Regions.{shift_in}
use Rattle.space_groups.proofs.Generic.{mean_within, generic}
use Rattle.space_groups.proofs.NearOrigin.{near_origin}
use Rattle.space_groups.proofs.Sites.{site, site_is}
use Rattle.space_groups.proofs.Rows.{AreNarrow, some_members}
use Rattle.space_groups.proofs.PointKeys.{special_moved}
use Rattle.row_lists.proofs.Finite.{both, Contains-flat_map, gathered, columns_within, column_within, matrices_within, matrix_within}
use Rattle.row_lists.proofs.SharedRows.{HasGroupOf, site_average}

-- ---- blocks

-- a map as a block over n
abbrev over : ℕ → Map → Block
over n g = record { m = g.w; t = g.s; n = pos n }

abbrev IsIdempotent : Block → Type 0
IsIdempotent a = block_times a a ≡ block_scaled a.n a

idempotent_or_not : (a : Block) → IsIdempotent a ⊎ (IsIdempotent a → ⊥)
unfolding block_times block_scaled
idempotent_or_not a =
    let x = block_times a a in
    let y = block_scaled a.n a in
    let p : Map = record { w = x.m; s = x.t } in
    let q : Map = record { w = y.m; s = y.t } in
    let is = map_eq-is p q in
    ⊎_elim
    (λ t. let e = is.0 t in inl (block_path x y (ap (λ (v : Map). v.w) e) (ap (λ (v : Map). v.s) e) refl))
    (λ f. inr (λ e. false≢true (sym f ∙ is.1 (λ i. record { w = (e i).m; s = (e i).t }))))
    (cases_Bool (map_eq p q))

-- a point of the image that only what fixes the whole image fixes
record IsGenericPoint (a : Block) (y : ScaledPoint) : Type 0 where
  pub inside : IsInImage a y
  pub only : (e : Map) → HasEntriesWithin 2 e.w → moved e y ≡ y → Keeps a e

-- what an average over n has
abbrev IsUsable : ℕ → Map → Type 0
IsUsable n g = IsIdempotent (over n g) × HasEntriesWithin (n * 2) g.w

generic_or_not : (n : ℕ) → 0 < n → (g : Map) → ((y : ScaledPoint) × IsGenericPoint (over n g) y) ⊎ (IsUsable n g → ⊥)
generic_or_not n h g = ⊎_elim (λ p. let r = generic n h (over n g) refl p.0 p.1 in inl (r.0, record { inside = r.1; only = r.2 })) (λ f. inr f) (both (λ p q. (p, q)) (λ p. p) (idempotent_or_not (over n g)) (entries_or_not (n * 2) g.w))

abbrev maps_within : ℕ → ℕ → List Map
maps_within b c = flat_map (λ w. map (λ s. record { w = w; s = s }) (columns_within c)) (matrices_within b)

map_within : (b c : ℕ) (g : Map) → HasEntriesWithin b g.w → AreWithin c g.s.x g.s.y g.s.z → Contains (maps_within b c) g
map_within b c g p q =
    Contains-flat_map (λ w. map (λ s. record { w = w; s = s }) (columns_within c)) (matrices_within b) g.w g (matrix_within b g.w p)
    (lists.Contains-map (λ s. record { w = g.w; s = s }) g.s (columns_within c) (column_within c g.s q))

-- points that are generic for all small blocks over n
generic_points : (n c : ℕ) → 0 < n → (points : List ScaledPoint) × ((a : Block) → a.n ≡ pos n → IsIdempotent a → HasEntriesWithin (n * 2) a.m → AreWithin c a.t.x a.t.y a.t.z → (y : ScaledPoint) × Contains points y × IsGenericPoint a y)
generic_points n c h =
    let r = gathered (IsUsable n) (λ g y. IsGenericPoint (over n g) y) (generic_or_not n h) (maps_within (n * 2) c) in (
      r.0,
      λ a number two m t.
          let g : Map = record { w = a.m; s = a.t } in
          let e : a ≡ over n g = block_path a (over n g) refl refl number in
          let y = r.1 g (map_within (n * 2) c g m t) (subst IsIdempotent e two, m) in
          (y.0, y.1, subst (λ v. IsGenericPoint v y.0) (sym e) y.2),
    )

module _ (L : SpaceGroup) where
  open L use {unit, some, members, closed}

  -- the average over the group of g y is the carried average over that of y
  average_turned : (g : Map) (y : ScaledPoint) → IsElement unit members g → carried g (site_average L y).average ≡ (site_average L (moved g y)).average
  average_turned g y m =
      let a = site_average L y in
      let b = site_average L (moved g y) in
      special_moved L g y (site L y) a.average b.average m (λ e. ((λ c. c), (λ c. c))) a.closed a.is_mean b.is_mean

  module _ (narrow : AreNarrow members) where
    narrow_element : (e : Map) → IsElement unit members e → HasEntriesWithin 2 e.w
    unfolding operator_of
    narrow_element e m = narrow (operator_of unit e) m

    average_within : (y : ScaledPoint) → HasEntriesWithin (length members * 2) (site_average L y).average.m
    average_within y = let a = site_average L y in mean_within (length members) (site L y) a.average (means.some_members a) a.is_mean (λ e c. narrow_element e ((site_is L y e).0 c).0)

    -- some image by a whole shift has an average near the origin
    near : (y : ScaledPoint) → (k : Column) × (let t = (site_average L (moved (shift_by unit k) y)).average.t in AreWithin (unit * length members * 7) t.x t.y t.z)
    near y =
        let n = length members in
        let h = positive_product unit n some (some_members L) in
        let v = site_average L y in
        let a = v.average in
        let w = whole_part (unit * n) h a.t in
        let split : a.t ≡ times (pos unit *ℤ pos n) w.0 +ᶜ _ = w.1 ∙ swap_columns _ (times (pos (unit * n)) w.0) in
        let t = near_origin unit n (some_members L) a w.0 _ (means.number v) (means.idempotent_itself v) (average_within y) split (modulo_parts (unit * n) h a.t) in
        let e = average_turned (shift_by unit (neg_column w.0)) y (shift_in L (neg_column w.0)) in
        (neg_column w.0, subst (λ (b : Block). AreWithin (unit * n * 7) b.t.x b.t.y b.t.z) e t)

    -- a generic point of the average over the group of a point of the image has that group
    generic_group : (y z : ScaledPoint) → IsGenericPoint (site_average L y).average z → (e : Map) → Contains (site L y) e ↔ Contains (site L z) e
    generic_group y z g e =
        let v = site_average L y in (
          (λ c. (site_is L z e).1 (((site_is L y e).0 c).0, means.image_fixed v z g.inside e c)),
          (λ c.
              let s = (site_is L z e).0 c in
              let keeps : Keeps v.average e = g.only e (narrow_element e s.0) s.1 in
              (site_is L y e).1 (s.0, (means.full_exactly v e).0 keeps y (means.fixed_image v y (λ f d. ((site_is L y f).0 d).1)))),
        )

    pub some_points : (points : List ScaledPoint) × ((y : ScaledPoint) → (z : ScaledPoint) × Contains points z × HasGroupOf L y z)
    some_points =
        let n = length members in
        let r = generic_points n (unit * n * 7) (some_members L) in (
          r.0,
          λ y.
              let k = near y in
              let w : Map = shift_by unit k.0 in
              let v = site_average L (moved w y) in
              let z = r.1 v.average (means.number v) (means.idempotent_itself v) (average_within (moved w y)) k.1 in
              (z.0, z.1, (w, shift_in L k.0, generic_group (moved w y) z.0 z.2)),
        )
