-- The row of a rational point: each point has one, and points have the same one exactly where their site-symmetry groups are conjugate.
use Rattle.std.proofs.Common.{◌≡◌, ◌<◌, ◌≤◌, ◌*◌, ◌↔◌, ℕ, zero, suc, mul_comm, length, Contains, ap, sym, ◌∙◌, refl, subst, arith}
use Rattle.std.proofs.lemmas.List.{length-map}
use Rattle.lattice_algebra.specs.Map.{Map, ◌∘◌, undo}
use Rattle.lattice_algebra.specs.Point.{Point, IsPoint, ◌≈◌, image}
use Rattle.lattice_algebra.proofs.Points.{≈_sym, ≈_trans, IsPoint-image}
use Rattle.lattice_algebra.proofs.Maps.{map_eq, map_eq-is}
use Rattle.finite_groups.proofs.Members as lists
use Rattle.finite_groups.proofs.Conjugates as conjugates
use Rattle.finite_groups.proofs.Cover as cover
use Rattle.space_groups.specs.Space.{IsElement, ScaledPoint, moved, point_of}
use Rattle.space_groups.specs.Averages.{Block, IsInImage}
use Rattle.space_groups.specs.Regions.{shift_by}
use Rattle.space_groups.specs.Keys.{carried, Key, IsKey}
use Rattle.space_groups.specs.Rows.{Lies, row_point, Row, Fits, IsPointKey, IsRowOf}
use Rattle.space_groups.proofs.ScaledPoints.{moved-∘}
use Rattle.space_groups.proofs.Elements.{SpaceGroup, space, on_points}
use Rattle.space_groups.proofs.Means as means
use Rattle.space_groups.proofs.Means.{Averaged}
use Rattle.space_groups.proofs.Carried.{carried-number, carried_idempotent, image_carried_back}
use Rattle.space_groups.proofs.Regions.{shift_in}
use Rattle.space_groups.proofs.Divided.{mean_exists}
use Rattle.space_groups.proofs.Sites.{site, sites, site_is, site_distinct}
use Rattle.space_groups.proofs.SiteLists.{one_length, site_closed, site_list}
use Rattle.space_groups.proofs.Orbits.{orbit, site_times_orbit}
use Rattle.space_groups.proofs.OrbitLists.{orbit_points, orbit_list, orbit_count}
use Rattle.space_groups.proofs.Points.{scaled_of, image_of}
use Rattle.space_groups.proofs.Laws.{some_orbit}
use Rattle.space_groups.proofs.Rows.{some_members, lies_moved}
use Rattle.space_groups.proofs.PointKeys.{point_key, special_key, point_key_once, fits_own_key}
use Rattle.row_lists.proofs.SomeKey.{some_key}

-- products with one value: where the first factors are equal, so are the second, and the other way round
some_factor : (a b n : ℕ) → a * b ≡ n → 0 < n → 0 < a
some_factor zero b n e p = omega arith
some_factor (suc a) b n e p = omega arith

other_factor : (a b c d n : ℕ) → 0 < n → a * c ≡ n → b * d ≡ n → a ≡ b → c ≡ d
other_factor a b c d n some p q e = cover.same_factor a c d (some_factor a c n p some) (p ∙ sym q ∙ ap (λ k. k * d) (sym e))

first_factor : (a b c d n : ℕ) → 0 < n → a * c ≡ n → b * d ≡ n → c ≡ d → a ≡ b
first_factor a b c d n some p q e = other_factor c d a b n some (mul_comm c a ∙ p) (mul_comm d b ∙ q) e

module _ (L : SpaceGroup) where
  open L use {unit, some, members, closed}

  -- ---- conjugate groups

  -- some image of y has exactly the site-symmetry group of z
  abbrev pub HasGroupOf : ScaledPoint → ScaledPoint → Type 0
  HasGroupOf y z = (g : Map) × IsElement unit members g × ((e : Map) → Contains (site L (moved g y)) e ↔ Contains (site L z) e)

  pub group_from_conjugate : (y z : ScaledPoint) → conjugates.Conjugate (space L) (on_points L) y z → HasGroupOf y z
  group_from_conjugate y z c =
      let r = (conjugates.conjugate_by_image (space L) (on_points L) y z).0 c in
      let there : ScaledPoint = moved r.0 y in
      (r.0, r.1, λ e. ((λ c. let s = (site_is L there e).0 c in (site_is L z e).1 ((r.2 e s.0).0 s)), (λ c. let s = (site_is L z e).0 c in (site_is L there e).1 ((r.2 e s.0).1 s))))

  pub conjugate_from_group : (y z : ScaledPoint) → HasGroupOf y z → conjugates.Conjugate (space L) (on_points L) y z
  conjugate_from_group y z r =
      (conjugates.conjugate_by_image (space L) (on_points L) y z).1 (
        r.0,
        r.1,
        λ t m. ((λ s. (site_is L z t).0 ((r.2 t).0 ((site_is L (moved r.0 y) t).1 s))), (λ s. (site_is L (moved r.0 y) t).0 ((r.2 t).1 ((site_is L z t).1 s)))),
      )

  -- points with conjugate groups have orbits of one size
  orbit_length : (y z : ScaledPoint) → HasGroupOf y z → length (orbit L y) ≡ length (orbit L z)
  orbit_length y z r =
      let s : length (site L y) ≡ length (site L z) = sym (cover.site_length (sites L) r.0 y r.1) ∙ one_length (site L (moved r.0 y)) (site L z) (site_distinct L (moved r.0 y)) (site_distinct L z) r.2 in
      other_factor (length (site L y)) (length (site L z)) (length (orbit L y)) (length (orbit L z)) (length members) (some_members L) (site_times_orbit L y) (site_times_orbit L z) s

  -- ---- the key of a point is that of the average over its group

  abbrev pub site_average : ScaledPoint → Averaged L (length members)
  site_average y = let a = mean_exists L (site L y) (site_closed L y) in record { some = some_members L; list = site L y; closed = site_closed L y; average = a.0; is_mean = a.1 }

  average_key : (y : ScaledPoint) → (p : Key) × IsKey unit members (length members) (site_average y).average p
  average_key y = some_key L (length members) (some_members L) (site_average y).average (means.number (site_average y))

  key_of_average : (x : Point) (y : ScaledPoint) (p : Key) → IsPoint x → x ≈ point_of unit y → IsKey unit members (length members) (site_average y).average p → IsPointKey unit members x p
  key_of_average x y p h e k = special_key L x (site_average y).average p h (record { site = site L y; is_site = site_list L x y h e; mean = (site_average y).is_mean }) k

  average_has_key : (x : Point) (y : ScaledPoint) (p : Key) → IsPoint x → x ≈ point_of unit y → IsPointKey unit members x p → IsKey unit members (length members) (site_average y).average p
  average_has_key x y p h e k =
      let a = average_key y in
      subst (λ q. IsKey unit members (length members) (site_average y).average q) (point_key_once L x a.0 p (key_of_average x y a.0 h e a.1) k) a.1

  -- ---- the row of a point

  pub some_row : (x : Point) → IsPoint x → (row : Row) × IsRowOf unit members x row
  some_row x h =
      let y = scaled_of unit some x h in
      let k = average_key y.0 in
      let o = some_orbit L x h in
      (record { mult = length o.0; key = k.0 }, record { key = key_of_average x y.0 k.0 h y.1 k.1; orbit = o.0; is_orbit = o.1; as_many = refl })

  -- a point fits its row
  pub fits_row : (x : Point) (row : Row) → IsPoint x → IsRowOf unit members x row → Fits unit members row x
  fits_row x row h r = subst (λ n. Fits unit members (record { mult = n; key = row.key }) x) r.as_many (fits_own_key L x row.key r.orbit h r.key r.is_orbit)

  -- ---- the row of two points, x and x', which are y and z

  module _ (x x' : Point) (y z : ScaledPoint) (h : IsPoint x) (h' : IsPoint x') (e : x ≈ point_of unit y) (e' : x' ≈ point_of unit z) (row : Row) (is_row : IsRowOf unit members x' row) where
    -- where their groups are conjugate, the row of the one is that of the other
    pub row_along : HasGroupOf y z → IsRowOf unit members x row
    row_along r = record {
      key = point_key L x y h e r.0 r.1 (site L z) (site_closed L z) r.2 (site_average z).average (site_average z).is_mean row.key (average_has_key x' z row.key h' e' is_row.key);
      orbit = orbit_points L y;
      is_orbit = orbit_list L x y h e;
      as_many = length-map (orbit L y) (point_of unit) ∙ orbit_length y z r ∙ sym (orbit_count L x' z is_row.orbit h' e' is_row.is_orbit) ∙ is_row.as_many;
    }

    module _ (fits : Fits unit members row x) where
      key : IsKey unit members (length members) (site_average z).average row.key
      key = average_has_key x' z row.key h' e' is_row.key

      -- some image of y lies in the image of the average over the group of z
      inside : (g : Map) × IsElement unit members g × IsInImage (site_average z).average (moved g y)
      inside =
          let n = length members in
          let v = site_average z in
          let a : Block = v.average in
          let g : Map = key.by in
          let u : ScaledPoint = moved fits.by y in
          let l = fits.lies in
          let lies : Lies unit n row.key (point_of unit u) = record {
            at = l.at;
            is_point = l.is_point;
            whole = l.whole;
            equal = ≈_trans (point_of unit u) (image unit fits.by x) (row_point unit n row.key l.at l.whole) (IsPoint-image unit some fits.by x h) (≈_sym (image unit fits.by x) (point_of unit u) (image_of L x y fits.by e)) l.equal;
          } in
          let s = lies_moved L (carried g a) row.key u (carried-number g a ∙ means.number v) (carried_idempotent L g a key.element (means.idempotent_itself v)) key.gives lies in
          let w : Map = shift_by unit s.0 in
          let i = (space L).inv_in g key.element in
          let j = (space L).mul_in w fits.by (shift_in L s.0) fits.element in
          let there : moved g (moved (undo g) (moved w u)) ≡ moved w u = conjugates.act_there (space L) (on_points L) g (moved w u) key.element in
          let is : moved (undo g ∘ (w ∘ fits.by)) y ≡ moved (undo g) (moved w u) = moved-∘ (undo g) (w ∘ fits.by) y ∙ ap (moved (undo g)) (moved-∘ w fits.by y) in (
            undo g ∘ (w ∘ fits.by),
            (space L).mul_in (undo g) (w ∘ fits.by) i j,
            subst (IsInImage a) (sym is) (image_carried_back L g a (moved (undo g) (moved w u)) key.element (subst (IsInImage (carried g a)) (sym there) s.1)),
          )

      -- so a point that fits the row has a conjugate group
      pub group_from_fits : HasGroupOf y z
      group_from_fits =
          let g : Map = inside.0 in
          let into : (s : Map) → Contains (site L z) s → Contains (site L (moved g y)) s = λ s c. (site_is L (moved g y) s).1 (((site_is L z s).0 c).0, means.image_fixed (site_average z) (moved g y) inside.2 s c) in
          let same : length (orbit L y) ≡ length (orbit L z) = sym (orbit_count L x y fits.orbit h e fits.is_orbit) ∙ fits.as_many ∙ sym is_row.as_many ∙ orbit_count L x' z is_row.orbit h' e' is_row.is_orbit in
          let sizes : length (site L y) ≡ length (site L z) = first_factor (length (site L y)) (length (site L z)) (length (orbit L y)) (length (orbit L z)) (length members) (some_members L) (site_times_orbit L y) (site_times_orbit L z) same in
          let short : length (site L (moved g y)) ≤ length (site L z) = omega (arith, cover.site_length (sites L) g y inside.1, sizes) in
          (g, inside.1, λ s. ((λ c. lists.onto map_eq map_eq-is (site L z) (site L (moved g y)) (site_distinct L z) into short s c), (λ c. into s c)))
