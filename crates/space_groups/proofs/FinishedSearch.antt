-- A finished search has kept a group for each point, up to conjugation: so the rows of its sets are the row list.
use Rattle.std.proofs.Common.{◌≡◌, [], ℕ, ◌*◌, ◌<◌, ◌↔◌, List, length, Contains, ap, sym, ◌∙◌, refl, subst, arith, ⊎_elim}
use Rattle.std.proofs.lemmas.List.{length-map}
use Rattle.std.proofs.lemmas.List.Elements.{All-contains}
use Rattle.std.proofs.lemmas.Map.Made.{AllPairs-from_IsDistinct}
use Rattle.lattice_algebra.specs.Operator.{HasEntriesWithin}
use Rattle.lattice_algebra.specs.Point.{Point, IsPoint, ◌≈◌}
use Rattle.lattice_algebra.specs.Map.{Map, identity_map, operator_of}
use Rattle.lattice_algebra.proofs.Maps.{map_eq-is}
use Rattle.finite_groups.proofs.Members as lists
use Rattle.finite_groups.proofs.Cover as cover
use Rattle.space_groups.specs.Space.{IsElement, ScaledPoint, moved, point_of}
use Rattle.space_groups.specs.Averages.{Block, IsMean, IsInImage}
use Rattle.space_groups.specs.Rows.{Row, IsRowOf, IsRowList}
use Rattle.space_groups.specs.Search.{IsSub, FixAll, IsFull, Kept, IsKept, IsDone, row_of, IsSearch}
use Rattle.space_groups.proofs.ScaledPoints.{moved-identity}
use Rattle.space_groups.proofs.Elements.{SpaceGroup, space, on_points}
use Rattle.space_groups.proofs.Means as means
use Rattle.space_groups.proofs.Means.{Averaged}
use Rattle.space_groups.proofs.Generic.{mean_within, generic}
use Rattle.space_groups.proofs.Keys.{same_key_same_image}
use Rattle.space_groups.proofs.Sites.{site, sites, site_is, full, full_of, full_own}
use Rattle.space_groups.proofs.Orbits.{orbit, site_times_orbit}
use Rattle.space_groups.proofs.OrbitLists.{orbit_points, orbit_list}
use Rattle.space_groups.proofs.Points.{IsPoint-scaled, scaled_of}
use Rattle.space_groups.proofs.Growing.{closed_sub}
use Rattle.space_groups.proofs.Rows.{AreNarrow, some_members}
use Rattle.space_groups.proofs.PointKeys.{point_key, one_row}

module _ (L : SpaceGroup) where
  open L use {unit, some, members, closed}

  -- the full list of an average is full
  full_list : {n : ℕ} (m : Averaged L n) → IsFull unit members m.average (full L m)
  full_list m = record {
    exactly = λ e.
        let k = full_own L m e in
        let f = means.full_exactly m e in
        ((λ c. ((k.0 c).0, f.0 (k.0 c).1)), (λ p. k.1 (p.0, f.1 p.1)));
    once = AllPairs-from_IsDistinct map_eq-is (full L m) (full_of L m).closed.distinct;
  }

  module _ (narrow : AreNarrow members) (kept : List Kept) (rows : List Row) (search : IsSearch unit members kept rows) where
    narrow_element : (e : Map) → IsElement unit members e → HasEntriesWithin 2 e.w
    unfolding operator_of
    narrow_element e m = narrow (operator_of unit e) m

    -- ---- the kept sets

    abbrev K : Type 0
    K = (k : Kept) × Contains kept k

    is_kept : (k : K) → IsKept unit members k.0
    is_kept k = All-contains (IsKept unit members) kept k.0 search.all k.1

    abbrev averaged : (list : List Map) (a : Block) → IsSub unit members list → IsMean (length members) list a → Averaged L (length members)
    averaged list a s m = record { some = some_members L; list = list; closed = closed_sub L list s; average = a; is_mean = m }

    abbrev set : K → Averaged L (length members)
    set k = averaged k.0.set k.0.average (is_kept k).sub (is_kept k).mean

    abbrev InImage : K → ScaledPoint → Type 0
    InImage k y = IsInImage k.0.average y

    -- the elements that fix all of the image
    abbrev all_of : K → List Map
    all_of k = full L (set k)

    fixed_by : (k : K) (y : ScaledPoint) → InImage k y ↔ FixAll k.0.set y
    fixed_by k y = ((λ i e c. means.image_fixed (set k) y i e c), (λ h. means.fixed_image (set k) y h))

    generic_point : (k : K) → (y : ScaledPoint) × InImage k y × ((e : Map) → IsElement unit members e → moved e y ≡ y → Contains (all_of k) e)
    generic_point k =
        let m = set k in
        let within = mean_within (length members) m.list m.average (means.some_members m) m.is_mean (λ e c. narrow_element e (All-contains (IsElement unit members) m.list e m.closed.valid c)) in
        let g = generic (length members) m.some m.average (means.number m) (means.idempotent_itself m) within in
        (g.0, g.1, λ e i f. (full_own L m e).1 (i, g.2 e (narrow_element e i) f))

    grown : (k : K) (y : ScaledPoint) → InImage k y → (e : Map) → IsElement unit members e → moved e y ≡ y
        → (t : K) × (h : Map) × IsElement unit members h × ((z : ScaledPoint) → (InImage k z × (moved e z ≡ z)) ↔ InImage t (moved h z))
    grown k y i e inside fix =
        let r = All-contains (IsDone unit members kept) kept k.0 search.done k.1 e inside y ((fixed_by k y).0 i) fix in
        let t : K = (r.0, r.1) in
        let g = r.2 in
        let m = averaged g.list g.average g.sub g.mean in
        let h = (same_key_same_image L (full_of L m) (full_of L (set t)) r.0.key r.0.key (full_own L m) (full_own L (set t)) g.key (is_kept t).key).0 refl in (
          t,
          h.0,
          h.1,
          λ z. (
            (λ p. (h.2 z).0 (means.fixed_image m z ((g.fixes z).1 ((fixed_by k z).0 p.0, p.1)))),
            (λ q. let s = (g.fixes z).0 (λ e c. means.image_fixed m z ((h.2 z).1 q) e c) in ((fixed_by k z).1 s.0, s.1)),
          ),
        )

    abbrev first : K
    first = (search.trivial.0, search.trivial.1)

    all_points : (y : ScaledPoint) → InImage first y
    all_points y = (fixed_by first y).1 (λ e c. ⊎_elim (λ q. subst (λ v. moved v y ≡ y) q (moved-identity y)) (λ d. lists.not_in_nil e d) (lists.Contains-cases e identity_map [] (subst (λ v. Contains v e) search.trivial.2 c)))

    abbrev found : cover.Cover (space L) (on_points L)
    found = record {
      sites = sites L;
      K = K;
      In = InImage;
      full = all_of;
      distinct = λ k. (full_of L (set k)).closed.distinct;
      fixes = λ k e c. let r = (full_own L (set k) e).0 c in (r.0, λ y i. means.image_fixed (full_of L (set k)) y i e c);
      all = λ k e m h. (full_own L (set k) e).1 (m, (means.full_exactly (set k) e).1 h);
      generic = generic_point;
      grows = grown;
      first = first;
      everywhere = all_points;
    }

    -- ---- the rows

    some_site : (y : ScaledPoint) → 0 < length (site L y)
    some_site y = omega (arith, ((site_is L y identity_map).1 ((space L).one_in, moved-identity y)).1)

    -- the row of a kept set is that of each point of which some image has the group of the set
    row_of_kept : (k : K) (x : Point) (y : ScaledPoint) → IsPoint x → x ≈ point_of unit y → cover.HasGroup found k y → IsRowOf unit members x (row_of k.0)
    row_of_kept k x y p e g =
        let o = full_of L (set k) in
        let many : length (all_of k) * k.0.mult ≡ length members = (is_kept k).mult (all_of k) (full_list (set k)) in
        let as_many = site_times_orbit L y ∙ sym many ∙ ap (λ n. n * k.0.mult) (sym (cover.group_length found k y g)) in
        record {
          key = point_key L x y p e g.0 g.1 (all_of k) o.closed g.2 o.average o.is_mean k.0.key (is_kept k).key;
          orbit = orbit_points L y;
          is_orbit = orbit_list L x y p e;
          as_many = length-map (orbit L y) (point_of unit) ∙ cover.same_factor (length (site L y)) (length (orbit L y)) k.0.mult (some_site y) as_many;
        }

    pub search_row_list : IsRowList unit members rows
    search_row_list = record {
      each = λ row. (
        (λ c.
            let r = (search.rows_are row).0 c in
            let k : K = (r.0, r.1) in
            let f = cover.point_of_group found k in
            let x = point_of unit f.0 in
            let p = IsPoint-scaled unit some f.0 in
            (x, p, subst (IsRowOf unit members x) r.2 (row_of_kept k x f.0 p refl f.1))),
        (λ r.
            let y = scaled_of unit some r.0 r.1 in
            let f = cover.group_of_point found y.0 in
            let k : K = f.0 in
            (search.rows_are row).1 (k.0, k.1, one_row L r.0 (row_of k.0) row r.1 (row_of_kept k r.0 y.0 r.1 y.1 f.1) r.2)),
      );
      ordered = search.ordered;
    }
