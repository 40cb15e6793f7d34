-- The key of a point is that of the average over its site-symmetry group, and with the number of its images it is the row of the point.
use Rattle.std.proofs.Common.{◌≡◌, ℕ, ◌<◌, ◌↔◌, List, length, map, pos, Contains, ap, sym, ◌∙◌, refl, subst, arith}
use Rattle.std.specs.List.{IsDistinct}
use Rattle.std.proofs.lemmas.List.{length-map}
use Rattle.std.proofs.lemmas.List.Elements.{All-contains}
use Rattle.std.proofs.lemmas.Map.Made.{IsDistinct-from_AllPairs}
use Rattle.lattice_algebra.specs.Point.{Point, IsPoint, ◌≈◌, image}
use Rattle.lattice_algebra.specs.Map.{Map, ◌∘◌, identity_map, undo}
use Rattle.lattice_algebra.proofs.Maps.{map_eq, map_eq-is}
use Rattle.lattice_algebra.proofs.Points.{≈_trans, IsPoint-image}
use Rattle.lattice_algebra.proofs.Numbers.{above}
use Rattle.finite_groups.specs.Words.{IsClosedList}
use Rattle.finite_groups.proofs.Members as lists
use Rattle.finite_groups.proofs.Totals.{total-same}
use Rattle.finite_groups.proofs.Conjugates as conjugates
use Rattle.space_groups.specs.Space.{IsElement, ScaledPoint, moved, point_of}
use Rattle.space_groups.specs.Averages.{IsInImage, Block, block_of, block_scaled, sum_of, IsMean}
use Rattle.space_groups.specs.Keys.{carried, Key, key_of, IsKey, ComesBefore}
use Rattle.space_groups.specs.Rows.{row_point, Row, Fits, IsSpecial, IsPointKey, IsRowOf}
use Rattle.space_groups.specs.Lists.{IsOrbitList}
use Rattle.space_groups.proofs.ScaledPoints.{moved-∘, moved-identity}
use Rattle.space_groups.proofs.Blocks.{block_sums, cancel_block}
use Rattle.space_groups.proofs.Elements.{SpaceGroup, space, on_points}
use Rattle.space_groups.proofs.Means as means
use Rattle.space_groups.proofs.Means.{Averaged, sum_is}
use Rattle.space_groups.proofs.CarriedLists.{turned, carried_mean, turned_distinct}
use Rattle.space_groups.proofs.Divided.{mean_exists}
use Rattle.space_groups.proofs.Sites.{site, site_is, site_distinct}
use Rattle.space_groups.proofs.SiteLists.{one_length, site_closed, site_list}
use Rattle.space_groups.proofs.OrbitLists.{orbit_count}
use Rattle.space_groups.proofs.Keys.{one_of}
use Rattle.space_groups.proofs.Points.{IsPoint-scaled, image_of, scaled_of, site-scaled}
use Rattle.space_groups.proofs.Rows.{some_members, image_lies}

-- lists that have the same maps, each once, have the same average
pub mean_once : (n : ℕ) (xs ys : List Map) (a b : Block) → IsDistinct map_eq xs → IsDistinct map_eq ys → ((e : Map) → Contains xs e ↔ Contains ys e) → 0 < length xs → IsMean n xs a → IsMean n ys b → a ≡ b
mean_once n xs ys a b d d' same some p q =
    let l : length xs ≡ length ys = one_length xs ys d d' same in
    let s : sum_of xs ≡ sum_of ys = sum_is xs ∙ total-same block_sums map_eq map_eq-is block_of xs ys d d' same ∙ sym (sum_is ys) in
    cancel_block (pos (length xs)) a b (above (length xs) some) (p ∙ ap (block_scaled (pos n)) s ∙ sym q ∙ ap (λ k. block_scaled (pos k) b) (sym l))

module _ (L : SpaceGroup) where
  open L use {unit, some, members, closed}

  special_is : (x : Point) (y : ScaledPoint) (a : Block) → IsPoint x → x ≈ point_of unit y → IsSpecial unit members x a → IsMean (length members) (site L y) a
  special_is x y a p e s =
      let m = mean_exists L (site L y) (site_closed L y) in
      let same : (g : Map) → Contains (site L y) g ↔ Contains s.site g = λ g. let b = site-scaled L x y p e g in ((λ c. (s.is_site.exactly g).1 (b.1 ((site_is L y g).0 c))), (λ c. (site_is L y g).1 (b.0 ((s.is_site.exactly g).0 c)))) in
      subst (IsMean (length members) (site L y)) (mean_once (length members) (site L y) s.site m.0 a (site_distinct L y) (IsDistinct-from_AllPairs map_eq-is s.site s.is_site.once) same (omega (arith, (site_closed L y).has_one.1)) m.1 s.mean) m.1

  -- where the group of y is fs, that of h y is h fs h^-1
  pub turned_site : (h : Map) (y : ScaledPoint) (fs : List Map) → IsElement unit members h → ((e : Map) → Contains (site L y) e ↔ Contains fs e) → (e : Map) → Contains (map (turned h) fs) e ↔ Contains (site L (moved h y)) e
  turned_site h y fs m same e = (
    (λ c.
        let r = lists.Contains-from_map (turned h) e fs c in
        let s = (site_is L y r.0).0 ((same r.0).1 r.1) in
        subst (Contains (site L (moved h y))) r.2 ((site_is L (moved h y) (turned h r.0)).1 ((conjugates.site_moved (space L) (on_points L) h r.0 y m s.0).0 s))),
    (λ c.
        let s = conjugates.site_onto (space L) (on_points L) h e y m ((site_is L (moved h y) e).0 c) in
        subst (Contains (map (turned h) fs)) s.2 (lists.Contains-map (turned h) s.0 fs ((same s.0).0 ((site_is L y s.0).1 s.1)))),
  )

  -- the average of the group of h y is the carried average of the group of y
  pub special_moved : (h : Map) (y : ScaledPoint) (fs : List Map) (a b : Block) → IsElement unit members h → ((e : Map) → Contains (site L y) e ↔ Contains fs e) → IsClosedList (space L) fs → IsMean (length members) fs a → IsMean (length members) (site L (moved h y)) b → carried h a ≡ b
  special_moved h y fs a b m same c p q =
      mean_once (length members) (map (turned h) fs) (site L (moved h y)) (carried h a) b
      (turned_distinct L h fs m (λ e d. All-contains (IsElement unit members) fs e c.valid d) c.distinct)
      (site_distinct L (moved h y)) (turned_site h y fs m same) (omega (arith, c.has_one.1, length-map fs (turned h))) (carried_mean h (length members) fs a p) q

  -- where the group of some image of x is fs, the key of the average of fs is the key of x
  pub point_key : (x : Point) (y : ScaledPoint) → IsPoint x → x ≈ point_of unit y → (g : Map) → IsElement unit members g → (fs : List Map) → IsClosedList (space L) fs → ((e : Map) → Contains (site L (moved g y)) e ↔ Contains fs e)
      → (avg : Block) → IsMean (length members) fs avg → (q : Key) → IsKey unit members (length members) avg q → IsPointKey unit members x q
  point_key x y p e g n fs closed same avg mean q key =
      let z : ScaledPoint = moved g y in
      let i : IsElement unit members (undo g) = (space L).inv_in g n in
      -- the average of the group of the image by h
      let at : (h : Map) (b : Block) → IsElement unit members h → IsSpecial unit members (image unit h x) b → carried (h ∘ undo g) avg ≡ b =
      λ h b m s.
      let there : moved (h ∘ undo g) z ≡ moved h y = moved-∘ h (undo g) z ∙ ap (moved h) (conjugates.act_back (space L) (on_points L) g y n) in
      special_moved (h ∘ undo g) z fs avg b ((space L).mul_in h (undo g) m i) same closed mean
      (subst (λ v. IsMean (length members) (site L v) b) (sym there) (special_is (image unit h x) (moved h y) b (IsPoint-image unit some h x p) (image_of L x y h e) s)) in
      let h : Map = key.by ∘ g in
      let m : IsElement unit members h = (space L).mul_in key.by g key.element n in
      let b = mean_exists L (site L (moved h y)) (site_closed L (moved h y)) in
      let s : IsSpecial unit members (image unit h x) b.0 = record { site = site L (moved h y); is_site = site_list L (image unit h x) (moved h y) (IsPoint-image unit some h x p) (image_of L x y h e); mean = b.1 } in
      let here : carried key.by avg ≡ b.0 = special_moved key.by z fs avg b.0 key.element same closed mean (subst (λ v. IsMean (length members) (site L v) b.0) (moved-∘ key.by g y) b.1) in
      record {
        by = h;
        element = m;
        special = b.0;
        is_special = s;
        gives = ap (key_of unit (length members)) (sym here) ∙ key.gives;
        first = λ h' b' m' s' l. key.first (h' ∘ undo g) ((space L).mul_in h' (undo g) m' i) (subst (λ v. ComesBefore (key_of unit (length members) v) q) (sym (at h' b' m' s')) l);
      }

  -- so the key of the special-position operator of a point is the key of the point
  pub special_key : (x : Point) (a : Block) (q : Key) → IsPoint x → IsSpecial unit members x a → IsKey unit members (length members) a q → IsPointKey unit members x q
  special_key x a q p s k =
      let y = scaled_of unit some x p in
      let z : ScaledPoint = moved identity_map y.0 in
      point_key x y.0 p y.1 identity_map (space L).one_in (site L z) (site_closed L z) (λ e. ((λ c. c), (λ c. c))) a
      (subst (λ v. IsMean (length members) (site L v) a) (sym (moved-identity y.0)) (special_is x y.0 a p y.1 s)) q k

  -- a point has one key
  pub point_key_once : (x : Point) (p q : Key) → IsPointKey unit members x p → IsPointKey unit members x q → p ≡ q
  point_key_once x p q f g = one_of p q
      (λ l. g.first f.by f.special f.element f.is_special (subst (λ v. ComesBefore v q) (sym f.gives) l))
      (λ l. f.first g.by g.special g.element g.is_special (subst (λ v. ComesBefore v p) (sym g.gives) l))

  -- and one row
  pub one_row : (x : Point) (a b : Row) → IsPoint x → IsRowOf unit members x a → IsRowOf unit members x b → a ≡ b
  one_row x a b h r s =
      let y = scaled_of unit some x h in
      let m : a.mult ≡ b.mult = sym r.as_many ∙ orbit_count L x y.0 r.orbit h y.1 r.is_orbit ∙ sym (orbit_count L x y.0 s.orbit h y.1 s.is_orbit) ∙ s.as_many in
      let k : a.key ≡ b.key = point_key_once x a.key b.key r.key s.key in
      λ i. record { mult = m i; key = k i }

  -- a point fits the row of its own key and number of images: so the row of a point is found by its key
  pub fits_own_key : (x : Point) (p : Key) (list : List Point) → IsPoint x → IsPointKey unit members x p → IsOrbitList unit members x list → Fits unit members (record { mult = length list; key = p }) x
  fits_own_key x p list h k o =
      let y = scaled_of unit some x h in
      let g : Map = k.by in
      let z : ScaledPoint = moved g y.0 in
      let gx = image unit g x in
      let e : gx ≈ point_of unit z = image_of L x y.0 g y.1 in
      let a = k.special in
      let mean : IsMean (length members) (site L z) a = special_is gx z a (IsPoint-image unit some g x h) e k.is_special in
      let m : Averaged L (length members) = record { some = some_members L; list = site L z; closed = site_closed L z; average = a; is_mean = mean } in
      let inside : IsInImage a z = means.fixed_image m z (λ s c. ((site_is L z s).0 c).1) in
      let lies = image_lies L a p z (means.number m) k.gives inside in
      record {
        by = g;
        element = k.element;
        lies = record { at = lies.at; is_point = lies.is_point; whole = lies.whole; equal = ≈_trans gx (point_of unit z) (row_point unit (length members) p lies.at lies.whole) (IsPoint-scaled unit some z) e lies.equal };
        orbit = list;
        is_orbit = o;
        as_many = refl;
      }
