-- The site-symmetry group of a rational point, as a list: it is a group, and all such lists have one length.
use Rattle.std.proofs.Common.{◌≡◌, ◌≤◌, ◌↔◌, List, length, get_or, Contains, ap, ◌∙◌, arith}
use Rattle.std.specs.List.{IsDistinct}
use Rattle.std.proofs.lemmas.List.Elements.{Contains-get_or}
use Rattle.std.proofs.lemmas.Map.Made.{AllPairs-from_IsDistinct, IsDistinct-from_AllPairs}
use Rattle.lattice_algebra.specs.Point.{Point, IsPoint, ◌≈◌}
use Rattle.lattice_algebra.specs.Map.{Map, ◌∘◌, identity_map}
use Rattle.lattice_algebra.proofs.Maps.{map_eq, map_eq-is}
use Rattle.finite_groups.specs.Words.{IsClosedList}
use Rattle.finite_groups.proofs.Members as lists
use Rattle.space_groups.specs.Space.{ScaledPoint, moved, point_of}
use Rattle.space_groups.specs.Lists.{IsSiteList}
use Rattle.space_groups.proofs.ScaledPoints.{moved-∘, moved-identity}
use Rattle.space_groups.proofs.Elements.{SpaceGroup, space}
use Rattle.space_groups.proofs.Sites.{site, site_is, site_distinct}
use Rattle.space_groups.proofs.Points.{site-scaled}

-- lists that have the same maps, each once, have one length
pub one_length : (xs ys : List Map) → IsDistinct map_eq xs → IsDistinct map_eq ys → ((e : Map) → Contains xs e ↔ Contains ys e) → length xs ≡ length ys
one_length xs ys d d' same =
    let le : length xs ≤ length ys = lists.pigeonhole map_eq map_eq-is xs ys d (λ e c. (same e).0 c) in
    let ge : length ys ≤ length xs = lists.pigeonhole map_eq map_eq-is ys xs d' (λ e c. (same e).1 c) in
    omega (arith, le, ge)

module _ (L : SpaceGroup) where
  open L use {unit, some, members, closed}

  pub site_closed : (y : ScaledPoint) → IsClosedList (space L) (site L y)
  site_closed y = record {
    distinct = site_distinct L y;
    valid = λ k d l. ((site_is L y (get_or (site L y) k d)).0 (Contains-get_or (site L y) k d l)).0;
    has_one = (site_is L y identity_map).1 ((space L).one_in, moved-identity y);
    closed = λ e f p q.
        let a = (site_is L y e).0 p in
        let b = (site_is L y f).0 q in
        (site_is L y (e ∘ f)).1 ((space L).mul_in e f a.0 b.0, moved-∘ e f y ∙ ap (moved e) b.1 ∙ a.1);
  }

  -- the list of a point's site-symmetry group is that of its scaled point
  pub site_list : (x : Point) (y : ScaledPoint) → IsPoint x → x ≈ point_of unit y → IsSiteList unit members x (site L y)
  site_list x y p e = record {
    exactly = λ g. let a = site_is L y g in let b = site-scaled L x y p e g in ((λ c. b.1 (a.0 c)), (λ s. a.1 (b.0 s)));
    once = AllPairs-from_IsDistinct map_eq-is (site L y) (site_distinct L y);
  }

  -- all lists of the site-symmetry group are as long
  pub site_count : (x : Point) (y : ScaledPoint) (list : List Map) → IsPoint x → x ≈ point_of unit y → IsSiteList unit members x list → length list ≡ length (site L y)
  site_count x y list p e s =
      let t = site_list x y p e in
      one_length list (site L y) (IsDistinct-from_AllPairs map_eq-is list s.once) (site_distinct L y) (λ g. ((λ c. (t.exactly g).1 ((s.exactly g).0 c)), (λ c. (s.exactly g).1 ((t.exactly g).0 c))))
