-- The sum over the site-symmetry group of a point.
use Rattle.std.proofs.Common.{◌≡◌, ◌++◌, ◌∷◌, [], ◌≤◌, ◌<◌, ◌+◌, ℕ, pos, ◌<ℤ◌, List, length, get_or, ap, sym, ◌∙◌, arith, length-append}
use Rattle.std.proofs.lemmas.Int.{ints}
use Rattle.std.proofs.lemmas.List.Elements.{Contains-get_or}
use Rattle.lattice_algebra.specs.Operator.{Operator}
use Rattle.lattice_algebra.specs.Map.{Map, ◌∘◌, identity_map}
use Rattle.lattice_algebra.specs.Point.{Point, IsPoint}
use Rattle.exact_ops.specs.declared.TheConstants.{UNIT}
use Rattle.exact_ops.proofs.Narrow.{some_parts}
use Rattle.group_closure.specs.declared.TheConstants.{MAX_OPERATORS}
use Rattle.group_closure.specs.GroupList.{IsGroup}
use Rattle.space_groups.specs.Space.{moved}
use Rattle.space_groups.specs.Lists.{IsSiteList}
use Rattle.space_groups.specs.Averages.{Block, block_of, block_plus, sum_of}
use Rattle.space_groups.specs.Search.{IsSub}
use Rattle.space_groups.proofs.Elements.{space}
use Rattle.space_groups.proofs.Points.{scaled_of, site-scaled}
use Rattle.space_groups.proofs.ScaledPoints.{moved-∘, moved-identity}
use Rattle.site_symmetry.proofs.SpaceOfGroup.{space_of}
use Rattle.site_symmetry.proofs.FixingLists.{AreFixing}
use Rattle.affine_sets.proofs.Sums.{sum_push, number_of_sum}

pub site_sub : (members : List Operator) (g : IsGroup members) (x : Point) (p : IsPoint x) (list : List Map) → IsSiteList UNIT members x list → IsSub UNIT members list
site_sub members g x p list s =
    let L = space_of members g in
    let y = scaled_of UNIT some_parts x p in
    record {
      elements = λ k d l. ((s.exactly (get_or list k d)).0 (Contains-get_or list k d l)).element;
      once = s.once;
      identity = (s.exactly identity_map).1 ((site-scaled L x y.0 p y.1 identity_map).1 ((space L).one_in, moved-identity y.0));
      products = λ e f a b.
          let u = (site-scaled L x y.0 p y.1 e).0 ((s.exactly e).0 a) in
          let v = (site-scaled L x y.0 p y.1 f).0 ((s.exactly f).0 b) in
          (s.exactly (e ∘ f)).1 ((site-scaled L x y.0 p y.1 (e ∘ f)).1 ((space L).mul_in e f u.0 v.0, moved-∘ e f y.0 ∙ ap (moved e) v.1 ∙ u.1));
    }

-- the sum over the elements of the first i operators
pub record IsSummed (members : List Operator) (x : Point) (i : ℕ) (a : Block) : Type 0 where
  pub list : List Map
  pub fixing : AreFixing members x i list
  pub sum : a ≡ sum_of list
  pub short : length list ≤ i

pub summed_small : (members : List Operator) (x : Point) (i : ℕ) (a : Block) → IsSummed members x i a → i < length members → length members ≤ MAX_OPERATORS → a.n <ℤ pos MAX_OPERATORS
summed_small members x i a h l w =
    let n : a.n ≡ pos (length h.list) = ap (λ (b : Block). b.n) h.sum ∙ number_of_sum h.list in
    omega (arith, ints, n, h.short)

pub summed_more : (members : List Operator) (x : Point) (i : ℕ) (a b : Block) (e : Map) (h : IsSummed members x i a) → b ≡ block_plus a (block_of e) → AreFixing members x (i + 1) (h.list ++ e ∷ []) → IsSummed members x (i + 1) b
summed_more members x i a b e h p f = record {
  list = h.list ++ e ∷ [];
  fixing = f;
  sum = p ∙ ap (λ v. block_plus v (block_of e)) h.sum ∙ sym (sum_push h.list e);
  short = omega (arith, length-append h.list (e ∷ []), h.short);
}
