-- Which elements a search need not try: what they generate with a kept set has the key of what another element generates with it.
use Rattle.std.proofs.Common.{All, AllPairs, ◌≢◌, ◌∷◌, ◌≡◌, ◌↔◌, List, length, pos, ◌<ℤ◌, Contains, sym, subst}
use Rattle.std.proofs.lemmas.List.Elements.{All-cons}
use Rattle.std.proofs.lemmas.Map.Made.{IsDistinct-from_AllPairs}
use Rattle.lattice_algebra.specs.Matrix.{no_matrix}
use Rattle.lattice_algebra.specs.Map.{Map}
use Rattle.lattice_algebra.proofs.Numbers.{above}
use Rattle.lattice_algebra.proofs.Maps.{map_eq-is}
use Rattle.finite_groups.specs.Words.{Span}
use Rattle.finite_groups.proofs.Closing as closing
use Rattle.space_groups.specs.Space.{IsElement, ScaledPoint, moved}
use Rattle.space_groups.specs.Averages.{Block, IsMean, IsInImage}
use Rattle.space_groups.specs.Intervals.{differences}
use Rattle.space_groups.specs.Keys.{Key, IsKey}
use Rattle.space_groups.specs.Search.{FixAll, IsFull, Kept, IsKept, IsGrown}
use Rattle.space_groups.proofs.Elements.{SpaceGroup, space}
use Rattle.space_groups.proofs.Means as means
use Rattle.space_groups.proofs.Means.{Averaged}
use Rattle.space_groups.proofs.Intervals.{fixes_along}
use Rattle.space_groups.proofs.Growing.{closed_sub, sub_closed, generated_fixes}
use Rattle.space_groups.proofs.SiteLists.{one_length}
use Rattle.space_groups.proofs.Rows.{some_members}

module _ (L : SpaceGroup) where
  open L use {unit, some, members, closed}

  -- a kept set with its average
  abbrev pub kept_average : (k : Kept) → IsKept unit members k → Averaged L (length members)
  kept_average k h = record { some = some_members L; list = k.set; closed = closed_sub L k.set h.sub; average = k.average; is_mean = h.mean }

  -- its image is what it fixes
  pub kept_image : (k : Kept) → IsKept unit members k → (y : ScaledPoint) → IsInImage k.average y ↔ FixAll k.set y
  kept_image k h y = ((λ i e c. means.image_fixed (kept_average k h) y i e c), (λ f. means.fixed_image (kept_average k h) y f))

  -- what k and e generate: a list of all values of words in e and elements that fix the points that k fixes, as the members of k do
  pub grown_span : (k : Kept) (e : Map) (gens list : List Map) (a : Block) (p : Key) → IsElement unit members e → All (IsElement unit members) gens → ((z : ScaledPoint) → FixAll gens z ↔ FixAll k.set z)
      → AllPairs (λ x y. x ≢ y) list → ((x : Map) → Contains list x ↔ Span (space L) (e ∷ gens) x) → IsMean (length members) list a → IsKey unit members (length members) a p → IsGrown unit members k e p
  grown_span k e gens list a p m valid alike once same mean key =
      let all = All-cons (IsElement unit members) e gens m valid in
      let fixes : (z : ScaledPoint) → FixAll list z ↔ (FixAll gens z × (moved e z ≡ z)) = generated_fixes L gens list e all same in
      record {
        list = list;
        sub = sub_closed L list (closing.closed_from_span (space L) (e ∷ gens) list all (IsDistinct-from_AllPairs map_eq-is list once) same);
        fixes = λ z. ((λ f. let r = (fixes z).0 f in ((alike z).0 r.0, r.1)), (λ r. (fixes z).1 ((alike z).1 r.0, r.1)));
        average = a;
        mean = mean;
        key = key;
      }

  -- ---- the elements that fix the whole image

  -- all lists of them are as long
  pub full_length : (a : Block) (xs ys : List Map) → IsFull unit members a xs → IsFull unit members a ys → length xs ≡ length ys
  full_length a xs ys p q =
      one_length xs ys (IsDistinct-from_AllPairs map_eq-is xs p.once) (IsDistinct-from_AllPairs map_eq-is ys q.once) (λ e. ((λ c. (q.exactly e).1 ((p.exactly e).0 c)), (λ c. (p.exactly e).1 ((q.exactly e).0 c))))

  -- ---- elements that fix the same points

  -- an element that fixes all that k fixes adds nothing: the key is that of k
  pub grown_nothing : (k : Kept) (e : Map) → IsKept unit members k → ((z : ScaledPoint) → FixAll k.set z → moved e z ≡ z) → IsGrown unit members k e k.key
  grown_nothing k e h fix = record {
    list = k.set;
    sub = h.sub;
    fixes = λ z. ((λ f. (f, fix z f)), (λ r. r.0));
    average = k.average;
    mean = h.mean;
    key = h.key;
  }

  -- so does one of an operator W with (I - W) M = 0
  pub grown_along : (k : Kept) (e : Map) (y : ScaledPoint) → IsKept unit members k → differences e.w k.average.m ≡ no_matrix → FixAll k.set y → moved e y ≡ y → IsGrown unit members k e k.key
  grown_along k e y h none f fix =
      let a = kept_average k h in
      let p : pos 0 <ℤ k.average.n = subst (λ v. pos 0 <ℤ v) (sym (means.number a)) (above (length members) (some_members L)) in
      grown_nothing k e h (λ z g. fixes_along k.average e y z p none ((kept_image k h y).1 f) ((kept_image k h z).1 g) fix)
  -- ---- moves that leave the average as it is
  -- ---- averages that were met before
