-- For each point the list of the elements that fix it, and for each average the list of the elements that leave it as it is.
use Rattle.std.proofs.Common.{◌≡◌, ◌++◌, ◌∷◌, ℕ, ◌<◌, ◌↔◌, List, length, map, filter, Bool, ◌&&◌, Decides, ℤ, pos, ◌<ℤ◌, Contains, ap, sym, ◌∙◌, refl, subst, count_by}
use Rattle.std.specs.List.{IsDistinct}
use Rattle.std.proofs.lemmas.List.Elements.{Contains-get_or, All-contains}
use Rattle.std.proofs.lemmas.List.{length-map}
use Rattle.std.proofs.lemmas.List.Sums.{length-filter}
use Rattle.std.proofs.lemmas.Bool.Decides.{Decides-and}
use Rattle.lattice_algebra.specs.Matrix.{Matrix, Column, entries, coordinates, ◌·ᶜ◌, ◌+ᶜ◌, neg_column, times, identity}
use Rattle.lattice_algebra.specs.Operator.{Operator}
use Rattle.lattice_algebra.specs.Map.{Map, ◌∘◌, identity_map, operator_of}
use Rattle.lattice_algebra.proofs.Ring.{var}
use Rattle.lattice_algebra.proofs.MatrixRing.{matrix_at, column_at, ◌·ˢᶜ◌, ◌+ˢᶜ◌, sym_times, sym_neg, column_ring}
use Rattle.lattice_algebra.proofs.Remainders.{quotients, quotients_of_times}
use Rattle.lattice_algebra.proofs.Equality.{operator_eq, operator_eq-is}
use Rattle.lattice_algebra.proofs.Maps.{map_path, map_eq, map_eq-is}
use Rattle.lattice_algebra.proofs.Operators.{operators}
use Rattle.lattice_algebra.proofs.Numbers.{above}
use Rattle.finite_groups.specs.Words.{IsClosedList}
use Rattle.finite_groups.proofs.Members as lists
use Rattle.finite_groups.proofs.Cover as cover
use Rattle.space_groups.specs.Space.{IsElement, ScaledPoint, moved}
use Rattle.space_groups.specs.Averages.{Block, block_of, block_times, block_scaled, IsInImage}
use Rattle.space_groups.proofs.ScaledPoints.{scaled_path}
use Rattle.space_groups.proofs.Blocks.{block_path, block_of-∘, block_times_assoc, identity_times, number_times}
use Rattle.space_groups.proofs.Elements.{SpaceGroup, space, on_points}
use Rattle.space_groups.proofs.Means as means
use Rattle.space_groups.proofs.Means.{Averaged, Keeps, kept_fixed}
use Rattle.space_groups.proofs.Carried.{IsOwn}

-- ---- the shift

-- the column that d times makes p - W p
abbrev pub shift_for : Matrix → ScaledPoint → Column
shift_for w y = quotients y.d (y.n +ᶜ neg_column (w ·ᶜ y.n))

shift_equation : (w : Matrix) (p s : Column) (d : ℤ) → w ·ᶜ p +ᶜ times d s ≡ p → times d s ≡ p +ᶜ neg_column (w ·ᶜ p)
unfolding ◌·ᶜ◌ ◌+ᶜ◌ times neg_column
shift_equation w p s d e =
    let W = matrix_at 1 in
    let P = column_at 10 in
    let S = column_at 13 in
    column_ring (d ∷ (entries w ++ (coordinates p ++ coordinates s))) (sym_times (var 0) S) (W ·ˢᶜ P +ˢᶜ sym_times (var 0) S +ˢᶜ sym_neg (W ·ˢᶜ P)) tt ∙ ap (λ v. v +ᶜ neg_column (w ·ᶜ p)) e

pub shift_once : (e : Map) (y : ScaledPoint) → moved e y ≡ y → shift_for e.w y ≡ e.s
unfolding moved times
shift_once e y h = ap (quotients y.d) (sym (shift_equation e.w y.n e.s (pos y.d) (ap (λ (v : ScaledPoint). v.n) h))) ∙ quotients_of_times y.d y.some e.s

-- ---- tests

abbrev pub fixes : Map → ScaledPoint → Bool
fixes g y = map_eq (record { w = identity; s = (moved g y).n }) (record { w = identity; s = y.n })

pub fixes-is : (g : Map) (y : ScaledPoint) → Decides (fixes g y) (moved g y ≡ y)
unfolding moved
fixes-is g y =
    let r = map_eq-is (record { w = identity; s = (moved g y).n }) (record { w = identity; s = y.n }) in
    ((λ t. scaled_path (moved g y) y (ap (λ (m : Map). m.s) (r.0 t)) refl), (λ e. r.1 (λ i. record { w = identity; s = (e i).n })))

abbrev pub keeps : Block → Map → Bool
keeps a e = let b = block_times (block_of e) a in map_eq (record { w = b.m; s = b.t }) (record { w = a.m; s = a.t })

pub keeps-is : (a : Block) (e : Map) → Decides (keeps a e) (Keeps a e)
keeps-is a e =
    let b = block_times (block_of e) a in
    let r = map_eq-is (record { w = b.m; s = b.t }) (record { w = a.m; s = a.t }) in
    ((λ t. let q = r.0 t in block_path b a (ap (λ (m : Map). m.w) q) (ap (λ (m : Map). m.s) q) (number_times e a)), (λ q. r.1 (λ i. record { w = (q i).m; s = (q i).t })))

-- the translation of an idempotent block, as a point, lies in the image
pub image_of_base : (a : Block) (n : ℕ) (h : 0 < n) → a.n ≡ pos n → block_times a a ≡ block_scaled a.n a → IsInImage a (record { n = a.t; d = n; some = h })
unfolding block_times block_scaled
image_of_base a n h number two = subst (λ k. a.m ·ᶜ a.t +ᶜ times k a.t ≡ times a.n a.t) number (ap (λ (b : Block). b.t) two)

module _ (L : SpaceGroup) where
  open L use {unit, some, members, closed}

  -- the only map of the operator that can fix y
  abbrev pub fixer : ScaledPoint → Operator → Map
  fixer y f = record { w = f.w; s = shift_for f.w y }

  abbrev pub has_fixer : ScaledPoint → Operator → Bool
  has_fixer y f = fixes (fixer y f) y && operator_eq (operator_of unit (fixer y f)) f

  pub has_fixer-is : (y : ScaledPoint) (f : Operator) → Decides (has_fixer y f) ((moved (fixer y f) y ≡ y) × (operator_of unit (fixer y f) ≡ f))
  has_fixer-is y f = Decides-and (fixes (fixer y f) y) (operator_eq (operator_of unit (fixer y f)) f) (fixes-is (fixer y f) y) (operator_eq-is (operator_of unit (fixer y f)) f _ refl)

  pub site : ScaledPoint → List Map
  site y = map (fixer y) (filter (has_fixer y) members)

  pub fixer_of : (y : ScaledPoint) (e : Map) → moved e y ≡ y → fixer y (operator_of unit e) ≡ e
  unfolding operator_of
  fixer_of y e h = map_path _ e refl (shift_once e y h)

  pub site_is : (y : ScaledPoint) (e : Map) → Contains (site y) e ↔ (IsElement unit members e × (moved e y ≡ y))
  unfolding site
  site_is y e = (
    (λ c.
        let r = lists.Contains-from_map (fixer y) e (filter (has_fixer y) members) c in
        let q = lists.Contains-from_filter (has_fixer y) r.0 members r.1 in
        let t = (has_fixer-is y r.0).0 q.1 in
        (subst (λ v. IsElement unit members v) r.2 (subst (Contains members) (sym t.1) q.0), subst (λ v. moved v y ≡ y) r.2 t.0)),
    (λ p.
        let f : Operator = operator_of unit e in
        let q : fixer y f ≡ e = fixer_of y e p.1 in
        let t = (has_fixer-is y f).1 (subst (λ v. moved v y ≡ y) (sym q) p.1, ap (operator_of unit) q) in
        subst (Contains (site y)) q (lists.Contains-map (fixer y) f (filter (has_fixer y) members) (lists.Contains-filter (has_fixer y) f members p.0 t))),
  )

  pub site_distinct : (y : ScaledPoint) → IsDistinct map_eq (site y)
  unfolding site
  site_distinct y =
      let ok : (f : Operator) → Contains (filter (has_fixer y) members) f → operator_of unit (fixer y f) ≡ f = λ f c. ((has_fixer-is y f).0 (lists.Contains-from_filter (has_fixer y) f members c).1).1 in
      lists.distinct-map_to operator_eq (operators unit some).same map_eq map_eq-is (fixer y) (filter (has_fixer y) members)
      (lists.distinct-filter operator_eq (operators unit some).same (has_fixer y) members closed.distinct)
      (λ f h c d e. sym (ok f c) ∙ ap (operator_of unit) e ∙ ok h d)

  pub site_length : (y : ScaledPoint) → length (site y) ≡ count_by (has_fixer y) members
  unfolding site
  site_length y = length-map (filter (has_fixer y) members) (fixer y) ∙ length-filter (has_fixer y) members

  abbrev pub sites : cover.Sites (space L) (on_points L)
  sites = record { site = site; distinct = site_distinct; exactly = site_is }

  -- ---- the elements that leave an average as it is

  module _ {n : ℕ} (m : Averaged L n) where
    -- the translation of the average, as a point
    abbrev base : ScaledPoint
    base = record { n = m.average.t; d = n; some = m.some }

    pub full : List Map
    full = filter (keeps m.average) (site base)

    pub full_is : (e : Map) → Contains full e ↔ (IsElement unit members e × Keeps m.average e)
    unfolding full
    full_is e =
        let number = means.number m in (
          (λ c. let r = lists.Contains-from_filter (keeps m.average) e (site base) c in (((site_is base e).0 r.0).0, (keeps-is m.average e).0 r.1)),
          (λ p.
              let inside = image_of_base m.average n m.some number (means.idempotent_itself m) in
              let fixed = kept_fixed m.average e base (subst (λ k. pos 0 <ℤ k) (sym number) (above n m.some)) p.1 inside in
              lists.Contains-filter (keeps m.average) e (site base) ((site_is base e).1 (p.0, fixed)) ((keeps-is m.average e).1 p.1)),
        )

    full_distinct : IsDistinct map_eq full
    unfolding full
    full_distinct = lists.distinct-filter map_eq map_eq-is (keeps m.average) (site base) (site_distinct base)

    pub full_closed : IsClosedList (space L) full
    full_closed = record {
      distinct = full_distinct;
      valid = λ k d l. ((full_is _).0 (Contains-get_or full k d l)).0;
      has_one = (full_is identity_map).1 ((space L).one_in, identity_times m.average);
      closed = λ g f p q.
          let x = (full_is g).0 p in
          let y = (full_is f).0 q in
          (full_is (g ∘ f)).1 (
            (space L).mul_in g f x.0 y.0,
            ap (λ b. block_times b m.average) (block_of-∘ g f) ∙ block_times_assoc (block_of g) (block_of f) m.average ∙ ap (block_times (block_of g)) y.1 ∙ x.1,
          );
    }

    -- all elements that leave the average as it is: they have the same average
    abbrev pub full_of : Averaged L n
    full_of = record {
      some = m.some;
      list = full;
      closed = full_closed;
      average = m.average;
      is_mean = means.same_mean m full full_closed (λ e c. (full_is e).1 (All-contains (IsElement unit members) m.list e m.closed.valid c, means.member_keeps m e c)) (λ e c. ((full_is e).0 c).1);
    }

    pub full_own : IsOwn L full_of
    full_own = full_is
