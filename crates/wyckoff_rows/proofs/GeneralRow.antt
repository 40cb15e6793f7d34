-- The first row of a row list is the general position, and no other row has as many points.
use Rattle.std.proofs.Common.{◌≡◌, ◌<◌, ◌≤◌, ◌*◌, ℕ, zero, suc, ℤ, pos, List, [], ◌∷◌, length, get_or, Contains, refl, sym, ap, ◌∙◌, subst, arith, ⊎_elim}
use Rattle.std.proofs.lemmas.Int.{ints}
use Rattle.std.proofs.lemmas.List.{get_or_default}
use Rattle.std.proofs.lemmas.Map.Made.{AllPairs-from_IsDistinct}
use Rattle.finite_groups.proofs.Members as lists
use Rattle.lattice_algebra.specs.Matrix.{identity, origin, scaled, times, ◌+ᶜ◌, ◌+ᵐ◌}
use Rattle.lattice_algebra.specs.Operator.{Operator, IsPart, modulo}
use Rattle.lattice_algebra.specs.Map.{Map, ◌∘◌, identity_map, undo}
use Rattle.lattice_algebra.specs.Point.{Point, IsPoint}
use Rattle.lattice_algebra.proofs.Ring.{var, one_times}
use Rattle.lattice_algebra.proofs.MatrixRing.{sym_times, sym_origin, ◌+ˢᶜ◌, column_ring}
use Rattle.lattice_algebra.proofs.Numbers.{positive_product}
use Rattle.lattice_algebra.proofs.Remainders.{modulo_part}
use Rattle.lattice_algebra.proofs.Maps.{∘-identity, map_eq-is}
use Rattle.exact_ops.specs.declared.TheConstants.{UNIT}
use Rattle.exact_ops.proofs.Narrow.{some_parts}
use Rattle.group_closure.specs.GroupList.{IsGroup}
use Rattle.site_symmetry.proofs.SpaceOfGroup.{space_of}
use Rattle.space_groups.specs.Space.{IsElement, ScaledPoint, moved, point_of}
use Rattle.space_groups.specs.Averages.{Block, block_of, block_scaled, block_plus, sum_of, IsMean, IsInImage}
use Rattle.space_groups.specs.Keys.{carried, key_of, ComesBefore, IsKey}
use Rattle.space_groups.specs.Lists.{IsSiteList}
use Rattle.space_groups.specs.Rows.{Row, IsRowBefore, IsAt, IsPointKey, IsRowOf, IsRowList}
use Rattle.space_groups.proofs.Elements.{SpaceGroup, space}
use Rattle.space_groups.proofs.Points.{IsPoint-scaled, scaled_of}
use Rattle.space_groups.proofs.Sites.{site, site_is, site_distinct}
use Rattle.space_groups.proofs.SiteLists.{site_closed, site_list}
use Rattle.space_groups.proofs.ScaledPoints.{moved-identity}
use Rattle.space_groups.proofs.Laws as laws
use Rattle.space_groups.proofs.Carried.{carried-identity}
use Rattle.space_groups.proofs.CarriedLists.{carried_scaled, carried_sum}
use Rattle.space_groups.proofs.Blocks.{scaled_product}
use Rattle.space_groups.proofs.Generic.{generic, mean_within}
use Rattle.space_groups.proofs.Means.{Averaged, full_exactly, fixed_image, idempotent_itself, number}
use Rattle.space_groups.proofs.Ordered.{not_before_itself, row_not_itself}
use Rattle.space_groups.proofs.PointKeys.{special_key, point_key_once}
use Rattle.affine_sets.proofs.Groups.{averaged_list, narrow_element}
use Rattle.wyckoff_rows.specs.Laws.{general_row}
use Rattle.wyckoff_rows.proofs.Beginning.{only_one, single, trivial_sub, fixes_all, some_in_group}

abbrev alone : List Map
alone = identity_map ∷ []

-- the average over the identity, over n
abbrev whole : ℕ → Block
whole n = block_scaled (pos n) (sum_of alone)

whole_mean : (n : ℕ) → IsMean n alone (whole n)
whole_mean n = scaled_product (pos 1) (pos n) (sum_of alone) ∙ ap (λ k. block_scaled k (sum_of alone)) (one_times (pos n))

no_translation : (n : ℤ) → times n (origin +ᶜ origin) ≡ origin
unfolding times ◌+ᶜ◌
no_translation n = column_ring (n ∷ []) (sym_times (var 0) (sym_origin +ˢᶜ sym_origin)) sym_origin tt

origin_in_cell : (n : ℕ) → 0 < n → modulo n origin ≡ origin
origin_in_cell n h = modulo_part n h origin (record { x = zero_part; y = zero_part; z = zero_part })
  where
    zero_part : IsPart n (pos 0)
    zero_part = (omega (arith, ints), omega (arith, ints))

whole_key : (n : ℕ) → 0 < n → key_of UNIT n (whole n) ≡ (general_row n).key
unfolding key_of block_scaled block_plus block_of ◌+ᵐ◌
whole_key n h = λ i. record { m = scaled (pos n) identity; t = (ap (modulo (UNIT * n)) (no_translation (pos n)) ∙ origin_in_cell (UNIT * n) (positive_product UNIT n some_parts h)) i }

-- a factor of n
at_most : (a b n : ℕ) → 0 < a → a * b ≡ n → b ≤ n
at_most zero b n h e = absurd (omega (arith, h))
at_most (suc a) b n h e = omega (arith, e)

one_factor : (a n : ℕ) → 0 < n → a * n ≡ n → a ≡ 1
one_factor a n h e = let f : n * a ≡ n * 1 = omega (arith, e) in grind arith

of_length_one : (xs : List Map) → length xs ≡ 1 → Contains xs identity_map → xs ≡ alone
of_length_one [] l c = absurd (omega (arith, l))
of_length_one (x ∷ []) l c = ap (λ e. e ∷ []) (⊎_elim (λ e. e) (λ d. absurd (lists.not_in_nil identity_map d)) (lists.Contains-cases identity_map x [] c))
of_length_one (x ∷ y ∷ xs) l c = absurd (omega (arith, l))

module _ (members : List Operator) (group : IsGroup members) where
  abbrev L : SpaceGroup
  L = space_of members group

  abbrev n : ℕ
  n = length members

  stays : (g : Map) → IsElement UNIT members g → carried g (whole n) ≡ whole n
  stays g m = carried_scaled g (pos n) (sum_of alone) ∙ ap (block_scaled (pos n)) (sym (carried_sum g alone) ∙ ap (λ e. sum_of (e ∷ [])) (ap (λ f. f ∘ undo g) (∘-identity g) ∙ (space L).inv_right g m))

  shown : key_of UNIT n (whole n) ≡ (general_row n).key
  shown = whole_key n (some_in_group members group)

  is_key : IsKey UNIT members n (whole n) (general_row n).key
  is_key = record {
    by = identity_map;
    element = (space L).one_in;
    gives = ap (key_of UNIT n) (carried-identity (whole n)) ∙ shown;
    first = λ g m l. not_before_itself (general_row n).key (subst (λ p. ComesBefore p (general_row n).key) (ap (key_of UNIT n) (stays g m) ∙ shown) l);
  }

  -- a point that the identity alone fixes has this row
  has_key : (x : Point) → IsPoint x → IsSiteList UNIT members x alone → IsPointKey UNIT members x (general_row n).key
  has_key x p s = special_key L x (whole n) (general_row n).key p (record { site = alone; is_site = s; mean = whole_mean n }) is_key

  -- and there is such a point
  general_point : (y : ScaledPoint) × (site L y ≡ alone)
  general_point =
      let v : Averaged L n = averaged_list members group alone (trivial_sub members group) (whole n) (whole_mean n) in
      let r = generic n (some_in_group members group) (whole n) (number v) (idempotent_itself v) (mean_within n alone (whole n) (omega arith) (whole_mean n) (λ e c. narrow_element members group e (subst (IsElement UNIT members) (sym (only_one e c)) (space L).one_in))) in
      let inside : (z : ScaledPoint) → IsInImage (whole n) z = λ z. fixed_image v z (λ e c. subst (λ m. moved m z ≡ z) (sym (only_one e c)) (moved-identity z)) in
      let is : (e : Map) → Contains (site L r.0) e → e ≡ identity_map = λ e c.
      let s = (site_is L r.0 e).0 c in
      fixes_all members group e (λ z. (full_exactly v e).0 (r.2 e (narrow_element members group e s.0) s.1) z (inside z)) in
      (r.0, single (site L r.0) (AllPairs-from_IsDistinct map_eq-is (site L r.0) (site_distinct L r.0)) (λ e. (is e, λ q. subst (Contains (site L r.0)) (sym q) (site_closed L r.0).has_one)))

  general_row_of : (x : Point) × IsPoint x × IsRowOf UNIT members x (general_row n)
  general_row_of =
      let g = general_point in
      let x = point_of UNIT g.0 in
      let p = IsPoint-scaled UNIT some_parts g.0 in
      let s = subst (IsSiteList UNIT members x) g.1 (site_list L x g.0 p refl) in
      let o = laws.some_orbit L x p in
      let e = laws.order_times_multiplicity L x p alone o.0 s o.1 in
      (x, p, record { key = has_key x p s; orbit = o.0; is_orbit = o.1; as_many = omega (arith, e) })

  -- no row has more points, and one with as many is this one
  module _ (row : Row) (x : Point) (p : IsPoint x) (r : IsRowOf UNIT members x row) where
    times_site : length (site L (scaled_of UNIT some_parts x p).0) * row.mult ≡ n
    times_site = let y = scaled_of UNIT some_parts x p in ap (λ k. length (site L y.0) * k) (sym r.as_many) ∙ laws.order_times_multiplicity L x p (site L y.0) r.orbit (site_list L x y.0 p y.1) r.is_orbit

    no_more_points : row.mult ≤ n
    no_more_points = let y = scaled_of UNIT some_parts x p in at_most (length (site L y.0)) row.mult n (omega (arith, (site_closed L y.0).has_one.1)) times_site

    as_many_points : row.mult ≡ n → row ≡ general_row n
    as_many_points e =
        let y = scaled_of UNIT some_parts x p in
        let one : length (site L y.0) ≡ 1 = one_factor (length (site L y.0)) n (some_in_group members group) (ap (λ k. length (site L y.0) * k) (sym e) ∙ times_site) in
        let s = subst (IsSiteList UNIT members x) (of_length_one (site L y.0) one (site_closed L y.0).has_one) (site_list L x y.0 p y.1) in
        let k : row.key ≡ (general_row n).key = point_key_once L x row.key (general_row n).key r.key (has_key x p s) in
        λ i. record { mult = e i; key = k i }

  module _ (rows : List Row) (is : IsRowList UNIT members rows) where
    row_here : (k : ℕ) (row : Row) → IsAt rows k row → (x : Point) × IsPoint x × IsRowOf UNIT members x row
    row_here k row a = (is.each row).0 (k, a.within, a.is row)

    no_earlier : (j k : ℕ) (a : Row) → j < k → IsAt rows j a → IsAt rows k (general_row n) → ⊥
    no_earlier j k a l p q =
        let before : IsRowBefore a (general_row n) = subst (λ v. IsRowBefore v (general_row n)) (p.is a) (subst (λ v. IsRowBefore (get_or rows j a) v) (q.is a) (is.ordered j k a l q.within)) in
        let r = row_here j a p in
        ⊎_elim (λ more. let few = no_more_points a r.0 r.1 r.2 in absurd (omega (arith, more, few)))
        (λ same. row_not_itself (general_row n) (subst (λ v. IsRowBefore v (general_row n)) (as_many_points a r.0 r.1 r.2 same.0) before))
        before

    -- what stands before is no row
    is_first : (k : ℕ) → IsAt rows k (general_row n) → k ≡ 0
    is_first zero a = refl
    is_first (suc k) a = absurd (no_earlier 0 (suc k) (get_or rows 0 (general_row n)) (omega arith) (record { within = omega (arith, a.within); is = λ d. get_or_default rows 0 d (general_row n) (omega (arith, a.within)) }) a)

    pub first_row : IsAt rows 0 (general_row n)
    first_row =
        let c = (is.each (general_row n)).1 general_row_of in
        let a : IsAt rows c.0 (general_row n) = record { within = c.1; is = λ d. get_or_default rows c.0 d (general_row n) c.1 ∙ c.2 } in
        subst (λ k. IsAt rows k (general_row n)) (is_first c.0 a) a

    pub only_first : (k : ℕ) (row : Row) → IsAt rows k row → row.mult ≡ n → k ≡ 0
    only_first k row a e = let r = row_here k row a in is_first k (subst (IsAt rows k) (as_many_points row r.0 r.1 r.2 e) a)
