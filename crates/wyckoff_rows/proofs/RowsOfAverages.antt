-- The row list is the one list that is a table and has the rows of averages alone.
use Rattle.std.proofs.Common.{◌≡◌, ◌<◌, ◌*◌, ◌↔◌, ℕ, zero, suc, List, length, get_or, Contains, refl, sym, ap, ◌∙◌, subst, arith}
use Rattle.std.proofs.lemmas.List.Elements.{All-contains, Contains-get_or}
use Rattle.std.proofs.lemmas.Map.Made.{AllPairs-from_IsDistinct}
use Rattle.finite_groups.proofs.Cover as cover
use Rattle.lattice_algebra.specs.Operator.{Operator}
use Rattle.lattice_algebra.specs.Map.{Map}
use Rattle.lattice_algebra.specs.Point.{Point, IsPoint}
use Rattle.lattice_algebra.proofs.Maps.{map_eq-is}
use Rattle.exact_ops.specs.declared.TheConstants.{UNIT}
use Rattle.exact_ops.proofs.Narrow.{some_parts}
use Rattle.group_closure.specs.GroupList.{IsGroup}
use Rattle.site_symmetry.proofs.SpaceOfGroup.{space_of}
use Rattle.site_symmetry.proofs.ConjugatePoints.{conjugate_back, conjugate_of_orbit}
use Rattle.space_groups.specs.Space.{IsElement, IsInCell, point_of}
use Rattle.space_groups.specs.Averages.{IsInImage}
use Rattle.space_groups.specs.Keys.{IsKey}
use Rattle.space_groups.specs.Lists.{IsSiteList}
use Rattle.space_groups.specs.Rows.{Row, IsSpecial, IsRowOf, IsRowList}
use Rattle.space_groups.proofs.Elements.{SpaceGroup}
use Rattle.space_groups.proofs.Points.{IsPoint-scaled, scaled_of, conjugate-scaled}
use Rattle.space_groups.proofs.Sites.{site, site_is, site_distinct}
use Rattle.space_groups.proofs.SiteLists.{site_closed, site_list}
use Rattle.space_groups.proofs.Laws as laws
use Rattle.space_groups.proofs.Divided.{mean_exists}
use Rattle.space_groups.proofs.Generic.{generic, mean_within}
use Rattle.space_groups.proofs.Means as means
use Rattle.space_groups.proofs.Means.{Averaged}
use Rattle.space_groups.proofs.PointKeys.{special_key, point_key_once, one_row}
use Rattle.row_lists.proofs.SomeKey.{some_key}
use Rattle.row_lists.proofs.SharedRows.{group_from_conjugate, group_from_fits, row_along}
use Rattle.affine_sets.proofs.Groups.{averaged_list, narrow_element}
use Rattle.affine_sets.proofs.CellAverages.{cell_average}
use Rattle.wyckoff_rows.specs.Table.{IsRowOfAverage, IsTableOf}
use Rattle.wyckoff_rows.proofs.Beginning.{some_in_group}
use Rattle.wyckoff_rows.proofs.Finishing.{table_of_rows}

-- two factors of one product
same_factor : (a b c n : ℕ) → 0 < n → a * b ≡ n → a * c ≡ n → b ≡ c
same_factor zero b c n h p q = absurd (omega (arith, h, p))
same_factor (suc a) b c n h p q = cover.same_factor (suc a) b c (omega arith) (p ∙ sym q)

positive_factor : (a b n : ℕ) → 0 < n → a * b ≡ n → 0 < b
positive_factor a zero n h e = absurd (omega (arith, h, e))
positive_factor a (suc b) n h e = omega arith

module _ (members : List Operator) (group : IsGroup members) where
  abbrev L : SpaceGroup
  L = space_of members group

  abbrev n : ℕ
  n = length members

  -- ---- the row of a point is that of an average

  -- of a point of the cell
  average_in_cell : (y : Point) (row : Row) → IsPoint y → IsInCell y → IsRowOf UNIT members y row → IsRowOfAverage members row
  average_in_cell y row p c r =
      let z = scaled_of UNIT some_parts y p in
      let list = site L z.0 in
      let closed = site_closed L z.0 in
      let a = mean_exists L list closed in
      let special : IsSpecial UNIT members y a.0 = record { site = list; is_site = site_list L y z.0 p z.1; mean = a.1 } in
      let v : Averaged L n = record { some = some_in_group members group; list = list; closed = closed; average = a.0; is_mean = a.1 } in
      let k = some_key L n (some_in_group members group) a.0 (means.number v) in
      let same = point_key_once L y k.0 row.key (special_key L y a.0 k.0 p special k.1) r.key in
      let inside : IsInImage a.0 z.0 = means.fixed_image v z.0 (λ e d. ((site_is L z.0 e).0 d).1) in
      record {
        average = a.0;
        is_average = cell_average members group y a.0 p c special;
        key = subst (λ q. IsKey UNIT members n a.0 q) same k.1;
        full = list;
        is_full = record {
          exactly = λ e. (
            (λ d. (((site_is L z.0 e).0 d).0, λ x i. means.image_fixed v x i e d)),
            (λ h. (site_is L z.0 e).1 (h.0, h.1 z.0 inside)),
          );
          once = AllPairs-from_IsDistinct map_eq-is list (site_distinct L z.0);
        };
        mean = a.1;
        mult = ap (λ m. length list * m) (sym r.as_many) ∙ laws.order_times_multiplicity L y p list r.orbit special.is_site r.is_orbit;
      }

  average_of_point : (x : Point) (row : Row) → IsPoint x → IsRowOf UNIT members x row → IsRowOfAverage members row
  average_of_point x row p r =
      let a = scaled_of UNIT some_parts x p in
      let e = laws.order_times_multiplicity L x p (site L a.0) r.orbit (site_list L x a.0 p a.1) r.is_orbit in
      let some = positive_factor (length (site L a.0)) (length r.orbit) n (some_in_group members group) e in
      let y = get_or r.orbit 0 x in
      let o = r.is_orbit.in_orbit y (Contains-get_or r.orbit 0 x some) in
      let b = scaled_of UNIT some_parts y o.0 in
      let c = (conjugate-scaled L y x b.0 a.0 o.0 p b.1 a.1).0 (conjugate_back members group x y (conjugate_of_orbit members group x y p o.0 o.1)) in
      average_in_cell y row o.0 o.1.in_cell (row_along L y x b.0 a.0 o.0 p b.1 a.1 row r (group_from_conjugate L b.0 a.0 c))

  pub averages_of_list : (rows : List Row) → IsRowList UNIT members rows → IsTableOf members rows
  averages_of_list rows is = record {
    table = table_of_rows members group rows is;
    averages = λ k d l. let row = get_or rows k d in let r = (is.each row).0 (Contains-get_or rows k d l) in average_of_point r.0 row r.1 r.2;
  }

  -- ---- the row of an average is that of a point

  point_of_average : (row : Row) → IsRowOfAverage members row → (x : Point) × IsPoint x × IsRowOf UNIT members x row
  point_of_average row h =
      let a = h.average in
      let average = h.is_average in
      let v : Averaged L n = averaged_list members group average.group average.is_group a average.mean in
      let narrow = mean_within n average.group a (means.some_members v) average.mean (λ e c. narrow_element members group e (All-contains (IsElement UNIT members) average.group e average.is_group.elements c)) in
      let y = generic n (some_in_group members group) a (means.number v) (means.idempotent_itself v) narrow in
      let x = point_of UNIT y.0 in
      let p = IsPoint-scaled UNIT some_parts y.0 in
      let s = site_list L x y.0 p refl in
      let same : (e : Map) → Contains (site L y.0) e ↔ Contains h.full e = λ e. (
        (λ c. let f = (site_is L y.0 e).0 c in (h.is_full.exactly e).1 (f.0, (means.full_exactly v e).0 (y.2 e (narrow_element members group e f.0) f.1))),
        (λ c. let f = (h.is_full.exactly e).0 c in (site_is L y.0 e).1 (f.0, f.1 y.0 y.1)),
      ) in
      let list : IsSiteList UNIT members x h.full = record {
        exactly = λ e. ((λ c. (s.exactly e).0 ((same e).1 c)), (λ i. (same e).0 ((s.exactly e).1 i)));
        once = h.is_full.once;
      } in
      let o = laws.some_orbit L x p in (
        x,
        p,
        record {
          key = special_key L x a row.key p (record { site = h.full; is_site = list; mean = h.mean }) h.key;
          orbit = o.0;
          is_orbit = o.1;
          as_many = same_factor (length h.full) (length o.0) row.mult n (some_in_group members group) (laws.order_times_multiplicity L x p h.full o.0 list o.1) h.mult;
        },
      )

  pub list_of_averages : (rows : List Row) → IsTableOf members rows → IsRowList UNIT members rows
  list_of_averages rows t = record {
    each = λ row. (
      (λ c. here row c),
      (λ r.
          let f = t.table.every r.0 r.1 in
          let there = here f.1 (f.0, f.2.within, f.2.is f.1) in
          let x = scaled_of UNIT some_parts r.0 r.1 in
          let z = scaled_of UNIT some_parts there.0 there.1 in
          let along = row_along L r.0 there.0 x.0 z.0 r.1 there.1 x.1 z.1 f.1 there.2 (group_from_fits L r.0 there.0 x.0 z.0 r.1 there.1 x.1 z.1 f.1 there.2 f.3) in
          subst (Contains rows) (one_row L r.0 f.1 row r.1 along r.2) (f.0, f.2.within, f.2.is f.1)),
    );
    ordered = t.table.ordered;
  }
    where
      here : (row : Row) → Contains rows row → (x : Point) × IsPoint x × IsRowOf UNIT members x row
      here row c = point_of_average row (All-contains (IsRowOfAverage members) rows row t.averages c)
