-- The row list of a space group is its table of Wyckoff positions.
use Rattle.std.proofs.Common.{◌≡◌, ℕ, List, get_or, Contains, ◌∙◌, subst, ⊎_elim}
use Rattle.std.proofs.lemmas.List.{get_or_default}
use Rattle.std.proofs.lemmas.Bool.{cases_order}
use Rattle.lattice_algebra.specs.Point.{Point, IsPoint}
use Rattle.space_groups.specs.Rows.{Row, Fits, IsRowBefore, IsAt, IsTable, IsRowOf, IsRowList}
use Rattle.space_groups.proofs.Elements.{SpaceGroup}
use Rattle.space_groups.proofs.Points.{scaled_of, conjugate-scaled}
use Rattle.space_groups.proofs.Ordered.{row_not_itself}
use Rattle.space_groups.proofs.PointKeys.{one_row}
use Rattle.row_lists.proofs.SharedRows.{group_from_conjugate, conjugate_from_group, some_row, fits_row, row_along, group_from_fits}

module _ (L : SpaceGroup) where
  open L use {unit, some, members, closed}

  module _ (rows : List Row) (is : IsRowList unit members rows) where
    -- ---- places

    place_of : (row : Row) → Contains rows row → (k : ℕ) × IsAt rows k row
    place_of row c = (c.0, record { within = c.1; is = λ d. get_or_default rows c.0 d row c.1 ∙ c.2 })

    -- no row stands at two places
    one_place : (i j : ℕ) (a : Row) → IsAt rows i a → IsAt rows j a → i ≡ j
    one_place i j a p q = ⊎_elim (λ e. e)
        (⊎_elim
        (λ l. absurd (row_not_itself a (subst (λ v. IsRowBefore v a) (p.is a) (subst (λ v. IsRowBefore (get_or rows i a) v) (q.is a) (is.ordered i j a l q.within)))))
        (λ l. absurd (row_not_itself a (subst (λ v. IsRowBefore v a) (q.is a) (subst (λ v. IsRowBefore (get_or rows j a) v) (p.is a) (is.ordered j i a l p.within))))))
        (cases_order i j)

    -- ---- points

    -- a row at a place is that of some point
    point_of_row : (k : ℕ) (row : Row) → IsAt rows k row → (x : Point) × IsPoint x × IsRowOf unit members x row
    point_of_row k row a = (is.each row).0 (k, a.within, a.is row)

    row_with_place : (x : Point) → IsPoint x → (k : ℕ) × (row : Row) × IsAt rows k row × IsRowOf unit members x row
    row_with_place x h =
        let r = some_row L x h in
        let k = place_of r.0 ((is.each r.0).1 (x, h, r.1)) in
        (k.0, r.0, k.1, r.1)

    -- a row that a point fits is its row
    row_of_fitting : (x : Point) (k : ℕ) (row : Row) → IsPoint x → IsAt rows k row → Fits unit members row x → IsRowOf unit members x row
    row_of_fitting x k row h a f =
        let r = point_of_row k row a in
        let y = scaled_of unit some x h in
        let z = scaled_of unit some r.0 r.1 in
        row_along L x r.0 y.0 z.0 h r.1 y.1 z.1 row r.2 (group_from_fits L x r.0 y.0 z.0 h r.1 y.1 z.1 row r.2 f)

    pub table_of_rows : IsTable unit members rows
    table_of_rows = record {
      every = λ x h. let r = row_with_place x h in (r.0, r.1, r.2, fits_row L x r.1 h r.3);
      one = λ x j k a b h p q f g.
          let e : a ≡ b = one_row L x a b h (row_of_fitting x j a h p f) (row_of_fitting x k b h q g) in
          one_place j k b (subst (IsAt rows j) e p) q;
      each = λ k row a. let r = point_of_row k row a in (r.0, r.1, fits_row L r.0 row r.1 r.2);
      same = λ x y p q.
          let s = scaled_of unit some x p in
          let t = scaled_of unit some y q in
          let c = conjugate-scaled L x y s.0 t.0 p q s.1 t.1 in (
            (λ f. c.1 (conjugate_from_group L s.0 t.0 (group_from_fits L x y s.0 t.0 p q s.1 t.1 f.1 (row_of_fitting y f.0 f.1 q f.2 f.4) f.3))),
            (λ h.
                let r = row_with_place y q in
                let along = row_along L x y s.0 t.0 p q s.1 t.1 r.1 r.3 (group_from_conjugate L s.0 t.0 (c.0 h)) in
                (r.0, r.1, r.2, fits_row L x r.1 p along, fits_row L y r.1 q r.3)),
          );
      ordered = is.ordered;
    }
