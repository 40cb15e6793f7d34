-- Every group has a row list, and each row list is a table of Wyckoff positions.
use Rattle.std.proofs.Common.{◌≡◌, ◌<◌, ◌⊎◌, inl, inr, ℕ, List, map, Contains, refl, sym, subst}
use Rattle.std.proofs.lemmas.Bool.{cases_order}
use Rattle.lattice_algebra.specs.Operator.{Operator}
use Rattle.lattice_algebra.specs.Point.{Point}
use Rattle.finite_groups.proofs.Members as lists
use Rattle.finite_groups.proofs.Sorting as sorting
use Rattle.space_groups.specs.Space.{IsMembers, ScaledPoint, point_of}
use Rattle.space_groups.specs.Keys.{ComesBefore}
use Rattle.space_groups.specs.Rows.{Row, IsRowBefore, IsTable, IsRowOf, IsRowList}
use Rattle.space_groups.proofs.Elements.{SpaceGroup}
use Rattle.space_groups.proofs.Points.{IsPoint-scaled, scaled_of}
use Rattle.space_groups.proofs.Ordered.{row_on}
use Rattle.space_groups.proofs.Rows.{AreNarrow}
use Rattle.space_groups.proofs.Theorem.{space_group}
use Rattle.row_lists.proofs.SomeKey.{which_key}
use Rattle.space_groups.proofs.PointKeys.{one_row}
use Rattle.row_lists.proofs.SharedRows.{some_row, row_along}
use Rattle.row_lists.proofs.TableOfRows.{table_of_rows}
use Rattle.row_lists.proofs.GenericPoints.{some_points}

-- of two rows one comes first, or they are one
which_row : (a b : Row) → IsRowBefore a b ⊎ ((a ≡ b) ⊎ IsRowBefore b a)
which_row a b = by (cases_order a.mult b.mult) (which_key a.key b.key)
  where
    by : (a.mult ≡ b.mult) ⊎ ((a.mult < b.mult) ⊎ (b.mult < a.mult)) → ComesBefore a.key b.key ⊎ ((a.key ≡ b.key) ⊎ ComesBefore b.key a.key) → IsRowBefore a b ⊎ ((a ≡ b) ⊎ IsRowBefore b a)
    by (inr (inl l)) k = inr (inr (inl l))
    by (inr (inr l)) k = inl (inl l)
    by (inl e) (inl c) = inl (inr (e, c))
    by (inl e) (inr (inl f)) = inr (inl (λ i. record { mult = e i; key = f i }))
    by (inl e) (inr (inr c)) = inr (inr (inr (sym e, c)))

module _ (L : SpaceGroup) (narrow : AreNarrow L.members) where
  open L use {unit, some, members, closed}

  has_row : (z : ScaledPoint) → (row : Row) × IsRowOf unit members (point_of unit z) row
  has_row z = some_row L (point_of unit z) (IsPoint-scaled unit some z)

  -- the rows of the points that are enough, in order
  row_list : (rows : List Row) × IsRowList unit members rows
  row_list =
      let points = some_points L narrow in
      let of_point : ScaledPoint → Row = λ z. (has_row z).0 in
      let rows = sorting.sorted IsRowBefore row_on which_row (map of_point points.0) in (
        rows.0,
        record {
          each = λ row. (
            (λ c.
                let z = lists.Contains-from_map of_point row points.0 ((rows.2 row).1 c) in
                (point_of unit z.0, IsPoint-scaled unit some z.0, subst (λ v. IsRowOf unit members (point_of unit z.0) v) z.2 (has_row z.0).1)),
            (λ r.
                let x : Point = r.0 in
                let y = scaled_of unit some x r.1 in
                let z = points.1 y.0 in
                let s = has_row z.0 in
                let along = row_along L x (point_of unit z.0) y.0 z.0 r.1 (IsPoint-scaled unit some z.0) y.1 refl s.0 s.1 z.2 in
                (rows.2 row).0 (subst (Contains (map of_point points.0)) (one_row L x s.0 row r.1 along r.2) (lists.Contains-map of_point z.0 points.0 z.1))),
          );
          ordered = rows.1;
        },
      )

-- a row list of a group is a table of its space group
pub table_of_row_list : (unit : ℕ) → 0 < unit → (members : List Operator) → IsMembers unit members → (rows : List Row) → IsRowList unit members rows → IsTable unit members rows
table_of_row_list unit some members m rows r = table_of_rows (space_group unit some members m) rows r

pub some_row_list : (unit : ℕ) → 0 < unit → (members : List Operator) → IsMembers unit members → (rows : List Row) × IsRowList unit members rows
some_row_list unit some members m = row_list (space_group unit some members m) m.narrow

-- every group has a table of Wyckoff positions: its row list
pub some_table : (unit : ℕ) → 0 < unit → (members : List Operator) → IsMembers unit members → (rows : List Row) × IsTable unit members rows × IsRowList unit members rows
some_table unit some members m = let r = some_row_list unit some members m in (r.0, table_of_row_list unit some members m r.0 r.1, r.1)
