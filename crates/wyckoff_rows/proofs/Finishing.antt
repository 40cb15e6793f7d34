-- What is left when the first group was visited is a finished search, so its rows are the row list, and a table.
use Rattle.std.proofs.Common.{◌≡◌, List, [], ◌∷◌, get_or, Contains, map, IsPermutation, IsSorted, ap, sym, ◌∙◌, subst, arith}
use Rattle.std.proofs.lemmas.List.Elements.{All-contains, All-map, All-weaker, Contains-append_left, Contains-get_or}
use Rattle.std.proofs.lemmas.List.Sorted.{Contains-permutation, IsPermutation-sym}
use Rattle.lattice_algebra.specs.Matrix.{Column}
use Rattle.lattice_algebra.specs.Operator.{Operator, AreWithin}
use Rattle.lattice_algebra.specs.Map.{Map, identity_map, IsShift}
use Rattle.finite_groups.proofs.Members as lists
use Rattle.exact_ops.specs.Narrow.{IsNarrow}
use Rattle.exact_ops.specs.declared.TheConstants.{UNIT}
use Rattle.exact_ops.proofs.Narrow.{some_parts}
use Rattle.group_closure.specs.GroupList.{IsGroup}
use Rattle.group_closure.proofs.Lists.{are_operators}
use Rattle.space_groups.specs.Space.{IsMembers}
use Rattle.space_groups.specs.Averages.{Block}
use Rattle.space_groups.specs.Rows as shown
use Rattle.space_groups.specs.Rows.{IsTable, IsRowList}
use Rattle.space_groups.specs.Search.{IsKept, IsDone, IsSearch, row_of}
use Rattle.space_groups.proofs.Theorem.{row_list_of_search}
use Rattle.row_lists.proofs.Theorem.{table_of_row_list}
use Rattle.affine_sets.specs.declared.TheConstants.{MAX_GROWN_SHIFT, MAX_NEAR_SHIFT}
use Rattle.affine_sets.specs.Conditions.{IsAverage}
use Rattle.wyckoff_rows.specs.Shown.{row_in, row_cmp}
use Rattle.wyckoff_rows.specs.Table.{IsRowOfAverage, IsTableOf}
use Rattle.wyckoff_rows.specs.Steps.{kept_in, row_shown, IsEntry, IsAverageNearOrigin, IsVisited}
use Rattle.wyckoff_rows.specs.declared.entry.Entry.{Entry}
use Rattle.wyckoff_rows.specs.declared.parts.Row.{Row}
use Rattle.wyckoff_rows.proofs.Lists.{at_contains, contains_at}
use Rattle.wyckoff_rows.proofs.Ordering.{rows_in_order}

pub members_of_group : (members : List Operator) → IsGroup members → IsMembers UNIT members
members_of_group members g = record {
  operators = are_operators members g.narrow;
  once = g.distinct;
  identity = contains_at members 0 _ g.first;
  products = g.closed;
  narrow = λ f c. (All-contains IsNarrow members f g.narrow c).within_two;
}

-- a row list of a group is a table
pub table_of_rows : (members : List Operator) → IsGroup members → (rows : List shown.Row) → IsRowList UNIT members rows → IsTable UNIT members rows
table_of_rows members g rows list = table_of_row_list UNIT some_parts members (members_of_group members g) rows list

-- an average of a group near the origin is one of a group whose shifts are in range
pub near_average : (members : List Operator) (a : Block) → IsAverageNearOrigin members a → IsAverage members a
near_average members a h = record {
  group = h.group;
  is_group = h.is_group;
  mean = h.mean;
  shifts = All-weaker (λ (e : Map). (k : Column) → IsShift UNIT e k → AreWithin MAX_NEAR_SHIFT k.x k.y k.z) (λ (e : Map). (k : Column) → IsShift UNIT e k → AreWithin MAX_GROWN_SHIFT k.x k.y k.z) (λ e f k s. wider k (f k s)) h.group h.shifts;
}
  where
    wider : (k : Column) → AreWithin MAX_NEAR_SHIFT k.x k.y k.z → AreWithin MAX_GROWN_SHIFT k.x k.y k.z
    wider k w = let a = w.first in let b = w.second in let d = w.third in record { first = omega arith; second = omega arith; third = omega arith }

pub row_of_entry : (members : List Operator) (t : Entry) → IsEntry members t → IsRowOfAverage members (row_in (row_shown t))
row_of_entry members t h = record { average = t.average; is_average = near_average members t.average h.near; key = h.kept.key; full = t.set; is_full = h.full; mean = h.kept.mean; mult = h.kept.mult t.set h.full }

module _ (members : List Operator) (t : Entry) (kept : List Entry) (rows : List Row) (visited : IsVisited members (t ∷ []) kept) (trivial : t.set ≡ identity_map ∷ []) (same : IsPermutation (map row_shown kept) rows) (sorted : IsSorted row_cmp rows) where
  entry_is : (u : Entry) → Contains kept u → IsEntry members u
  entry_is u c = All-contains (IsEntry members) kept u visited.kept.each c

  -- where a row comes from
  from_row : (row : shown.Row) → Contains (map row_in rows) row → (u : Entry) × Contains kept u × (row_in (row_shown u) ≡ row)
  from_row row c =
      let r = lists.Contains-from_map row_in row rows c in
      let s = lists.Contains-from_map row_shown r.0 kept (Contains-permutation rows (map row_shown kept) r.0 (IsPermutation-sym (map row_shown kept) rows same) r.1) in
      (s.0, s.1, ap row_in s.2 ∙ r.2)

  to_row : (u : Entry) → Contains kept u → Contains (map row_in rows) (row_in (row_shown u))
  to_row u c = lists.Contains-map row_in (row_shown u) rows (Contains-permutation (map row_shown kept) rows (row_shown u) same (lists.Contains-map row_shown u kept c))

  entry_done : (u : Entry) → Contains kept u → IsDone UNIT members (map kept_in kept) (kept_in u)
  entry_done u c = λ e m y f q.
      let g = visited.done c.0 u (omega arith) (at_contains kept u c) e m y f q in
      (kept_in g.0, lists.Contains-map kept_in g.0 kept g.1, g.2)

  finished : IsSearch UNIT members (map kept_in kept) (map row_in rows)
  finished = record {
    all = All-map (IsKept UNIT members) kept_in kept (λ k d l. (entry_is (get_or kept k d) (Contains-get_or kept k d l)).kept);
    trivial = (kept_in t, lists.Contains-map kept_in t kept (subst (λ v. Contains v t) (sym visited.extends.1) (Contains-append_left (t ∷ []) visited.extends.0 t (lists.Contains-here t []))), trivial);
    done = All-map (IsDone UNIT members (map kept_in kept)) kept_in kept (λ k d l. entry_done (get_or kept k d) (Contains-get_or kept k d l));
    rows_are = λ row. (
      (λ c. let r = from_row row c in (kept_in r.0, lists.Contains-map kept_in r.0 kept r.1, r.2)),
      (λ h.
          let r = lists.Contains-from_map kept_in h.0 kept h.1 in
          subst (Contains (map row_in rows)) (ap row_of r.2 ∙ h.2) (to_row r.0 r.1)),
    );
    ordered = rows_in_order members kept rows visited.kept same sorted;
  }

  pub the_row_list : IsRowList UNIT members (map row_in rows)
  the_row_list = row_list_of_search UNIT some_parts members (members_of_group members visited.kept.group) (map kept_in kept) (map row_in rows) finished

  pub the_table : IsTableOf members (map row_in rows)
  the_table = record {
    table = table_of_rows members visited.kept.group (map row_in rows) the_row_list;
    averages = λ k d l.
        let r = from_row (get_or (map row_in rows) k d) (Contains-get_or (map row_in rows) k d l) in
        subst (IsRowOfAverage members) r.2 (row_of_entry members r.0 (entry_is r.0 r.1));
  }
