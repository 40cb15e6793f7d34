-- Worked examples: kept groups, their visits and tables, in P1; nothing cites these.
use Rattle.std.proofs.Common.{◌≡◌, ◌<◌, ◌*◌, ℕ, zero, suc, ℤ, pos, ◌+ℤ◌, ◌*ℤ◌, ◌≤ℤ◌, ◌<ℤ◌, true, false, Some, List, [], ◌∷◌, length, slice_get, inr, ⊎_elim, Contains, ap, sym, subst, refl, arith}
use Rattle.std.proofs.lemmas.Bool.{false≢true}
use Rattle.std.proofs.lemmas.Int.{ints}
use Rattle.std.proofs.lemmas.List.Elements.{All-from_recursion}
use Rattle.finite_groups.proofs.Members as lists
use Rattle.lattice_algebra.specs.Matrix.{Column, coordinates, identity, origin, times, ◌·ᶜ◌, ◌+ᶜ◌}
use Rattle.lattice_algebra.specs.Operator.{identity_operator, modulo}
use Rattle.lattice_algebra.specs.Map.{Map, identity_map, operator_of}
use Rattle.lattice_algebra.proofs.Examples.{column, point}
use Rattle.exact_ops.specs.declared.TheConstants.{UNIT}
use Rattle.exact_ops.specs.Moves.{map_with}
use Rattle.exact_ops.proofs.Narrow.{some_parts}
use Rattle.affine_sets.specs.declared.TheConstants.{MAX_GROWN_SHIFT, MAX_NEAR_SHIFT}
use Rattle.affine_sets.specs.Conditions.{IsAverage}
use Rattle.affine_sets.proofs.Groups.{averaged_list}
use Rattle.space_groups.specs.Space.{ScaledPoint, IsElement, moved}
use Rattle.space_groups.proofs.ScaledPoints.{moved-identity}
use Rattle.space_groups.specs.Keys.{key_of, IsKey}
use Rattle.space_groups.specs.Search.{IsFull}
use Rattle.wyckoff_rows.specs.declared.entry.Entry.{Entry}
use Rattle.wyckoff_rows.specs.Steps.{IsAverageNearOrigin, AreKept, HasKeyOf, AreMet, HasGrown, IsGrownByAll, Extends, StandsFor, AreEnough, IsCovered, IsPushed, IsVisited, last_set, IsKeptMore, IsAdded, IsEntry, AreIn, AreRanges, IsVisiting}
use Rattle.wyckoff_rows.specs.Table.{IsRowOfAverage, IsTableOf}
use Rattle.wyckoff_rows.specs.Laws.{IsOnlyPlaceOf, IsPlaceOfBoth}
use Rattle.std.proofs.lemmas.Option.{slice_get_within, same_Some}
use Rattle.lattice_algebra.specs.Point.{Point, IsPoint}
use Rattle.group_closure.proofs.Examples.{one, group_of_one}
use Rattle.space_groups.specs.Rows.{Row, Fits, IsTable, IsAt}
use Rattle.space_groups.proofs.Means as means
use Rattle.space_groups.proofs.OneOperator as smallest
use Rattle.wyckoff_rows.specs.declared.ranges.Ranges.{Ranges}
use Rattle.wyckoff_rows.proofs.Finishing.{table_of_rows}
use Rattle.wyckoff_rows.proofs.Examples.{o, trivial, fixed, half, without_shift}

-- ---- kept groups

-- the group of the identity alone
abbrev alone : Entry
alone = record { set = trivial; average = record { m = identity; t = origin; n = pos 1 }; key = record { key = record { m = identity; t = origin }; over = 1 }; mult = 1 }

abbrev kept : List Entry
kept = alone ∷ []

near : IsAverageNearOrigin one alone.average
unfolding modulo
near = record { group = trivial; is_group = smallest.alone_sub UNIT some_parts; mean = smallest.alone_mean; shifts = without_shift MAX_NEAR_SHIFT identity_map refl refl }

-- no average over one member stands over 2
not_near : IsAverageNearOrigin one (record { m = identity; t = origin; n = pos 2 }) → ⊥
not_near a = let e : pos 2 ≡ pos 1 = means.number (averaged_list one group_of_one a.group a.is_group (record { m = identity; t = origin; n = pos 2 }) a.mean) in omega (arith, ints)

average : IsAverage one alone.average
unfolding modulo
average = record { group = trivial; is_group = smallest.alone_sub UNIT some_parts; mean = smallest.alone_mean; shifts = without_shift MAX_GROWN_SHIFT identity_map refl refl }

its_key : IsKey UNIT one 1 alone.average alone.key.key
unfolding key_of modulo
its_key = smallest.alone_key UNIT some_parts

full : IsFull UNIT one alone.average trivial
full = smallest.alone_full UNIT some_parts

its_length : (list : List Map) → IsFull UNIT one alone.average list → length list * 1 ≡ 1
its_length list f = smallest.full_length UNIT some_parts list f

entry : IsEntry one alone
unfolding modulo
entry = record {
  kept = record { sub = smallest.alone_sub UNIT some_parts; mean = smallest.alone_mean; key = its_key; mult = its_length };
  over = refl;
  near = near;
  full = full;
  shifts = without_shift MAX_GROWN_SHIFT identity_map refl refl;
}

-- its row has one point, and not two
no_entry : IsEntry one (record { set = trivial; average = alone.average; key = alone.key; mult = 2 }) → ⊥
no_entry t = omega (arith, t.kept.mult trivial full)

are_kept : AreKept one kept
are_kept = record { group = group_of_one; each = All-from_recursion (IsEntry one) kept (entry, tt); apart = λ i j d l m. absurd (omega arith) }

not_twice : AreKept one (alone ∷ alone ∷ []) → ⊥
not_twice k = k.apart 0 1 alone (omega arith) (omega arith) refl

no_key : HasKeyOf one [] alone.average → ⊥
no_key h = lists.not_in_nil h.0 h.1

some_key : HasKeyOf one kept alone.average
some_key = (alone, (0, omega arith, refl), its_key)

none_met : AreMet one [] []
none_met k c = lists.not_in_nil k c

not_met : AreMet one [] (alone.key ∷ []) → ⊥
unfolding key_of modulo
not_met m = no_key (m alone.key (0, omega arith, refl) alone.average average refl)

-- a translation fixes no point, so that there is nothing to keep; the identity fixes each
abbrev translation : Map
translation = record { w = identity; s = column (pos 24) o o }

nothing_grown : HasGrown one [] alone translation
unfolding moved times ◌·ᶜ◌ ◌+ᶜ◌
nothing_grown y f m = absurd (by y.n.x y.n.y y.n.z y.d y.some (ap (λ (v : ScaledPoint). v.n.x) m))
  where
    by : (x y z : ℤ) (d : ℕ) → 0 < d → pos 1 *ℤ x +ℤ o *ℤ y +ℤ o *ℤ z +ℤ pos d *ℤ pos 24 ≡ x → ⊥
    by x y z d l e = omega (arith, ints, l, e)

not_grown : HasGrown one [] alone identity_map → ⊥
not_grown h = let t = h half (fixed half) (moved-identity half) in lists.not_in_nil t.0 t.1

-- each element that fixes a point is the identity, by which the group does not grow
by_all : IsGrownByAll one kept alone
by_all e m y f q =
    let same = smallest.is_identity UNIT some_parts e y m q in (
      alone,
      (0, omega arith, refl),
      record {
        list = trivial;
        sub = smallest.alone_sub UNIT some_parts;
        fixes = λ z. ((λ h. (h, subst (λ v. moved v z ≡ z) same (moved-identity z))), (λ h. h.0));
        average = alone.average;
        mean = smallest.alone_mean;
        key = its_key;
      },
    )

not_by_all : IsGrownByAll one [] alone → ⊥
unfolding operator_of modulo
not_by_all h = not_grown (h identity_map (0, omega arith, refl))

extended : Extends [] (alone ∷ [])
extended = (alone ∷ [], refl)

longer : (more : List Entry) (t : Entry) → [] ≡ t ∷ more → ⊥
longer more t e = omega (arith, ap (λ (l : List Entry). length l) e)

not_extended : Extends (alone ∷ []) [] → ⊥
not_extended e = longer e.0 alone e.1

-- the visit of it ends where it began; nothing is kept before it
at_first : (P : Entry → Type 0) → P alone → (j : ℕ) (t : Entry) → slice_get kept j ≡ Some t → P t
at_first P p zero t e = subst P (same_Some alone t e) p
at_first P p (suc j) t e = absurd (let l = slice_get_within kept (suc j) t e in omega (arith, l))

visited : IsVisited one kept kept
visited = record { extends = ([], refl); kept = are_kept; done = λ j t l e. at_first (IsGrownByAll one kept) by_all j t e }

not_visited : IsVisited one kept [] → ⊥
not_visited v = not_extended v.extends

-- amid the visit the identity was tried, where it has its key among the kept ones
visiting : IsVisiting one trivial alone kept kept 1
unfolding operator_of modulo
visiting = record {
  extends = ([], refl);
  kept = are_kept;
  tried = λ j e l s. at_identity (HasGrown one kept alone) (by_all identity_map (0, omega arith, refl)) j e s;
  done = λ j t l e. absurd (let m = slice_get_within kept j t e in omega (arith, l, m));
}
  where
    at_identity : (P : Map → Type 0) → P identity_map → (j : ℕ) (e : Map) → slice_get trivial j ≡ Some e → P e
    at_identity P p zero e s = subst P (same_Some identity_map e s) p
    at_identity P p (suc j) e s = absurd (let l = slice_get_within trivial (suc j) e s in omega (arith, l))

not_visiting : IsVisiting one trivial alone [] [] 1 → ⊥
not_visiting v = not_grown (v.tried 0 identity_map (omega arith) refl)

its_set : last_set (alone ∷ []) ≡ trivial
its_set = refl

no_more : IsKeptMore false (alone ∷ []) alone (alone ∷ [])
no_more = record { one = λ e. absurd (false≢true e); none = λ e. refl }

not_kept : IsKeptMore true [] alone [] → ⊥
not_kept k = let t = k.one refl in longer [] t.0 t.1

added : IsAdded true [] alone.average (alone ∷ [])
added = record { one = λ e. (alone, refl, refl); none = λ e. absurd (false≢true (sym e)) }

not_added : IsAdded false [] alone.average (alone ∷ []) → ⊥
not_added a = longer [] alone (sym (a.none refl))

-- ---- which elements are tried, in P1

-- the identity stands for each element that fixes a point
stands : (e : Map) (y : ScaledPoint) → IsElement UNIT one e → moved e y ≡ y → StandsFor one trivial identity_map e
unfolding operator_of modulo
stands e y m q =
    let same = smallest.is_identity UNIT some_parts e y m q in
    record {
      by = identity_map;
      element = (0, omega arith, refl);
      points = λ z. ((λ h. (fixed (moved identity_map z), moved-identity (moved identity_map z))), (λ h. (fixed z, subst (λ v. moved v z ≡ z) same (moved-identity z))));
    }

enough : AreEnough one trivial trivial
enough e m y f q = (identity_map, (0, omega arith, refl), stands e y m q)

covered : IsCovered one trivial trivial identity_operator
covered e m is y f q = (identity_map, (0, omega arith, refl), stands e y m q)

-- of x,y,z it is enough to try no whole shift, and not enough to try none
abbrev ranges : ℤ → Ranges
ranges end = record { xs = record { low = o; end = end }; ys = record { low = o; end = end }; zs = record { low = o; end = end } }

origin_in : AreIn (ranges (pos 1)) origin
origin_in = ((omega (arith, ints), omega (arith, ints)), (omega (arith, ints), omega (arith, ints)), (omega (arith, ints), omega (arith, ints)))

are_ranges : AreRanges one trivial identity_operator (ranges (pos 1))
unfolding ◌+ᶜ◌ times
are_ranges e m is y f q = (origin, origin_in, stands e y m q)

no_ranges : AreRanges one trivial identity_operator (ranges o) → ⊥
unfolding operator_of modulo
no_ranges h = let r = h identity_map (0, omega arith, refl) refl half (fixed half) (moved-identity half) in by r.0.x r.1.0
  where
    by : (k : ℤ) → (o ≤ℤ k) × (k <ℤ o) → ⊥
    by k i = let l = i.0 in let m = i.1 in omega (arith, ints, l, m)

-- the elements of the operator x,y,z without a whole shift
pushed : IsPushed (λ (k : Column). k ≡ origin) identity_operator [] trivial
unfolding ◌+ᶜ◌ times
pushed = record {
  extends = λ c m. lists.not_in_nil c m;
  more = λ k e. subst (λ (k : Column). Contains trivial (map_with identity_operator (coordinates k))) (sym e) (0, omega arith, refl);
  only = λ c m. ⊎_elim (λ e. inr (origin, refl, e)) (λ n. lists.not_in_nil c n) (lists.Contains-cases c identity_map [] m);
}

not_pushed : IsPushed (λ (k : Column). k ≡ origin) identity_operator [] [] → ⊥
not_pushed p = lists.not_in_nil _ (p.more origin refl)

-- ---- tables

-- P1 has one row, x,y,z with one point
abbrev general : Row
general = record { mult = 1; key = record { m = identity; t = origin } }

row_of_average : IsRowOfAverage one general
row_of_average = record { average = alone.average; is_average = average; key = its_key; full = trivial; is_full = full; mean = smallest.alone_mean; mult = refl }

table : IsTable UNIT one (general ∷ [])
unfolding key_of modulo
table = table_of_rows one group_of_one (general ∷ []) (smallest.row_list_of_shifts UNIT some_parts)

table_of_one : IsTableOf one (general ∷ [])
table_of_one = record { table = table; averages = All-from_recursion (IsRowOfAverage one) (general ∷ []) (row_of_average, tt) }

-- no row is no table, since each point fits a row; and no row of P1 has 2 points
no_table : IsTableOf one [] → ⊥
no_table t = let r = t.table.every (point o o o (pos 1)) (omega (arith, ints)) in omega (arith, r.2.within)

not_its_points : IsRowOfAverage one (record { mult = 2; key = record { m = identity; t = origin } }) → ⊥
not_its_points r = by (length r.full) r.mult
  where
    by : (n : ℕ) → n * 2 ≡ 1 → ⊥
    by n e = omega (arith, e)

-- each point fits it
at_place : (k : ℕ) (row : Row) → IsAt (general ∷ []) k row → row ≡ general
at_place zero row a = sym (a.is general)
at_place (suc k) row a = absurd (let l = a.within in omega (arith, l))

first_place : IsAt (general ∷ []) 0 general
first_place = record { within = omega arith; is = λ d. refl }

fits : (x : Point) → IsPoint x → Fits UNIT one general x
fits x p = let r = table.every x p in subst (λ v. Fits UNIT one v x) (at_place r.0 r.1 r.2) r.3

its_place : IsOnlyPlaceOf one (general ∷ []) (point o o o (pos 1)) 0
its_place = record { row = general; at = first_place; fits = fits _ (omega (arith, ints)); only = λ j other a f. let l = a.within in omega (arith, l) }

place_of_both : IsPlaceOfBoth one (general ∷ []) (point o o o (pos 1)) (point (pos 1) o o (pos 7)) 0
place_of_both = record { row = general; at = first_place; fits = fits _ (omega (arith, ints)); fits_too = fits _ (omega (arith, ints)) }

no_place : IsOnlyPlaceOf one [] (point o o o (pos 1)) 0 → ⊥
no_place p = omega (arith, p.at.within)

no_place_of_both : IsPlaceOfBoth one [] (point o o o (pos 1)) (point o o o (pos 1)) 0 → ⊥
no_place_of_both p = omega (arith, p.at.within)
