-- The first row that compares as equal to another shows the same.
use Rattle.std.proofs.Common.{◌≡◌, ◌<◌, ℕ, Bool, true, Ordering, Less, Equal, Greater, Option, None, Some, List, length, get_or, slice_get, map, Contains, position, cond, ap, sym, ◌∙◌, subst, arith, refl, ⊎_elim}
use Rattle.std.specs.Option.{IsSome, is_some}
use Rattle.std.specs.List.{position_or_len}
use Rattle.std.specs.Ordering.{is_eq}
use Rattle.std.proofs.lemmas.Bool.{true≢false, cases_order}
use Rattle.std.proofs.lemmas.Bool.Decides.{Decides-ltb}
use Rattle.std.proofs.lemmas.Option.{slice_get-get_or}
use Rattle.std.proofs.lemmas.List.Sums.{fails_before_first}
use Rattle.std.proofs.lemmas.List.Quantifiers.{position-Some}
use Rattle.finite_groups.proofs.Members.{Contains-from_map}
use Rattle.wyckoff_rows.specs.Shown.{row_in, row_cmp}
use Rattle.wyckoff_rows.specs.declared.parts.Row.{Row}
use Rattle.wyckoff_rows.proofs.Ordering.{equal_rows, rows_equal}
use Rattle.wyckoff_rows.proofs.Lists.{map_at}

equal_of : (o : Ordering) → is_eq o ≡ true → o ≡ Equal
equal_of Less e = cc
equal_of Equal e = refl
equal_of Greater e = cc

-- where some element passes, there is a first that does
position_some : {X : Type 0} (p : X → Bool) (xs : List X) (k : ℕ) (d : X) → k < length xs → p (get_or xs k d) ≡ true → IsSome (position p xs)
position_some p xs k d l e =
    let first = position_or_len p xs in
    let below : first < length xs = ⊎_elim
    (λ q. subst (λ i. i < length xs) q l)
    (⊎_elim (λ h. absurd (true≢false (sym e ∙ fails_before_first p xs k d h))) (λ h. let m : first < length xs = omega (arith, h, l) in m))
    (cases_order k first) in
    ap (λ b. is_some (cond b (Some first) None)) ((Decides-ltb first (length xs)).1 below)

pub row_has_place : (rows : List Row) (row : Row) (r : Option ℕ) → r ≡ position (λ other. is_eq (row_cmp other row)) rows → Contains (map row_in rows) (row_in row) → IsSome r
row_has_place rows row r e c =
    let f = Contains-from_map row_in (row_in row) rows c in
    subst IsSome (sym e) (position_some (λ other. is_eq (row_cmp other row)) rows f.1.0 f.0 f.1.1 (ap (λ other. is_eq (row_cmp other row)) f.1.2 ∙ ap is_eq (rows_equal f.0 row f.2)))

pub place_has_row : (rows : List Row) (row : Row) (k : ℕ) → position (λ other. is_eq (row_cmp other row)) rows ≡ Some k → slice_get (map row_in rows) k ≡ Some (row_in row)
place_has_row rows row k e =
    let h = position-Some (λ other. is_eq (row_cmp other row)) rows k row e in
    let other = get_or rows k row in
    map_at row_in rows k other (slice_get-get_or rows k row h.0) ∙ ap Some (equal_rows other row (equal_of (row_cmp other row) h.1))
