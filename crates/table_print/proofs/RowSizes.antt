-- The numbers of a row are those of an affine map that can be printed.
use Rattle.std.proofs.Common.{◌≡◌, ◌<◌, ◌≤◌, ◌*◌, ℕ, List, length, Some, slice_get, Contains, subst, arith}
use Rattle.std.proofs.lemmas.Int.{ints}
use Rattle.std.proofs.lemmas.Option.{slice_get_within, get_or_from_slice_get}
use Rattle.lattice_algebra.specs.Matrix.{Column}
use Rattle.lattice_algebra.specs.Operator.{Operator, AreWithin, AreParts, HasEntriesWithin, identity_operator}
use Rattle.lattice_algebra.specs.Point.{image}
use Rattle.lattice_algebra.proofs.Numbers.{positive_product}
use Rattle.lattice_algebra.proofs.Points.{IsPoint-image}
use Rattle.lattice_algebra.proofs.Remainders.{modulo_parts}
use Rattle.exact_ops.specs.declared.TheConstants.{UNIT}
use Rattle.exact_ops.proofs.Narrow.{some_parts}
use Rattle.group_closure.specs.declared.TheConstants.{MAX_OPERATORS}
use Rattle.group_closure.specs.GroupList.{IsGroup}
use Rattle.space_groups.specs.Averages.{Block}
use Rattle.space_groups.specs.Keys.{Key, key_of}
use Rattle.space_groups.specs.Rows.{Row, IsRowList}
use Rattle.affine_sets.specs.Averages.{IsKeyInCell, key_over}
use Rattle.affine_sets.proofs.ConjugateSizes.{sub_within}
use Rattle.affine_sets.proofs.SitesOfPoints.{site_sub}
use Rattle.triplet_text.specs.declared.printing.TheConstants.{PARTS_LIMIT}
use Rattle.triplet_text.specs.Printing.{IsPrintable}
use Rattle.table_print.specs.Rows.{numbers_of_key}

parts_printable : (n : ℕ) (c : Column) → n ≤ MAX_OPERATORS → AreParts (UNIT * n) c → AreWithin PARTS_LIMIT c.x c.y c.z
parts_printable n c few p = record { first = omega (arith, ints, p.x); second = omega (arith, ints, p.y); third = omega (arith, ints, p.z) }

key_printable : (n : ℕ) (a : Block) → 0 < n → n ≤ MAX_OPERATORS → HasEntriesWithin (2 * n) a.m → IsPrintable n (numbers_of_key (key_of UNIT n a))
unfolding key_of
key_printable n a some few h = record {
  positive = some;
  over = few;
  narrow = h;
  parts = parts_printable n _ few (modulo_parts (UNIT * n) (positive_product UNIT n some_parts some) a.t);
}

key_in_cell : (n : ℕ) (a : Block) → 0 < n → n ≤ MAX_OPERATORS → HasEntriesWithin (2 * n) a.m → IsKeyInCell (key_over n (key_of UNIT n a))
unfolding key_of
key_in_cell n a some few h = record { some = some; within = few; matrix = h; in_cell = modulo_parts (UNIT * n) (positive_product UNIT n some_parts some) a.t }

pub row_printable : (members : List Operator) → IsGroup members → (rows : List Row) → IsRowList UNIT members rows → (row : Row) → Contains rows row → IsPrintable (length members) (numbers_of_key row.key)
row_printable members g rows list row c =
    let x = (list.each row).0 c in
    let k = x.2.key in
    let s = k.is_special in
    let sub = site_sub members g (image UNIT k.by x.0) (IsPoint-image UNIT some_parts k.by x.0 x.1) s.site s.is_site in
    let some : 0 < length members = slice_get_within members 0 identity_operator g.first in
    subst (λ (p : Key). IsPrintable (length members) (numbers_of_key p)) k.gives
    (key_printable (length members) k.special some g.within (sub_within members g s.site k.special sub s.mean))

pub printable_at : (members : List Operator) → IsGroup members → (rows : List Row) → IsRowList UNIT members rows → (k : ℕ) (row : Row) → slice_get rows k ≡ Some row → IsPrintable (length members) (numbers_of_key row.key)
printable_at members g rows list k row is = row_printable members g rows list row (k, slice_get_within rows k row is, get_or_from_slice_get rows k row row is)

pub row_in_cell : (members : List Operator) → IsGroup members → (rows : List Row) → IsRowList UNIT members rows → (row : Row) → Contains rows row → IsKeyInCell (key_over (length members) row.key)
row_in_cell members g rows list row c =
    let x = (list.each row).0 c in
    let k = x.2.key in
    let s = k.is_special in
    let sub = site_sub members g (image UNIT k.by x.0) (IsPoint-image UNIT some_parts k.by x.0 x.1) s.site s.is_site in
    let some : 0 < length members = slice_get_within members 0 identity_operator g.first in
    subst (λ (p : Key). IsKeyInCell (key_over (length members) p)) k.gives (key_in_cell (length members) k.special some g.within (sub_within members g s.site k.special sub s.mean))

pub in_cell_at : (members : List Operator) → IsGroup members → (rows : List Row) → IsRowList UNIT members rows → (k : ℕ) (row : Row) → slice_get rows k ≡ Some row → IsKeyInCell (key_over (length members) row.key)
in_cell_at members g rows list k row is = row_in_cell members g rows list row (k, slice_get_within rows k row is, get_or_from_slice_get rows k row row is)
