use Rattle.std.proofs.Common.{◌≡◌, ◌∙◌, Contains, Some, map, slice_get, sym, subst, ap}
use Rattle.std.proofs.lemmas.Option.{slice_get_within}
use Rattle.lattice_algebra.specs.Operator.{identity_operator}
use Rattle.exact_ops.specs.Numbers.{point_in}
use Rattle.orbit_map.specs.Placed.{IsPlaced}
use Rattle.space_groups.specs.Rows.{Row}
use Rattle.wyckoff_rows.specs.Shown.{row_in}
use Rattle.wyckoff_rows.proofs.Lists.{contains_at}
use Rattle.wyckoff_rows.proofs.Finishing.{table_of_rows}
use Rattle.wyckoff_rows.proofs.RowOfPoint.{placed_conjugate, row_of_point, fits_row, fits_at, row_at}
use Rattle.wyckoff_rows.proofs.fitting.fit.Goals as goal

pub key-key-requires : goal.key-key-requires
key-key-requires c = c.average_at.ensures.average c.image_in_cell-near.ensures.placed.in_cell

pub place_in-requires : goal.place_in-requires
place_in-requires c =
    let y = point_in c.image_in_cell-near.result in
    let q = c.image_in_cell-near.result.in_range.positive in
    let row : Row = record { mult = c.multiplicity-mult.result; key = c.key-key.result.key } in
    let is = row_of_point c.args.g.now c.average_at.ensures.group y c.average_at.result c.key-key.result.key c.multiplicity-mult.result q c.average_at.ensures.special c.key-key.ensures.key c.multiplicity-mult.ensures.value in
    subst (λ rows. Contains rows row) (sym (ap (map row_in) c.deref.ensures.value ∙ c.r.view_is)) ((c.requires.each row).1 (y, q, is))

pub returns-clause-fits : goal.returns-clause-fits
returns-clause-fits c =
    let g = c.args.g.now in
    let group = c.average_at.ensures.group in
    let x = point_in c.args.p.now in
    let y = point_in c.image_in_cell-near.result in
    let p = c.args.p.now.in_range.positive in
    let q = c.image_in_cell-near.result.in_range.positive in
    let k = c.place_in.result in
    let row : Row = record { mult = c.multiplicity-mult.result; key = c.key-key.result.key } in
    let is = row_of_point g group y c.average_at.result c.key-key.result.key c.multiplicity-mult.result q c.average_at.ensures.special c.key-key.ensures.key c.multiplicity-mult.ensures.value in
    let there = subst (λ rows. slice_get rows k ≡ Some row) (ap (map row_in) c.deref.ensures.value ∙ c.r.view_is) c.place_in.ensures in
    let conjugate = placed_conjugate g group x y identity_operator p q (contains_at g 0 identity_operator group.first) (subst (λ f. IsPlaced f x y) c.identity.ensures c.image_in_cell-near.ensures.placed) in
    fits_at g c.args.r.now x y k row p q (table_of_rows g group c.args.r.now c.requires) conjugate (row_at c.args.r.now k row there) (fits_row g group y row q is)

pub returns-clause-within : goal.returns-clause-within
returns-clause-within c =
    let row : Row = record { mult = c.multiplicity-mult.result; key = c.key-key.result.key } in
    slice_get_within c.args.r.now c.place_in.result row (subst (λ rows. slice_get rows c.place_in.result ≡ Some row) (ap (map row_in) c.deref.ensures.value ∙ c.r.view_is) c.place_in.ensures)
