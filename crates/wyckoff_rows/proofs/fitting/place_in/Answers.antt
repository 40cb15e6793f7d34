use Rattle.std.proofs.Common.{◌∙◌, sym}
use Rattle.wyckoff_rows.proofs.PlaceOfRow.{row_has_place, place_has_row}
use Rattle.wyckoff_rows.proofs.fitting.place_in.Goals as goal

pub unwrap-requires : goal.unwrap-requires
unwrap-requires c = row_has_place c.args.rows.now c.args.row.now c.first_equal.result c.first_equal.ensures c.requires

pub returns : goal.returns
returns c = place_has_row c.args.rows.now c.args.row.now c.unwrap.result (sym c.first_equal.ensures ∙ c.unwrap.ensures)
