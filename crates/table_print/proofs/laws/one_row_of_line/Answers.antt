use Rattle.table_print.proofs.RowLines.{one_row}
use Rattle.table_print.proofs.laws.one_row_of_line.Goals as goal

pub returns : goal.returns
returns c = one_row c.affine_text_has_one_map.ensures
