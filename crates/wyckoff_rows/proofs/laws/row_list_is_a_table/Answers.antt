use Rattle.wyckoff_rows.proofs.Finishing.{table_of_rows}
use Rattle.wyckoff_rows.proofs.laws.row_list_is_a_table.Goals as goal

pub returns : goal.returns
returns c = λ members rows g r. table_of_rows members g rows r
