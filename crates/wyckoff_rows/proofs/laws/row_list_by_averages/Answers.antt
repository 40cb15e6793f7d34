use Rattle.wyckoff_rows.proofs.RowsOfAverages.{averages_of_list, list_of_averages}
use Rattle.wyckoff_rows.proofs.laws.row_list_by_averages.Goals as goal

pub returns : goal.returns
returns c = λ members rows g. (averages_of_list members g rows, list_of_averages members g rows)
