use Rattle.wyckoff_rows.proofs.GeneralRow.{first_row, only_first}
use Rattle.wyckoff_rows.proofs.laws.first_row_is_the_general_position.Goals as goal

pub returns-clause-first : goal.returns-clause-first
returns-clause-first c = λ members rows g is. first_row members g rows is

pub returns-clause-only : goal.returns-clause-only
returns-clause-only c = λ members rows k row g is a e. only_first members g rows is k row a e
