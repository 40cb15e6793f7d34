use Rattle.table_print.proofs.TypeLines as lines
use Rattle.table_print.proofs.laws.one_type_line.Goals as goal

pub returns-clause-some : goal.returns-clause-some
returns-clause-some c = lines.some_type_line

pub returns-clause-one : goal.returns-clause-one
returns-clause-one c = lines.one_type_line
