use Rattle.table_print.proofs.TablePages.{some_table_text, one_table_text}
use Rattle.table_print.proofs.laws.one_table_text.Goals as goal

pub returns-clause-some : goal.returns-clause-some
returns-clause-some c = some_table_text

pub returns-clause-one : goal.returns-clause-one
returns-clause-one c = one_table_text
