use Rattle.table_print.proofs.ClassTexts.{some_index_text, one_index_text}
use Rattle.table_print.proofs.laws.one_index_text.Goals as goal

pub returns-clause-some : goal.returns-clause-some
returns-clause-some c = some_index_text

pub returns-clause-one : goal.returns-clause-one
returns-clause-one c = λ pairs members h s t group p q. one_index_text pairs members group h s t p q
