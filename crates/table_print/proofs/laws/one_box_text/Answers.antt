use Rattle.table_print.proofs.ClassTexts.{some_box_text, one_box_text}
use Rattle.table_print.proofs.laws.one_box_text.Goals as goal

pub returns-clause-some : goal.returns-clause-some
returns-clause-some c = λ pairs members box group. some_box_text pairs members group box

pub returns-clause-one : goal.returns-clause-one
returns-clause-one c = λ pairs members box s t group p q. one_box_text pairs members group box s t p q
