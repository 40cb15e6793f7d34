use Rattle.table_print.proofs.GridTexts.{some_grid_text, one_grid_text}
use Rattle.table_print.proofs.laws.one_grid_text.Goals as goal

pub returns-clause-some : goal.returns-clause-some
returns-clause-some c = λ members grid group range kept. some_grid_text members group grid range kept

pub returns-clause-one : goal.returns-clause-one
returns-clause-one c = λ members grid s t group range kept p q. one_grid_text members group grid range kept s t p q
