use Rattle.map_sym.proofs.MapPages.{some_map_text, one_map_text}
use Rattle.map_sym.proofs.laws.one_map_text.Goals as goal

pub returns-clause-some : goal.returns-clause-some
returns-clause-some c = λ members map group range kept. some_map_text members map group range kept

pub returns-clause-one : goal.returns-clause-one
returns-clause-one c = λ members map s t group range kept p q. one_map_text members map group range kept s t p q
