use Rattle.map_sym.proofs.OneMap.{some_map}
use Rattle.map_sym.proofs.laws.some_summed_map.Goals as goal

pub returns : goal.returns
returns c = λ members given group range kept. some_map members given group range kept
