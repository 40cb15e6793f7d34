use Rattle.map_sym.proofs.OneMap.{one_map}
use Rattle.map_sym.proofs.laws.one_summed_map.Goals as goal

pub returns : goal.returns
returns c = λ members given a b group range kept x y. one_map members given group range kept a b x y
