use Rattle.map_sym.proofs.OrbitSums.{sum_over_list}
use Rattle.map_sym.proofs.laws.sums_of_grid_list_are_total.Goals as goal

pub returns : goal.returns
returns c = λ members given map group range kept all is. sum_over_list members given group range kept map is all
