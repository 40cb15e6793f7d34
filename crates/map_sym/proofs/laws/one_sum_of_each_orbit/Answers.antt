use Rattle.map_sym.proofs.OrbitSums.{one_on_orbits}
use Rattle.map_sym.proofs.laws.one_sum_of_each_orbit.Goals as goal

pub returns : goal.returns
returns c = λ members given map group range kept is. one_on_orbits members given group range kept map is
