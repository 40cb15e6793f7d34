use Rattle.orbit_map.proofs.OrbitLists.{some_ordered_orbit}
use Rattle.orbit_map.proofs.laws.orbit_of_point.Goals as goal

pub returns : goal.returns
returns c = λ members x m s. some_ordered_orbit members x m s
