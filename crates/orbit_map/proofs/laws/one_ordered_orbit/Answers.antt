use Rattle.orbit_map.proofs.OrbitLists.{one_orbit}
use Rattle.orbit_map.proofs.laws.one_ordered_orbit.Goals as goal

pub returns : goal.returns
returns c = λ members x a b m p q r. one_orbit members x a b p q r
