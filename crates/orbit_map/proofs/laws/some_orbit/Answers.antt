use Rattle.space_groups.proofs.Laws as laws
use Rattle.site_symmetry.proofs.SpaceOfGroup.{space_of}
use Rattle.orbit_map.proofs.laws.some_orbit.Goals as goal

pub returns : goal.returns
returns c = λ members x m p. laws.some_orbit (space_of members m) x p
