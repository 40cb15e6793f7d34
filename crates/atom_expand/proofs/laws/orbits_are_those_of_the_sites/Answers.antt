use Rattle.atom_expand.proofs.Standing.{orbit_of_site}
use Rattle.atom_expand.proofs.laws.orbits_are_those_of_the_sites.Goals as goal

pub returns : goal.returns
returns c = λ members sites entries is k site points s o. orbit_of_site members sites entries is k site points s o
