use Rattle.space_groups.proofs.Laws.{order_times_multiplicity}
use Rattle.site_symmetry.proofs.SpaceOfGroup.{space_of}
use Rattle.orbit_map.proofs.laws.order_times_multiplicity.Goals as goal

pub returns : goal.returns
returns c = λ members x site orbit m p s o. order_times_multiplicity (space_of members m) x p site orbit s o
