use Rattle.space_groups.proofs.Laws.{one_element}
use Rattle.site_symmetry.proofs.SpaceOfGroup.{space_of}
use Rattle.site_symmetry.proofs.laws.one_element_of_a_rotation.Goals as goal

pub returns : goal.returns
returns c = λ members x a b g p. one_element (space_of members g) x p a b
