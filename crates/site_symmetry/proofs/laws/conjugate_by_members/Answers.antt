use Rattle.space_groups.proofs.Laws as laws
use Rattle.site_symmetry.proofs.SpaceOfGroup.{space_of}
use Rattle.site_symmetry.proofs.laws.conjugate_by_members.Goals as goal

pub returns : goal.returns
returns c = λ members x y h p q. laws.conjugate_by_members (space_of members h) x y p q
