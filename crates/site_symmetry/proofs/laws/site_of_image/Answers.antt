use Rattle.space_groups.proofs.Laws as laws
use Rattle.site_symmetry.proofs.SpaceOfGroup.{space_of}
use Rattle.site_symmetry.proofs.laws.site_of_image.Goals as goal

pub returns : goal.returns
returns c = λ members x g back s h p e i. laws.site_of_image (space_of members h) x p g back e i s
