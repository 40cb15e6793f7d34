use Rattle.site_symmetry.proofs.FixingLists as listed
use Rattle.site_symmetry.proofs.laws.one_ordered_site.Goals as goal

pub returns : goal.returns
returns c = λ members x a b g p. listed.one_ordered_site members x g p a b
