use Rattle.site_symmetry.proofs.FixingLists.{some_ordered_site}
use Rattle.site_symmetry.proofs.laws.site_of_point.Goals as goal

pub returns : goal.returns
returns c = some_ordered_site
