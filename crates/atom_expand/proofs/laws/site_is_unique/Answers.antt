use Rattle.atom_expand.proofs.SiteLines.{one_site}
use Rattle.atom_expand.proofs.laws.site_is_unique.Goals as goal

pub returns : goal.returns
returns c = one_site
