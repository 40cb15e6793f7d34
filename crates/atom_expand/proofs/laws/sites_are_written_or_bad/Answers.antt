use Rattle.std.proofs.lemmas.List.Elements.{All-from_recursion}
use Rattle.orbit_map.specs.OrderedOrbit.{IsScaled}
use Rattle.data_lines.proofs.DataLaws.{written_or_bad, same_values}
use Rattle.atom_expand.specs.Sites.{AtomSite, IsAtomLine}
use Rattle.atom_expand.proofs.SiteLines.{one_site, site_or_not, written_scaled}
use Rattle.atom_expand.proofs.laws.sites_are_written_or_bad.Goals as goal

pub returns-clause-some : goal.returns-clause-some
returns-clause-some c = written_or_bad IsAtomLine site_or_not

pub returns-clause-one : goal.returns-clause-one
returns-clause-one c = same_values IsAtomLine one_site

pub returns-clause-scaled : goal.returns-clause-scaled
returns-clause-scaled c = λ lines sites w. All-from_recursion (λ (site : AtomSite). IsScaled site.at) sites (written_scaled w)
