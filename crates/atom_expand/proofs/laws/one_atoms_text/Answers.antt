use Rattle.atom_expand.proofs.SiteTexts as texts
use Rattle.atom_expand.proofs.laws.one_atoms_text.Goals as goal

pub returns-clause-some : goal.returns-clause-some
returns-clause-some c = texts.some_atoms_text

pub returns-clause-one : goal.returns-clause-one
returns-clause-one c = texts.one_atoms_text
