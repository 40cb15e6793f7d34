use Rattle.atom_expand.specs.Sites.{site_in}
use Rattle.atom_expand.proofs.Places.{if_none}
use Rattle.atom_expand.proofs.atom.AtomDatum.read.Goals as goal

pub returns-clause-none : goal.returns-clause-none
returns-clause-none c = if_none c.read_atom.result (λ none. λ value. none (site_in value)) c.read_atom.ensures.none
