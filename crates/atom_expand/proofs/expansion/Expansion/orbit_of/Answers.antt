use Rattle.atom_expand.specs.Expansions.{own, shared}
use Rattle.atom_expand.proofs.Places.{read_at, linked_within}
use Rattle.atom_expand.proofs.expansion.Expansion.orbit_of.Goals as goal

pub returns-in-First : goal.returns-in-First
returns-in-First c = own (read_at c.self.inside.entries.items c.args.self.now c.args.k c.from.result c.index.result.now _ c.self.view_is c.from.ensures c.requires c.index.ensures c.in-First.is)

pub returns-in-First-index : goal.returns-in-First-index
returns-in-First-index c =
    let here = read_at c.self.inside.entries.items c.args.self.now c.args.k c.from.result c.index.result.now _ c.self.view_is c.from.ensures c.requires c.index.ensures c.in-Same.is in
    shared {j = c.in-Same.j} here (read_at c.self.inside.entries.items c.args.self.now c.in-Same.j c.from-in-Same.result c.index-in-Same.result.now _ c.self.view_is c.from-in-Same.ensures (linked_within c.self.inside.entries.items c.args.self.now c.args.k c.in-Same.j c.self.view_is c.self.invariant.1 here) c.index-in-Same.ensures c.in-First-index.is)
