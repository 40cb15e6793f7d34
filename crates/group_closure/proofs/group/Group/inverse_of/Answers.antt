use Rattle.std.proofs.Common.{length, subst}
use Rattle.group_closure.specs.Table.{IsProductTable}
use Rattle.group_closure.proofs.Tables.{inverse_read}
use Rattle.group_closure.proofs.group.Group.inverse_of.Goals as goal

pub returns-clause-within : goal.returns-clause-within
returns-clause-within c =
    let t = subst (λ v. IsProductTable v c.self.inside.products.items c.self.inside.inverses.items (length v)) c.self.view_is c.self.invariant.all in
    inverse_read c.args.self.now c.self.inside.products.items c.self.inside.inverses.items c.args.i c.from.result c.index.result.now t c.requires c.from.ensures c.index.ensures
