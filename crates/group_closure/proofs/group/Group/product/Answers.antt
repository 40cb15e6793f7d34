use Rattle.std.proofs.Common.{get_or, length, subst}
use Rattle.std.proofs.lemmas.Option.{slice_get_within}
use Rattle.lattice_algebra.specs.Operator.{product}
use Rattle.exact_ops.specs.declared.TheConstants.{UNIT}
use Rattle.group_closure.specs.Table.{IsProductTable}
use Rattle.group_closure.proofs.Tables.{product_read}
use Rattle.group_closure.proofs.Places.{some_at}
use Rattle.group_closure.proofs.group.Group.product.Goals as goal

pub returns-clause-within : goal.returns-clause-within
returns-clause-within c =
    let t = subst (λ v. IsProductTable v c.self.inside.products.items c.self.inside.inverses.items (length v)) c.self.view_is c.self.invariant.all in
    let f = some_at c.args.self.now c.args.i c.requires.left in
    let g = some_at c.args.self.now c.args.j c.requires.right in
    slice_get_within c.args.self.now (get_or c.index.result.now c.from-2.result 0) (product UNIT f.0 g.0) (product_read c.args.self.now c.self.inside.products.items c.self.inside.inverses.items c.args.i c.args.j c.from.result c.from-2.result c.index.result.now t c.requires.left c.from.ensures c.from-2.ensures c.index.ensures f.0 g.0 f.1 g.1)

pub returns-clause-value : goal.returns-clause-value
returns-clause-value c =
    let t = subst (λ v. IsProductTable v c.self.inside.products.items c.self.inside.inverses.items (length v)) c.self.view_is c.self.invariant.all in
    product_read c.args.self.now c.self.inside.products.items c.self.inside.inverses.items c.args.i c.args.j c.from.result c.from-2.result c.index.result.now t c.requires.left c.from.ensures c.from-2.ensures c.index.ensures
