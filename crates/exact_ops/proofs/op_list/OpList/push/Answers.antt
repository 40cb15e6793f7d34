use Rattle.std.proofs.Common.{subst, sym}
use Rattle.exact_ops.specs.OpList.{AreUnimodular}
use Rattle.exact_ops.proofs.Listed.{AreUnimodular-push, numbers-push}
use Rattle.exact_ops.proofs.op_list.OpList.push.Goals as goal

pub invariant_of-self : goal.invariant_of-self
invariant_of-self c = subst AreUnimodular (sym c.in_default.ensures.items) c.self.invariant

pub invariant_of-self-2 : goal.invariant_of-self-2
invariant_of-self-2 c = AreUnimodular-push c.self.inside.raws.items c.push.new.self.items c.args.raw.now c.self.invariant (c.unimodular.ensures.0 c.if-not-unimodular.false) c.in-Ok.ensures.items

pub returns-clause-ok : goal.returns-clause-ok
returns-clause-ok c = numbers-push c.self.inside.raws.items c.push.new.self.items c.args.raw.now c.args.self.now c.self.view_is c.in-Ok.ensures.items
