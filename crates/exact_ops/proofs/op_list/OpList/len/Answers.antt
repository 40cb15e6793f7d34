use Rattle.std.proofs.Common.{subst, All}
use Rattle.exact_ops.specs.Raw.{IsListed}
use Rattle.exact_ops.proofs.Listed.{AreListed}
use Rattle.exact_ops.proofs.op_list.OpList.len.Goals as goal

pub returns-clause-listed : goal.returns-clause-listed
returns-clause-listed c = subst (All IsListed) c.self.view_is (AreListed c.self.inside.raws.items c.self.invariant)
