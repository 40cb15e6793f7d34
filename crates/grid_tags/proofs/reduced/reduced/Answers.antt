use Rattle.std.proofs.Common.{w32, FitsSigned, rules}
use Rattle.grid_tags.proofs.BySteps.{near_is}
use Rattle.grid_tags.proofs.reduced.reduced.Goals as goal

pub returns-clause-value : goal.returns-clause-value
returns-clause-value c =
    let fits : FitsSigned w32 c.raised-near.result = search rules in
    near_is c.args.value c.from-n.result c.args.n c.requires.size c.requires.side c.from-n.ensures c.raised-near.result fits c.raised-near.ensures c.if-near-lt0.false c.if-n-near.false
