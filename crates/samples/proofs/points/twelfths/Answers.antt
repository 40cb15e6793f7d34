use Rattle.samples.proofs.MadePoints.{are_twelfths}
use Rattle.samples.proofs.points.twelfths.Goals as goal

pub returns : goal.returns
returns c = are_twelfths c.units.result c.units-2.result c.units-3.result c.units-4.result c.args.x c.args.y c.args.z c.requires.x c.requires.y c.requires.z c.units.ensures c.units-2.ensures c.units-3.ensures c.units-4.ensures
