use Rattle.atom_expand.proofs.SamePoints.{crossed}
use Rattle.atom_expand.proofs.same.is_same_ratio.Goals as goal

pub returns : goal.returns
returns c = crossed c.args.a c.args.d c.args.b c.args.e (c.requires.first, (c.requires.under, (c.requires.second, (c.requires.over, tt))))
