use Rattle.grid_tags.proofs.Stored.{whole_test}
use Rattle.grid_tags.proofs.keeping.is_whole.Goals as goal

pub returns : goal.returns
returns c = whole_test c.args.w c.args.n c.args.m c.from.result c.from-2.result c.requires.size c.requires.sides.0 c.requires.sides.1 c.from.ensures c.from-2.ensures
