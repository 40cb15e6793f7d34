use Rattle.grid_tags.proofs.Stored.{stored_point}
use Rattle.grid_tags.proofs.grid_size.GridSize.point_at.Goals as goal

pub returns-clause-value : goal.returns-clause-value
returns-clause-value c = stored_point c.args.self.now _ c.args.place c.from.result c.from-2.result c.from-3.result c.from-4.result c.self.view_is c.from.ensures c.from-2.ensures c.from-3.ensures c.from-4.ensures
