use Rattle.grid_tags.specs.Grids.{triple_of}
use Rattle.grid_tags.proofs.Stored.{stored_place}
use Rattle.grid_tags.proofs.grid_size.GridSize.place.Goals as goal

pub returns-clause-value : goal.returns-clause-value
returns-clause-value c = stored_place c.args.self.now _ (triple_of c.args.at.now) _ _ _ _ _ c.self.view_is c.from.ensures c.from-2.ensures c.from-3.ensures c.from-4.ensures c.from-5.ensures
