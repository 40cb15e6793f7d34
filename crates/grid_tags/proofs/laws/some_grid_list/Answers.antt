use Rattle.grid_tags.proofs.Whole.{some_grid_list}
use Rattle.grid_tags.proofs.laws.some_grid_list.Goals as goal

pub returns : goal.returns
returns c = some_grid_list
