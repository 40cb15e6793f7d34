use Rattle.grid_tags.proofs.Whole.{one_grid_list}
use Rattle.grid_tags.proofs.laws.one_grid_list.Goals as goal

pub returns : goal.returns
returns c = λ members s a b g r k p q. one_grid_list members s g r k a b p q
