use Rattle.grid_tags.proofs.Whole.{one_line_each}
use Rattle.grid_tags.proofs.laws.one_line_of_each_orbit.Goals as goal

pub returns : goal.returns
returns c = λ members s list p g r k l i. one_line_each members s g r k list p l i
