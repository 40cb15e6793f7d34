use Rattle.grid_tags.proofs.Whole.{sum_of_sizes}
use Rattle.grid_tags.proofs.laws.sizes_of_orbits_sum_to_points.Goals as goal

pub returns : goal.returns
returns c = λ members s list g r k l. sum_of_sizes members s g r k list l
