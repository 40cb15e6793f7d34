use Rattle.samples.proofs.CountSums.{counts_of_table}
use Rattle.samples.proofs.laws.counts_have_the_number_of_points_as_sum.Goals as goal

pub returns : goal.returns
returns c = counts_of_table
