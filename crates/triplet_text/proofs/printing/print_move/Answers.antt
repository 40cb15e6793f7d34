use Rattle.std.proofs.Common.{rules, arith}
use Rattle.std.proofs.lemmas.Grind.{common_steps}
use Rattle.lattice_algebra.specs.Matrix.{◌+ᶜ◌, times}
use Rattle.triplet_text.proofs.printing.print_move.Goals as goal

pub returns : goal.returns
unfolding ◌+ᶜ◌ times
returns c = first_of (search rules, grind (arith, common_steps))
