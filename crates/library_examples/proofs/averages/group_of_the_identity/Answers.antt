use Rattle.std.proofs.Common.{arith}
use Rattle.library_examples.proofs.averages.group_of_the_identity.Goals as goal

pub full-requires : goal.full-requires
full-requires g c = c.mean-average.ensures.average 0 (omega arith) c.in_ok-trivial.ensures.shifts

pub key-first-requires : goal.key-first-requires
key-first-requires g c = c.mean-average.ensures.average 0 (omega arith) c.in_ok-trivial.ensures.shifts
