use Rattle.std.proofs.Common.{arith}
use Rattle.affine_sets.specs.declared.TheConstants.{MAX_NEAR_SHIFT}
use Rattle.library_examples.proofs.averages.group_of_an_inversion.Goals as goal

pub full-requires : goal.full-requires
full-requires g c = c.mean-average-2.ensures.average MAX_NEAR_SHIFT (omega arith) c.in_ok-near.ensures.near

pub key-first-requires : goal.key-first-requires
key-first-requires g c = c.mean-average-2.ensures.average MAX_NEAR_SHIFT (omega arith) c.in_ok-near.ensures.near
