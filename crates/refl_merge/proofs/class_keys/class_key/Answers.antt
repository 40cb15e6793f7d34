use Rattle.lattice_algebra.specs.Operator.{identity_operator}
use Rattle.group_closure.proofs.Places.{some_member}
use Rattle.refl_merge.proofs.class_keys.class_key.Goals as goal

pub opposite_run-requires : goal.opposite_run-requires
opposite_run-requires c = some_member c.args.group.now c.len.ensures.group

pub key_with_opposites-requires-clause-inversion : goal.key_with_opposites-requires-clause-inversion
key_with_opposites-requires-clause-inversion c = c.in-Some.ensures.first identity_operator c.len.ensures.group.first

pub returns-in-Some : goal.returns-in-Some
returns-in-Some c = c.key_with_opposites.ensures c.args.pairs
