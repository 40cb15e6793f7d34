use Rattle.lattice_algebra.specs.Operator.{identity_operator}
use Rattle.group_closure.proofs.Places.{some_member}
use Rattle.reflections.proofs.tagging.tag_class.Goals as goal

pub opposite_run-requires : goal.opposite_run-requires
opposite_run-requires c = some_member c.args.group.now c.len.ensures.group

pub tag_with_opposites-requires-clause-inversion : goal.tag_with_opposites-requires-clause-inversion
tag_with_opposites-requires-clause-inversion c = c.in-Some.ensures.first identity_operator c.len.ensures.group.first

pub returns-in-Some-clause-tags : goal.returns-in-Some-clause-tags
returns-in-Some-clause-tags c = c.tag_with_opposites.ensures.tags c.args.pairs
