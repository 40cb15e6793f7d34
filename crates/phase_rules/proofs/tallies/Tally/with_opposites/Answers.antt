use Rattle.group_closure.proofs.Places.{contains_at}
use Rattle.phase_rules.proofs.Opposites.{whole_by_half}
use Rattle.phase_rules.proofs.tallies.Tally.with_opposites.Goals as goal

pub op-requires : goal.op-requires
op-requires c = c.requires.inversion.within

pub returns : goal.returns
returns c =
    let r = c.requires.first in
    whole_by_half c.args.group.now c.args.index.now r.0 c.args.self.now r.2 r.1 c.if-self-gt0.false c.op.result c.phase_of.result c.op.ensures.group (contains_at c.args.group.now c.op.result c.args.inversion c.op.ensures.value) (c.requires.inversion.at c.op.result c.op.ensures.value) c.phase_of.ensures
