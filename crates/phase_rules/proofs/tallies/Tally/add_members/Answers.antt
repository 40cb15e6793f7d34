use Rattle.std.proofs.Common.{subst, arith, take}
use Rattle.phase_rules.specs.Tallies.{IsTally}
use Rattle.phase_rules.proofs.Phases.{tally_more}
use Rattle.phase_rules.proofs.tallies.Tally.add_members.Goals as goal

pub add-requires-clause-turn : goal.add-requires-clause-turn
add-requires-clause-turn c = c.requires.turn c.loop-i.i c.op.result (omega (arith, c.loop-i.auto.i)) (omega arith) c.op.ensures.value

pub loop-i-preserved : goal.loop-i-preserved
loop-i-preserved c = tally_more c.args.group.now c.args.index.now c.loop-i.i c.op.result c.add.new.self c.op.ensures.value (c.add.ensures _ c.loop-i.invariant)

pub returns : goal.returns
returns c = subst (λ n. IsTally (take n c.args.group.now) c.args.index.now c.loop-i.self) (omega (arith, c.loop-i.auto.i, c.loop-i.auto.i-end, c.requires.order)) c.loop-i.invariant
