use Rattle.std.proofs.Common.{arith}
use Rattle.phase_rules.proofs.Phases.{asked_now}
use Rattle.phase_rules.proofs.Runs.{turned}
use Rattle.phase_rules.proofs.tallies.Tally.of.Goals as goal

pub loop-i-init : goal.loop-i-init
loop-i-init c = record { within = omega arith; tally = c.none-tally.ensures c.args.index.now }

pub add_run-requires-clause-turn : goal.add_run-requires-clause-turn
add_run-requires-clause-turn c =
    turned c.args.group.now c.args.index.now c.loop-i.i c.run_end-end.result c.op.result c.of-turn.result (record { first = c.run_end-end.ensures.first; run = c.run_end-end.ensures.run }) c.op.ensures.value
    (asked_now c.args.index.now c.op.result c.w.result c.times.result c.of-turn.result c.w.ensures.value c.times.ensures c.of-turn.ensures)
