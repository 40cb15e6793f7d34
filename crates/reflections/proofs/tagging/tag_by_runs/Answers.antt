use Rattle.std.proofs.Common.{arith}
use Rattle.phase_rules.proofs.Phases.{tally_all}
use Rattle.phase_rules.proofs.Runs.{passed, turned}
use Rattle.reflections.proofs.Tags.{reached_none, reached_more, reached_all}
use Rattle.reflections.proofs.tagging.tag_by_runs.Goals as goal

pub loop-i-init : goal.loop-i-init
loop-i-init c = record {
  within = omega arith;
  tally = c.none-tally.ensures c.args.index.now;
  reached = reached_none c.args.pairs c.args.group.now c.args.size.now c.args.tags.now c.args.index.now;
}

pub add_run-requires-clause-turn : goal.add_run-requires-clause-turn
add_run-requires-clause-turn c =
    turned c.args.group.now c.args.index.now c.loop-i.i c.run_end-end.result c.op.result c.tag_images-turn.result (record { first = c.run_end-end.ensures.first; run = c.run_end-end.ensures.run }) c.op.ensures.value c.tag_images-turn.ensures.turn

pub loop-i-preserved-then-turn : goal.loop-i-preserved-then-turn
loop-i-preserved-then-turn c = record {
  within = c.run_end-end.ensures.within;
  tally = c.add_run.ensures;
  reached = reached_more c.args.pairs c.args.group.now c.args.size.now c.args.tags.now c.args.index.now c.loop-i.tags c.tag_images-turn.new.tags c.loop-i.i c.run_end-end.result c.op.result c.op.ensures.value (record { first = c.run_end-end.ensures.first; run = c.run_end-end.ensures.run }) c.loop-i.invariant.reached c.tag_images-turn.ensures.tags;
}

pub loop-i-preserved : goal.loop-i-preserved
loop-i-preserved c =
    let turns = turned c.args.group.now c.args.index.now c.loop-i.i c.run_end-end.result c.op.result c.tag_images-turn.result (record { first = c.run_end-end.ensures.first; run = c.run_end-end.ensures.run }) c.op.ensures.value c.tag_images-turn.ensures.turn in
    record {
      within = c.run_end-end.ensures.within;
      tally = passed c.args.group.now c.args.index.now c.loop-i.i c.run_end-end.result c.tag_images-turn.result c.loop-i.tally (omega (arith, c.run_end-end.ensures.beyond)) c.run_end-end.ensures.within turns c.if-turn.false c.if-turn-2.false c.loop-i.invariant.tally;
      reached = reached_more c.args.pairs c.args.group.now c.args.size.now c.args.tags.now c.args.index.now c.loop-i.tags c.tag_images-turn.new.tags c.loop-i.i c.run_end-end.result c.op.result c.op.ensures.value (record { first = c.run_end-end.ensures.first; run = c.run_end-end.ensures.run }) c.loop-i.invariant.reached c.tag_images-turn.ensures.tags;
    }

pub returns-clause-tally : goal.returns-clause-tally
returns-clause-tally c = tally_all c.args.group.now c.args.index.now c.loop-i.i c.loop-i.tally (omega arith) c.loop-i.invariant.tally

pub returns-clause-tags : goal.returns-clause-tags
returns-clause-tags c = reached_all c.args.pairs c.args.group.now c.args.size.now c.args.tags.now c.args.index.now c.loop-i.tags c.loop-i.i (omega arith) c.loop-i.invariant.reached
