use Rattle.std.proofs.Common.{arith}
use Rattle.group_closure.proofs.Places.{contains_at, some_at}
use Rattle.phase_rules.specs.declared.pairs.Pairs.TheVariants.{Friedel}
use Rattle.phase_rules.proofs.Opposites.{have_opposites}
use Rattle.phase_rules.proofs.Runs.{passed, turned}
use Rattle.reflections.proofs.Tags.{reached_none, reached_more, reached_by_half}
use Rattle.reflections.proofs.tagging.tag_with_opposites.Goals as goal

pub runs-init : goal.runs-init
runs-init c = record {
  within = omega arith;
  tally = c.none-tally.ensures c.args.index.now;
  reached = reached_none Friedel c.args.group.now c.args.size.now c.args.tags.now c.args.index.now;
}

pub add_run-requires-clause-turn : goal.add_run-requires-clause-turn
add_run-requires-clause-turn c =
    turned c.args.group.now c.args.index.now c.runs.i c.run_end-end.result c.op.result c.tag_images-turn.result (record { first = c.run_end-end.ensures.first; run = c.run_end-end.ensures.run }) c.op.ensures.value c.tag_images-turn.ensures.turn

pub runs-preserved-then-turn : goal.runs-preserved-then-turn
runs-preserved-then-turn c = record {
  within = c.run_end-end.ensures.within;
  tally = c.add_run.ensures;
  reached = reached_more Friedel c.args.group.now c.args.size.now c.args.tags.now c.args.index.now c.runs.tags c.tag_images-turn.new.tags c.runs.i c.run_end-end.result c.op.result c.op.ensures.value (record { first = c.run_end-end.ensures.first; run = c.run_end-end.ensures.run }) c.runs.invariant.reached c.tag_images-turn.ensures.tags;
}

pub runs-preserved : goal.runs-preserved
runs-preserved c =
    let turns = turned c.args.group.now c.args.index.now c.runs.i c.run_end-end.result c.op.result c.tag_images-turn.result (record { first = c.run_end-end.ensures.first; run = c.run_end-end.ensures.run }) c.op.ensures.value c.tag_images-turn.ensures.turn in
    record {
      within = c.run_end-end.ensures.within;
      tally = passed c.args.group.now c.args.index.now c.runs.i c.run_end-end.result c.tag_images-turn.result c.runs.tally (omega (arith, c.run_end-end.ensures.beyond)) c.run_end-end.ensures.within turns c.if-turn.false c.if-turn-2.false c.runs.invariant.tally;
      reached = reached_more Friedel c.args.group.now c.args.size.now c.args.tags.now c.args.index.now c.runs.tags c.tag_images-turn.new.tags c.runs.i c.run_end-end.result c.op.result c.op.ensures.value (record { first = c.run_end-end.ensures.first; run = c.run_end-end.ensures.run }) c.runs.invariant.reached c.tag_images-turn.ensures.tags;
    }

pub with_opposites-requires-clause-first : goal.with_opposites-requires-clause-first
with_opposites-requires-clause-first c =
    let j = some_at c.args.group.now c.args.inversion c.requires.inversion.within in
    (c.runs.i, have_opposites c.args.group.now c.requires.group j.0 (contains_at c.args.group.now j.0 c.args.inversion j.1) (c.requires.inversion.at j.0 j.1) c.runs.i (c.stands_first.ensures.behind c.runs-test.false), c.runs.invariant.tally)

pub returns-clause-tags : goal.returns-clause-tags
returns-clause-tags c = λ pairs.
    let members = c.args.group.now in
    let j = some_at members c.args.inversion c.requires.inversion.within in
    let m = contains_at members j.0 c.args.inversion j.1 in
    let w = c.requires.inversion.at j.0 j.1 in
    reached_by_half members c.args.size.now c.args.tags.now c.args.index.now c.requires.group j.0 m w pairs c.runs.tags c.runs.i (have_opposites members c.requires.group j.0 m w c.runs.i (c.stands_first.ensures.behind c.runs-test.false)) c.runs.invariant.reached
