use Rattle.std.proofs.Common.{arith}
use Rattle.refl_merge.proofs.Runs.{run_more, run_ends, run_all}
use Rattle.refl_merge.proofs.entries.run_end.Goals as goal

pub loop-end-preserved : goal.loop-end-preserved
loop-end-preserved c = record {
  within = omega arith;
  beyond = omega arith;
  same = run_more c.args.entries.now c.args.start c.loop-end.end c.index-entries-end.result c.index-entries-start.result c.eq.result c.eq.ensures c.loop-end.invariant.same c.if-eq.true;
}

pub returns-else-eq : goal.returns-else-eq
returns-else-eq c = run_ends c.args.entries.now c.args.start c.loop-end.end c.index-entries-end.result c.index-entries-start.result c.eq.result c.eq.ensures c.loop-end.invariant.within c.loop-end.invariant.beyond c.loop-end.invariant.same c.if-eq.false

pub returns-after-loop-end : goal.returns-after-loop-end
returns-after-loop-end c = run_all c.args.entries.now c.args.start c.loop-end.end c.loop-end.invariant.within c.loop-end.invariant.beyond c.loop-end.invariant.same c.loop-end-test.false
