use Rattle.std.proofs.Common.{take, length, ◌≤◌, ◌-◌}
use Rattle.phase_rules.specs.Tallies.{IsTally}
use Rattle.reflections.proofs.Tags.{AreReached}
use Rattle.reflections.proofs.tagging.tag_by_runs.Given as goal

abbrev pub invariant-loop-i : goal.invariant-loop-i
invariant-loop-i l = record {
  within : l.i ≤ length l.group;
  tally : IsTally (take l.i l.group) l.index l.tally;
  reached : AreReached l.pairs l.group l.size l.fn.tags l.tags l.index l.i;
}

abbrev pub decreases-loop-i : goal.decreases-loop-i
decreases-loop-i l = length l.group - l.i
