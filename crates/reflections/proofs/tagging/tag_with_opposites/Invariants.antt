use Rattle.std.proofs.Common.{take, length, ◌≤◌, ◌-◌}
use Rattle.phase_rules.specs.declared.pairs.Pairs.TheVariants.{Friedel}
use Rattle.phase_rules.specs.Tallies.{IsTally}
use Rattle.reflections.proofs.Tags.{AreReached}
use Rattle.reflections.proofs.tagging.tag_with_opposites.Given as goal

abbrev pub invariant-runs : goal.invariant-runs
invariant-runs l = record {
  within : l.i ≤ length l.group;
  tally : IsTally (take l.i l.group) l.index l.tally;
  reached : AreReached Friedel l.group l.size l.fn.tags l.tags l.index l.i;
}

abbrev pub decreases-runs : goal.decreases-runs
decreases-runs l = length l.group - l.i
