use Rattle.std.proofs.Common.{◌≡◌, ◌≤◌, ◌-◌}
use Rattle.samples.specs.declared.counting.TheConstants.{POINTS}
use Rattle.samples.specs.Points.{state_before}
use Rattle.samples.specs.Counts.{AreCounts}
use Rattle.samples.proofs.counting.count_points.Given as goal

abbrev pub invariant-loop-made : goal.invariant-loop-made
invariant-loop-made l = record {
  counted : AreCounts l.group l.rows l.seed l.made l.counts.items;
  state : l.draws.state ≡ state_before l.seed l.made;
  few : l.made ≤ POINTS;
}

abbrev pub decreases-loop-made : goal.decreases-loop-made
decreases-loop-made l = POINTS - l.made
