use Rattle.std.proofs.Common.{take, length, ◌≤◌, ◌-◌}
use Rattle.phase_rules.specs.Tallies.{IsTally}
use Rattle.phase_rules.proofs.tallies.Tally.of.Given as goal

abbrev pub invariant-loop-i : goal.invariant-loop-i
invariant-loop-i l = record { within : l.i ≤ length l.group; tally : IsTally (take l.i l.group) l.index l.tally }

abbrev pub decreases-loop-i : goal.decreases-loop-i
decreases-loop-i l = length l.group - l.i
