use Rattle.std.proofs.Common.{take}
use Rattle.phase_rules.specs.Tallies.{IsTally}
use Rattle.phase_rules.proofs.tallies.Tally.add_members.Given as goal

abbrev pub invariant-loop-i : goal.invariant-loop-i
invariant-loop-i l = IsTally (take l.i l.group) l.index l.self
