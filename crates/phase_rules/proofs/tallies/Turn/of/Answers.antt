use Rattle.phase_rules.proofs.Phases.{is_turn}
use Rattle.phase_rules.proofs.tallies.Turn.of.Goals as goal

pub returns : goal.returns
returns c = is_turn _ _ c.args.image.now c.is_row.result c.is_row-2.result c.index.view_is c.index.invariant c.is_row.ensures c.is_row-2.ensures
