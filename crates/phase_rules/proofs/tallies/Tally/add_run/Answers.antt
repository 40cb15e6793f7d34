use Rattle.phase_rules.proofs.Runs.{passed}
use Rattle.phase_rules.proofs.tallies.Tally.add_run.Goals as goal

pub returns-else-turn-2 : goal.returns-else-turn-2
returns-else-turn-2 c = passed c.args.group.now c.args.index.now c.args.start c.args.end c.args.turn c.args.self.now c.requires.order c.requires.within c.requires.turn c.if-turn.false c.if-turn-2.false c.requires.tally
