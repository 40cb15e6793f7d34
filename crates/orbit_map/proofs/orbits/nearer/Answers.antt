use Rattle.orbit_map.proofs.Nearer.{before, behind}
use Rattle.orbit_map.proofs.orbits.nearer.Goals as goal

pub returns-then-n-lt0 : goal.returns-then-n-lt0
returns-then-n-lt0 c = before c.args.n c.args.d c.ranges.n c.ranges.d c.requires c.if-n-lt0.true

pub returns-then-n-d : goal.returns-then-n-d
returns-then-n-d c = behind c.args.n c.args.d c.ranges.n c.ranges.d c.requires c.if-n-d.true
