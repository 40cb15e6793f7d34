use Rattle.std.proofs.Common.{◌+◌, ◌*◌, ◌%◌, ap, refl}
use Rattle.samples.specs.Points.{next, drawn}
use Rattle.samples.proofs.points.Draws.draw.Goals as goal

pub returns-clause-state : goal.returns-clause-state
unfolding next
returns-clause-state c = ap (λ s. (s * 1664525 + 1013904223) % 4294967296) c.from.ensures

pub returns-clause-value : goal.returns-clause-value
unfolding drawn
returns-clause-value c = refl
