use Rattle.group_closure.proofs.OneMatrix.{opposite_read}
use Rattle.group_closure.proofs.group.Group.opposite_run.Goals as goal

pub returns-clause-some : goal.returns-clause-some
returns-clause-some c = λ f p. (opposite_read _ _ _ _ _ c.self.view_is c.from.ensures c.self.invariant.opposites_known f p).some

pub returns-clause-first : goal.returns-clause-first
returns-clause-first c = λ f p. (opposite_read _ _ _ _ _ c.self.view_is c.from.ensures c.self.invariant.opposites_known f p).first
