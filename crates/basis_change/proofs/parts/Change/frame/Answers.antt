use Rattle.std.proofs.Common.{arith, subst, ◌∙◌, refl}
use Rattle.space_groups.specs.Bases.{IsBasisChange}
use Rattle.space_groups.proofs.Changes.{IsInvertible-unimodular}
use Rattle.basis_change.proofs.Frames.{det_some}
use Rattle.basis_change.proofs.parts.Change.frame.Goals as goal

pub of-requires-clause-within : goal.of-requires-clause-within
of-requires-clause-within c = c.self.invariant.within

pub of-requires-clause-some : goal.of-requires-clause-some
of-requires-clause-some c = det_some _ (IsInvertible-unimodular _ c.self.invariant.unimodular)

pub of-requires-clause-in_cell : goal.of-requires-clause-in_cell
of-requires-clause-in_cell c = c.self.invariant.in_cell

pub of-requires-clause-denominator : goal.of-requires-clause-denominator
of-requires-clause-denominator c = (omega arith, omega arith)

pub returns-clause-frame : goal.returns-clause-frame
returns-clause-frame c = c.of.ensures.frame

pub returns-clause-value : goal.returns-clause-value
returns-clause-value c = c.of.ensures.value ∙ c.self.view_is

pub returns-clause-change : goal.returns-clause-change
returns-clause-change c = subst IsBasisChange c.self.view_is (record { unimodular = c.self.invariant.unimodular; one = refl })
