use Rattle.std.proofs.Common.{arith, ◌∙◌}
use Rattle.basis_change.specs.declared.TheConstants.{MAX_CELL}
use Rattle.exact_ops.specs.declared.TheConstants.{MAX_ENTRY}
use Rattle.basis_change.proofs.Frames.{wider}
use Rattle.basis_change.proofs.cell.CellChange.frame.Goals as goal

pub of-requires-clause-within : goal.of-requires-clause-within
of-requires-clause-within c = wider MAX_CELL MAX_ENTRY _ (omega arith) c.self.invariant.within

pub of-requires-clause-some : goal.of-requires-clause-some
of-requires-clause-some c = c.self.invariant.some

pub of-requires-clause-in_cell : goal.of-requires-clause-in_cell
of-requires-clause-in_cell c = c.self.invariant.in_cell

pub of-requires-clause-denominator : goal.of-requires-clause-denominator
of-requires-clause-denominator c = (c.self.invariant.first, c.self.invariant.last)

pub returns-clause-frame : goal.returns-clause-frame
returns-clause-frame c = c.of.ensures.frame

pub returns-clause-value : goal.returns-clause-value
returns-clause-value c = c.of.ensures.value ∙ c.self.view_is
