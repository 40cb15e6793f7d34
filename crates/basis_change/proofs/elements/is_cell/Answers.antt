use Rattle.std.proofs.Common.{arith, refl, sym, ◌∙◌}
use Rattle.std.proofs.lemmas.Bool.{false≢true}
use Rattle.space_groups.specs.Bases.{x_cell, y_cell, z_cell}
use Rattle.basis_change.proofs.elements.is_cell.Goals as goal

pub has_cell-requires-clause-frame : goal.has_cell-requires-clause-frame
has_cell-requires-clause-frame c = c.requires

pub has_cell-requires-clause-axis : goal.has_cell-requires-clause-axis
has_cell-requires-clause-axis c = omega arith

pub has_cell-requires-2-clause-frame : goal.has_cell-requires-2-clause-frame
has_cell-requires-2-clause-frame c = c.requires

pub has_cell-requires-2-clause-axis : goal.has_cell-requires-2-clause-axis
has_cell-requires-2-clause-axis c = omega arith

pub has_cell-requires-3-clause-frame : goal.has_cell-requires-3-clause-frame
has_cell-requires-3-clause-frame c = c.requires

pub has_cell-requires-3-clause-axis : goal.has_cell-requires-3-clause-axis
has_cell-requires-3-clause-axis c = omega arith

pub returns-then-not-has_cell : goal.returns-then-not-has_cell
returns-then-not-has_cell c = ((λ t. absurd (false≢true t)), (λ k. absurd (false≢true (sym c.if-not-has_cell.true ∙ (c.has_cell.ensures x_cell refl).1 k.x))))

pub returns-then-not-has_cell-2 : goal.returns-then-not-has_cell-2
returns-then-not-has_cell-2 c = ((λ t. absurd (false≢true t)), (λ k. absurd (false≢true (sym c.if-not-has_cell-2.true ∙ (c.has_cell-2.ensures y_cell refl).1 k.y))))

pub returns : goal.returns
returns c = ((λ t. record { x = (c.has_cell.ensures x_cell refl).0 c.if-not-has_cell.false; y = (c.has_cell-2.ensures y_cell refl).0 c.if-not-has_cell-2.false; z = (c.has_cell-3.ensures z_cell refl).0 t }), (λ k. (c.has_cell-3.ensures z_cell refl).1 k.z))
