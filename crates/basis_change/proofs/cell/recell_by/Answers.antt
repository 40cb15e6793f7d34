use Rattle.std.proofs.Common.{sym, ap, Err, ◌∙◌}
use Rattle.group_closure.specs.declared.group.CloseFault.{CloseFault}
use Rattle.std.proofs.lemmas.Bool.{false≢true}
use Rattle.basis_change.proofs.cell.recell_by.Goals as goal

pub is_cell-requires : goal.is_cell-requires
is_cell-requires c = c.requires

pub are_whole-requires : goal.are_whole-requires
are_whole-requires c = c.requires

pub are_narrow-requires : goal.are_narrow-requires
are_narrow-requires c = c.requires

pub are_in_parts-requires-clause-frame : goal.are_in_parts-requires-clause-frame
are_in_parts-requires-clause-frame c = c.requires

pub are_in_parts-requires-clause-narrow : goal.are_in_parts-requires-clause-narrow
are_in_parts-requires-clause-narrow c = (c.are_narrow.ensures.0 c.if-not-are_narrow.false)

pub close_changed-requires-clause-frame : goal.close_changed-requires-clause-frame
close_changed-requires-clause-frame c = c.requires

pub close_changed-requires-clause-cell : goal.close_changed-requires-clause-cell
close_changed-requires-clause-cell c = (c.is_cell.ensures.0 c.if-not-is_cell.false)

pub close_changed-requires-clause-narrow : goal.close_changed-requires-clause-narrow
close_changed-requires-clause-narrow c = (c.are_narrow.ensures.0 c.if-not-are_narrow.false)

pub close_changed-requires-clause-parts : goal.close_changed-requires-clause-parts
close_changed-requires-clause-parts c = (c.are_in_parts.ensures.0 c.if-not-are_in_parts.false)

pub returns-then-not-is_cell-clause-refused : goal.returns-then-not-is_cell-clause-refused
returns-then-not-is_cell-clause-refused c = (λ k. false≢true (sym c.if-not-is_cell.true ∙ c.is_cell.ensures.1 k))

pub returns-then-not-are_whole-clause-refused : goal.returns-then-not-are_whole-clause-refused
returns-then-not-are_whole-clause-refused c = ((c.is_cell.ensures.0 c.if-not-is_cell.false), (λ k. false≢true (sym c.if-not-are_whole.true ∙ c.are_whole.ensures.1 k)))

pub returns-then-not-are_narrow-clause-refused : goal.returns-then-not-are_narrow-clause-refused
returns-then-not-are_narrow-clause-refused c = ((c.is_cell.ensures.0 c.if-not-is_cell.false), (c.are_whole.ensures.0 c.if-not-are_whole.false), (λ k. false≢true (sym c.if-not-are_narrow.true ∙ c.are_narrow.ensures.1 k)))

pub returns-then-not-are_in_parts-clause-refused : goal.returns-then-not-are_in_parts-clause-refused
returns-then-not-are_in_parts-clause-refused c = ((c.is_cell.ensures.0 c.if-not-is_cell.false), (c.are_whole.ensures.0 c.if-not-are_whole.false), (c.are_narrow.ensures.0 c.if-not-are_narrow.false), (λ k. false≢true (sym c.if-not-are_in_parts.true ∙ c.are_in_parts.ensures.1 k)))

pub returns-in-Ok-clause-ok : goal.returns-in-Ok-clause-ok
returns-in-Ok-clause-ok c = record { may = record { cell = (c.is_cell.ensures.0 c.if-not-is_cell.false); whole = (c.are_whole.ensures.0 c.if-not-are_whole.false); narrow = (c.are_narrow.ensures.0 c.if-not-are_narrow.false); parts = (c.are_in_parts.ensures.0 c.if-not-are_in_parts.false) }; few = c.in-Ok.ensures.few; group = c.in-Ok.ensures.group; changed_group = c.in-Ok.ensures.changed }

pub returns-in-Err-Unclosed-clause-refused : goal.returns-in-Err-Unclosed-clause-refused
returns-in-Err-Unclosed-clause-refused c = (record { cell = (c.is_cell.ensures.0 c.if-not-is_cell.false); whole = (c.are_whole.ensures.0 c.if-not-are_whole.false); narrow = (c.are_narrow.ensures.0 c.if-not-are_narrow.false); parts = (c.are_in_parts.ensures.0 c.if-not-are_in_parts.false) }, c.close_changed.ensures.many (c.in-Err-Unclosed.is ∙ ap (λ (e : CloseFault). Err e) c.in-Err-Unclosed.field-0-is))

pub returns-in-Err-NoMemory-clause-refused : goal.returns-in-Err-NoMemory-clause-refused
returns-in-Err-NoMemory-clause-refused c = record { cell = (c.is_cell.ensures.0 c.if-not-is_cell.false); whole = (c.are_whole.ensures.0 c.if-not-are_whole.false); narrow = (c.are_narrow.ensures.0 c.if-not-are_narrow.false); parts = (c.are_in_parts.ensures.0 c.if-not-are_in_parts.false) }

pub returns-then-not-is_cell-clause-group : goal.returns-then-not-is_cell-clause-group
returns-then-not-is_cell-clause-group c = c.len-count.ensures.group

pub returns-then-not-are_whole-clause-group : goal.returns-then-not-are_whole-clause-group
returns-then-not-are_whole-clause-group c = c.len-count.ensures.group

pub returns-then-not-are_narrow-clause-group : goal.returns-then-not-are_narrow-clause-group
returns-then-not-are_narrow-clause-group c = c.len-count.ensures.group

pub returns-then-not-are_in_parts-clause-group : goal.returns-then-not-are_in_parts-clause-group
returns-then-not-are_in_parts-clause-group c = c.len-count.ensures.group

pub returns-in-Ok-clause-group : goal.returns-in-Ok-clause-group
returns-in-Ok-clause-group c = c.len-count.ensures.group

pub returns-in-Err-Unclosed-clause-group : goal.returns-in-Err-Unclosed-clause-group
returns-in-Err-Unclosed-clause-group c = c.len-count.ensures.group

pub returns-in-Err-NoMemory-clause-group : goal.returns-in-Err-NoMemory-clause-group
returns-in-Err-NoMemory-clause-group c = c.len-count.ensures.group
