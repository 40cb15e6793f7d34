use Rattle.std.proofs.Common.{rules, sym, ap, Err, ◌∙◌, refl}
use Rattle.std.proofs.lemmas.Bool.{false≢true}
use Rattle.group_closure.specs.declared.group.CloseFault.{CloseFault}
use Rattle.basis_change.specs.Frames.{change_in}
use Rattle.basis_change.proofs.ChangedGroup.{is_cell, are_in_parts}
use Rattle.basis_change.proofs.Existence.{not_many}
use Rattle.basis_change.proofs.basis.change_by.Goals as goal

pub are_narrow-requires : goal.are_narrow-requires
are_narrow-requires c = c.requires.frame

pub returns-then-not-are_narrow-clause-wide : goal.returns-then-not-are_narrow-clause-wide
returns-then-not-are_narrow-clause-wide c = ((λ e. (λ k. false≢true (sym c.if-not-are_narrow.true ∙ c.are_narrow.ensures.1 k))), (λ n. refl))

pub returns-then-not-are_narrow-clause-group : goal.returns-then-not-are_narrow-clause-group
returns-then-not-are_narrow-clause-group c = c.len-count.ensures.group

pub close_changed-requires-clause-frame : goal.close_changed-requires-clause-frame
close_changed-requires-clause-frame c = c.requires.frame

pub close_changed-requires-clause-cell : goal.close_changed-requires-clause-cell
close_changed-requires-clause-cell c = is_cell c.args.group.now c.len-count.ensures.group (change_in c.args.frame.now) c.requires.change

pub close_changed-requires-clause-narrow : goal.close_changed-requires-clause-narrow
close_changed-requires-clause-narrow c = (c.are_narrow.ensures.0 c.if-not-are_narrow.false)

pub close_changed-requires-clause-parts : goal.close_changed-requires-clause-parts
close_changed-requires-clause-parts c = are_in_parts c.args.group.now c.len-count.ensures.group (change_in c.args.frame.now) c.requires.change

pub unreachable-requires : goal.unreachable-requires
unreachable-requires c = not_many c.args.group.now c.len-count.ensures.group (change_in c.args.frame.now) c.requires.change (c.close_changed.ensures.many (c.in-Err-Unclosed.is ∙ ap (λ (e : CloseFault). Err e) c.in-Err-Unclosed.field-0-is))

pub returns-in-Err-NoMemory-clause-wide : goal.returns-in-Err-NoMemory-clause-wide
returns-in-Err-NoMemory-clause-wide c = ((λ e n. search rules), (λ n. absurd (n (c.are_narrow.ensures.0 c.if-not-are_narrow.false))))

pub returns-in-Err-NoMemory-clause-group : goal.returns-in-Err-NoMemory-clause-group
returns-in-Err-NoMemory-clause-group c = c.len-count.ensures.group

pub returns-in-Ok-clause-members : goal.returns-in-Ok-clause-members
returns-in-Ok-clause-members c = c.in-Ok.ensures.group

pub returns-in-Ok-clause-changed : goal.returns-in-Ok-clause-changed
returns-in-Ok-clause-changed c = c.in-Ok.ensures.changed

pub returns-in-Ok-clause-wide : goal.returns-in-Ok-clause-wide
returns-in-Ok-clause-wide c = ((λ e n. search rules), (λ n. absurd (n (c.are_narrow.ensures.0 c.if-not-are_narrow.false))))

pub returns-in-Ok-clause-group : goal.returns-in-Ok-clause-group
returns-in-Ok-clause-group c = c.len-count.ensures.group

pub returns-in-Ok-clause-narrow : goal.returns-in-Ok-clause-narrow
returns-in-Ok-clause-narrow c = c.are_narrow.ensures.0 c.if-not-are_narrow.false
