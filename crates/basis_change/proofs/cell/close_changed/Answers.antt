use Rattle.std.proofs.Common.{rules}
use Rattle.group_closure.specs.GroupList.{IsGroup}
use Rattle.exact_ops.specs.declared.TheConstants.{UNIT}
use Rattle.space_groups.specs.Bases.{IsChangedGroup}
use Rattle.basis_change.specs.Frames.{change_in}
use Rattle.basis_change.proofs.Steps.{IfOk_then, IfOk_on, OnOk_on}
use Rattle.basis_change.proofs.Frames.{is_change}
use Rattle.basis_change.proofs.Generators.{are_generators}
use Rattle.basis_change.proofs.ChangedGroup.{few, changed_by_generators, group_by_generators, many_changed}
use Rattle.basis_change.proofs.cell.close_changed.Goals as goal

pub changed_list-requires-clause-frame : goal.changed_list-requires-clause-frame
changed_list-requires-clause-frame c = c.requires.frame

pub changed_list-requires-clause-narrow : goal.changed_list-requires-clause-narrow
changed_list-requires-clause-narrow c = c.requires.narrow

pub changed_list-requires-clause-parts : goal.changed_list-requires-clause-parts
changed_list-requires-clause-parts c = c.requires.parts

pub returns-in_default-clause-many : goal.returns-in_default-clause-many
returns-in_default-clause-many c = λ e. search rules

pub returns-clause-group : goal.returns-clause-group
returns-clause-group c = IfOk_on c.close.result _ IsGroup _ c.close.ensures.ok c.close.ensures.closes (λ m g k. group_by_generators c.args.group.now c.len-count.ensures.group (change_in c.args.frame.now) (is_change c.args.frame.now c.requires.frame) c.in-Ok.list (are_generators c.args.group.now c.len-count.ensures.group (change_in c.args.frame.now) c.in-Ok.list c.in-Ok.ensures) c.requires.cell m k g)

pub returns-clause-changed : goal.returns-clause-changed
returns-clause-changed c = IfOk_then c.close.result _ (IsChangedGroup UNIT c.args.group.now (change_in c.args.frame.now)) c.close.ensures.ok (λ m g. changed_by_generators c.args.group.now c.len-count.ensures.group (change_in c.args.frame.now) (is_change c.args.frame.now c.requires.frame) c.in-Ok.list (are_generators c.args.group.now c.len-count.ensures.group (change_in c.args.frame.now) c.in-Ok.list c.in-Ok.ensures) c.requires.cell m g)

pub returns-clause-few : goal.returns-clause-few
returns-clause-few c = OnOk_on c.close.result _ _ _ c.close.ensures.ok c.close.ensures.closes (λ m g k. few c.args.group.now c.len-count.ensures.group (change_in c.args.frame.now) (is_change c.args.frame.now c.requires.frame) m (changed_by_generators c.args.group.now c.len-count.ensures.group (change_in c.args.frame.now) (is_change c.args.frame.now c.requires.frame) c.in-Ok.list (are_generators c.args.group.now c.len-count.ensures.group (change_in c.args.frame.now) c.in-Ok.list c.in-Ok.ensures) c.requires.cell m g) (group_by_generators c.args.group.now c.len-count.ensures.group (change_in c.args.frame.now) (is_change c.args.frame.now c.requires.frame) c.in-Ok.list (are_generators c.args.group.now c.len-count.ensures.group (change_in c.args.frame.now) c.in-Ok.list c.in-Ok.ensures) c.requires.cell m k g))

pub returns-clause-many : goal.returns-clause-many
returns-clause-many c = λ e. many_changed c.args.group.now c.len-count.ensures.group (change_in c.args.frame.now) (is_change c.args.frame.now c.requires.frame) c.in-Ok.list (are_generators c.args.group.now c.len-count.ensures.group (change_in c.args.frame.now) c.in-Ok.list c.in-Ok.ensures) c.requires.cell c.requires.narrow (c.close.ensures.unclosed e)
