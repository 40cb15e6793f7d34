use Rattle.std.proofs.Common.{subst, IfOk}
use Rattle.std.specs.Prelude.{IfErr}
use Rattle.exact_ops.specs.declared.TheConstants.{UNIT}
use Rattle.group_closure.specs.GroupList.{IsGroup}
use Rattle.space_groups.specs.Bases.{CoordinateChange, IsChange, IsChangedGroup}
use Rattle.basis_change.specs.Changes.{IsRecelled, IsRefusedAs}
use Rattle.basis_change.specs.Laws.{MovesSites, KeepsConjugates}
use Rattle.basis_change.proofs.Steps.{IfOk_then, OnOk_from}
use Rattle.basis_change.proofs.Frames.{is_change}
use Rattle.basis_change.proofs.ChangedGroup.{moves_sites, keeps_conjugates}
use Rattle.basis_change.proofs.cell.recell.Goals as goal

pub recell_by-requires : goal.recell_by-requires
recell_by-requires c = c.frame.ensures.frame

pub returns-clause-members : goal.returns-clause-members
returns-clause-members c = IfOk_then c.recell_by.result _ IsGroup c.recell_by.ensures.ok (λ m k. k.group)

pub returns-clause-group : goal.returns-clause-group
returns-clause-group c = IfOk_then c.recell_by.result _ (IsChangedGroup UNIT c.args.group.now c.args.change.now) (subst (λ (x : CoordinateChange). IfOk c.recell_by.result (IsRecelled c.args.group.now x)) c.frame.ensures.value c.recell_by.ensures.ok) (λ m k. k.changed_group)

pub returns-clause-sites : goal.returns-clause-sites
returns-clause-sites c = IfOk_then c.recell_by.result _ (MovesSites c.args.group.now c.args.change.now) (subst (λ (x : CoordinateChange). IfOk c.recell_by.result (IsRecelled c.args.group.now x)) c.frame.ensures.value c.recell_by.ensures.ok) (λ m k. moves_sites c.args.group.now c.recell_by.ensures.group c.args.change.now (subst IsChange c.frame.ensures.value (is_change c.frame.result c.frame.ensures.frame)) m k.changed_group)

pub returns-clause-conjugates : goal.returns-clause-conjugates
returns-clause-conjugates c = IfOk_then c.recell_by.result _ (KeepsConjugates c.args.group.now c.args.change.now) (subst (λ (x : CoordinateChange). IfOk c.recell_by.result (IsRecelled c.args.group.now x)) c.frame.ensures.value c.recell_by.ensures.ok) (λ m k. keeps_conjugates c.args.group.now c.recell_by.ensures.group c.args.change.now (subst IsChange c.frame.ensures.value (is_change c.frame.result c.frame.ensures.frame)) m k.changed_group)

pub returns-clause-ok : goal.returns-clause-ok
returns-clause-ok c = OnOk_from c.recell_by.result _ _ (subst (λ (x : CoordinateChange). IfOk c.recell_by.result (IsRecelled c.args.group.now x)) c.frame.ensures.value c.recell_by.ensures.ok) (λ m k. k.may)

pub returns-clause-few : goal.returns-clause-few
returns-clause-few c = OnOk_from c.recell_by.result _ _ (subst (λ (x : CoordinateChange). IfOk c.recell_by.result (IsRecelled c.args.group.now x)) c.frame.ensures.value c.recell_by.ensures.ok) (λ m k. k.few)

pub returns-clause-refused : goal.returns-clause-refused
returns-clause-refused c = subst (λ (x : CoordinateChange). IfErr c.recell_by.result (IsRefusedAs c.args.group.now x)) c.frame.ensures.value c.recell_by.ensures.refused
