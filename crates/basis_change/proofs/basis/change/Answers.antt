use Rattle.std.proofs.Common.{subst, sym, IfOk, ◌↔◌}
use Rattle.std.specs.Prelude.{IsErrOf, OnOk}
use Rattle.exact_ops.specs.declared.TheConstants.{UNIT}
use Rattle.group_closure.specs.GroupList.{IsGroup}
use Rattle.space_groups.specs.Bases.{CoordinateChange, IsBasisChange, IsChangedGroup, AreNarrow}
use Rattle.space_groups.proofs.Changes.{IsChange-basis}
use Rattle.basis_change.specs.declared.basis.ChangeFault.TheVariants as fault
use Rattle.basis_change.specs.Laws.{KeepsAbsences, KeepsClassSizes, MovesSites, KeepsConjugates, KeepsOrbitSizes}
use Rattle.basis_change.proofs.Steps.{IfOk_both}
use Rattle.basis_change.proofs.ChangedGroup.{moves_sites, keeps_conjugates, keeps_orbit_sizes}
use Rattle.basis_change.proofs.Reflections.{keeps_absences, keeps_class_sizes}
use Rattle.basis_change.proofs.basis.change.Goals as goal

pub change_by-requires-clause-frame : goal.change_by-requires-clause-frame
change_by-requires-clause-frame c = c.frame.ensures.frame

pub change_by-requires-clause-change : goal.change_by-requires-clause-change
change_by-requires-clause-change c = subst IsBasisChange (sym c.frame.ensures.value) c.frame.ensures.change

pub returns-clause-group : goal.returns-clause-group
returns-clause-group c = subst (λ (x : CoordinateChange). IfOk c.change_by.result (IsChangedGroup UNIT c.args.group.now x)) c.frame.ensures.value c.change_by.ensures.changed

pub returns-clause-members : goal.returns-clause-members
returns-clause-members c = c.change_by.ensures.members

pub returns-clause-narrow : goal.returns-clause-narrow
returns-clause-narrow c = subst (λ (x : CoordinateChange). OnOk c.change_by.result (AreNarrow UNIT c.args.group.now x)) c.frame.ensures.value c.change_by.ensures.narrow

pub returns-clause-wide : goal.returns-clause-wide
returns-clause-wide c = subst (λ (x : CoordinateChange). IsErrOf c.change_by.result fault.Wide ↔ (AreNarrow UNIT c.args.group.now x → ⊥)) c.frame.ensures.value c.change_by.ensures.wide

pub returns-clause-absences : goal.returns-clause-absences
returns-clause-absences c = IfOk_both c.change_by.result IsGroup _ (KeepsAbsences c.args.group.now c.args.c.now) c.change_by.ensures.members (subst (λ (x : CoordinateChange). IfOk c.change_by.result (IsChangedGroup UNIT c.args.group.now x)) c.frame.ensures.value c.change_by.ensures.changed) (λ m there e. keeps_absences c.args.group.now m c.change_by.ensures.group there c.args.c.now c.frame.ensures.change e)

pub returns-clause-classes : goal.returns-clause-classes
returns-clause-classes c = IfOk_both c.change_by.result IsGroup _ (KeepsClassSizes c.args.group.now c.args.c.now) c.change_by.ensures.members (subst (λ (x : CoordinateChange). IfOk c.change_by.result (IsChangedGroup UNIT c.args.group.now x)) c.frame.ensures.value c.change_by.ensures.changed) (λ m there e. keeps_class_sizes c.args.group.now m c.change_by.ensures.group there c.args.c.now c.frame.ensures.change e)

pub returns-clause-sites : goal.returns-clause-sites
returns-clause-sites c = IfOk_both c.change_by.result IsGroup _ (MovesSites c.args.group.now c.args.c.now) c.change_by.ensures.members (subst (λ (x : CoordinateChange). IfOk c.change_by.result (IsChangedGroup UNIT c.args.group.now x)) c.frame.ensures.value c.change_by.ensures.changed) (λ m there e. moves_sites c.args.group.now c.change_by.ensures.group c.args.c.now (IsChange-basis c.args.c.now c.frame.ensures.change) m e)

pub returns-clause-conjugates : goal.returns-clause-conjugates
returns-clause-conjugates c = IfOk_both c.change_by.result IsGroup _ (KeepsConjugates c.args.group.now c.args.c.now) c.change_by.ensures.members (subst (λ (x : CoordinateChange). IfOk c.change_by.result (IsChangedGroup UNIT c.args.group.now x)) c.frame.ensures.value c.change_by.ensures.changed) (λ m there e. keeps_conjugates c.args.group.now c.change_by.ensures.group c.args.c.now (IsChange-basis c.args.c.now c.frame.ensures.change) m e)

pub returns-clause-orbits : goal.returns-clause-orbits
returns-clause-orbits c = IfOk_both c.change_by.result IsGroup _ (KeepsOrbitSizes c.args.group.now c.args.c.now) c.change_by.ensures.members (subst (λ (x : CoordinateChange). IfOk c.change_by.result (IsChangedGroup UNIT c.args.group.now x)) c.frame.ensures.value c.change_by.ensures.changed) (λ m there e. keeps_orbit_sizes c.args.group.now c.change_by.ensures.group c.args.c.now c.frame.ensures.change m there e)
