use Rattle.std.proofs.Common.{arith, ◌∙◌, ap, sym, subst}
use Rattle.lattice_algebra.specs.Matrix.{Column, matrix_of, column_of}
use Rattle.lattice_algebra.specs.Operator.{AreWithin, HasEntriesWithin}
use Rattle.exact_ops.specs.declared.TheConstants.{UNIT}
use Rattle.exact_ops.proofs.Narrow.{AreWithin-parts}
use Rattle.basis_change.proofs.Frames.{three_wider}
use Rattle.basis_change.proofs.Generators.{member_at}
use Rattle.basis_change.proofs.generator.member.Goals as goal

pub op-op-requires : goal.op-op-requires
op-op-requires c = c.requires

pub returns-clause-value : goal.returns-clause-value
returns-clause-value c = member_at c.args.group.now c.args.i c.op-op.result _ _ c.op-op.ensures.value (c.of.ensures ∙ ap matrix_of c.w.ensures.value) (c.of-3.ensures ∙ c.of-2.ensures ∙ ap column_of c.t.ensures.value)

pub returns-clause-narrow : goal.returns-clause-narrow
returns-clause-narrow c = subst (HasEntriesWithin 2) (sym (c.of.ensures ∙ ap matrix_of c.w.ensures.value)) c.w.ensures.narrow.within_two

pub returns-clause-within : goal.returns-clause-within
returns-clause-within c = subst (λ (v : Column). AreWithin UNIT v.x v.y v.z) (sym (c.of-3.ensures ∙ c.of-2.ensures ∙ ap column_of c.t.ensures.value)) (three_wider _ UNIT _ _ _ (omega arith) (AreWithin-parts c.op-op.result.t c.t.ensures.narrow.is_operator.in_cell))
