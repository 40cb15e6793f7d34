use Rattle.std.proofs.Common.{refl, sym, subst, ◌∙◌}
use Rattle.std.proofs.lemmas.Bool.{false≢true}
use Rattle.lattice_algebra.specs.Operator.{HasEntriesWithin}
use Rattle.space_groups.proofs.Changes.{cancel_matrix_end}
use Rattle.basis_change.specs.Wide.{wide_matrix}
use Rattle.basis_change.proofs.Frames.{invertible}
use Rattle.basis_change.proofs.frame.Frame.stays_narrow.Goals as goal

pub rotation-requires-clause-frame : goal.rotation-requires-clause-frame
rotation-requires-clause-frame c = c.requires.frame

pub rotation-requires-clause-narrow : goal.rotation-requires-clause-narrow
rotation-requires-clause-narrow c = c.requires.narrow

pub returns-in-Some : goal.returns-in-Some
returns-in-Some c = ((λ t m e. subst (HasEntriesWithin 2) (cancel_matrix_end (wide_matrix c.args.self.now.w) (invertible c.args.self.now c.requires.frame) (wide_matrix c.in-Some.m) m (c.in-Some.ensures.value ∙ sym e)) (c.is_within.ensures.0 t)), (λ h. c.is_within.ensures.1 (h (wide_matrix c.in-Some.m) c.in-Some.ensures.value)))

pub returns-in-None : goal.returns-in-None
returns-in-None c = ((λ t m e. absurd (false≢true (c.in-None.ensures.some.1 (m, e)))), (λ h. refl))
