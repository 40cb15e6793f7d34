use Rattle.std.proofs.Common.{rules, w64, ◌<ℤ◌, pos, FitsSigned, to_z-of_z, sym, subst, ap, ◌∙◌}
use Rattle.std.proofs.lemmas.Option.{IfSome_then}
use Rattle.lattice_algebra.specs.Matrix.{times}
use Rattle.basis_change.specs.Wide.{wide_column, WIDE}
use Rattle.basis_change.proofs.Frames.{entries_wide, unit_wide, passed_divisor}
use Rattle.basis_change.proofs.frame.Frame.moved.Goals as goal

pub on-requires-clause-left : goal.on-requires-clause-left
on-requires-clause-left c = entries_wide _ c.requires.frame.within

pub on-requires-clause-right : goal.on-requires-clause-right
on-requires-clause-right c = unit_wide _ _ _ c.requires.within

pub divided-requires-clause-positive : goal.divided-requires-clause-positive
divided-requires-clause-positive c = let f : FitsSigned w64 c.args.self.now.d = search rules in subst (λ v. pos 0 <ℤ v) (sym (to_z-of_z f)) c.requires.frame.positive

pub divided-requires-clause-small : goal.divided-requires-clause-small
divided-requires-clause-small c = c.on.ensures.size WIDE WIDE (entries_wide _ c.requires.frame.within) (unit_wide _ _ _ c.requires.within)

pub returns-clause-some : goal.returns-clause-some
returns-clause-some c = let f : FitsSigned w64 c.args.self.now.d = search rules in passed_divisor c.args.self.now.d _ _ _ _ (to_z-of_z f) c.on.ensures.value c.divided.ensures.some

pub returns-clause-value : goal.returns-clause-value
returns-clause-value c = let f : FitsSigned w64 c.args.self.now.d = search rules in IfSome_then c.divided.result c.divided.ensures.value (λ q s. ap (λ z. times z (wide_column q)) (sym (to_z-of_z f)) ∙ s ∙ c.on.ensures.value)

pub returns-clause-size : goal.returns-clause-size
returns-clause-size c = c.divided.ensures.size
