use Rattle.std.proofs.Common.{rules, w64, ◌≡◌, ◌<ℤ◌, pos, FitsSigned, to_z-of_z, sym, subst, ap, ◌∙◌}
use Rattle.std.proofs.lemmas.Option.{IfSome_then}
use Rattle.lattice_algebra.specs.Matrix.{◌·◌}
use Rattle.lattice_algebra.specs.Operator.{HasEntriesWithin}
use Rattle.basis_change.specs.Wide.{wide_matrix, WIDE}
use Rattle.exact_ops.specs.Fields.{matrix_in}
use Rattle.exact_ops.specs.declared.TheConstants.{MAX_ENTRY}
use Rattle.basis_change.proofs.Frames.{entries_wide, narrow_wide, product_wide, rotation_some, rotation_value}
use Rattle.basis_change.proofs.frame.Frame.rotation.Goals as goal

product : (c : goal.After-after-arg-2-1) → HasEntriesWithin WIDE (wide_matrix c.after.result)
product c = product_wide _ (c.after.ensures.size MAX_ENTRY 2 c.requires.frame.within (subst (HasEntriesWithin 2) (sym c.of.ensures) c.requires.narrow))

both : (c : goal.After-divided) → wide_matrix c.after-2.result ≡ wide_matrix c.args.self.now.w · matrix_in c.args.f.now · wide_matrix c.args.self.now.v
both c = c.after-2.ensures.value ∙ ap (λ m. m · wide_matrix c.args.self.now.v) (c.after.ensures.value ∙ ap (λ m. wide_matrix c.args.self.now.w · m) c.of.ensures)

pub after-requires-clause-left : goal.after-requires-clause-left
after-requires-clause-left c = entries_wide _ c.requires.frame.within

pub after-requires-clause-right : goal.after-requires-clause-right
after-requires-clause-right c = narrow_wide _ (subst (HasEntriesWithin 2) (sym c.of.ensures) c.requires.narrow)

pub after-requires-2-clause-left : goal.after-requires-2-clause-left
after-requires-2-clause-left c = product c

pub after-requires-2-clause-right : goal.after-requires-2-clause-right
after-requires-2-clause-right c = c.requires.frame.inverse_within

pub divided-requires-clause-positive : goal.divided-requires-clause-positive
divided-requires-clause-positive c = let f : FitsSigned w64 c.args.self.now.k = search rules in subst (λ v. pos 0 <ℤ v) (sym (to_z-of_z f)) c.requires.frame.some

pub divided-requires-clause-small : goal.divided-requires-clause-small
divided-requires-clause-small c = c.after-2.ensures.size WIDE WIDE (product_wide _ (c.after.ensures.size MAX_ENTRY 2 c.requires.frame.within (subst (HasEntriesWithin 2) (sym c.of.ensures) c.requires.narrow))) c.requires.frame.inverse_within

pub returns-clause-some : goal.returns-clause-some
returns-clause-some c = let f : FitsSigned w64 c.args.self.now.k = search rules in rotation_some c.args.self.now c.requires.frame (matrix_in c.args.f.now) _ _ _ (to_z-of_z f) (both c) c.divided.ensures.some

pub returns-clause-value : goal.returns-clause-value
returns-clause-value c = let f : FitsSigned w64 c.args.self.now.k = search rules in IfSome_then c.divided.result c.divided.ensures.value (λ m s. rotation_value c.args.self.now c.requires.frame (matrix_in c.args.f.now) _ _ (to_z-of_z f) (both c) (wide_matrix m) s)
