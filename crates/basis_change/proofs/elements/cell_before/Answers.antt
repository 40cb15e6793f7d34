use Rattle.std.proofs.Common.{rules, w64, ◌<ℤ◌, ◌*ℤ◌, pos, FitsSigned, to_z-of_z, sym, subst, ap, ◌∙◌}
use Rattle.std.proofs.lemmas.Option.{IfSome_then}
use Rattle.lattice_algebra.specs.Matrix.{times}
use Rattle.basis_change.specs.Wide.{wide_matrix, wide_column, WIDE}
use Rattle.exact_ops.specs.declared.TheConstants.{UNIT}
use Rattle.basis_change.proofs.Frames.{over_fits, over_is, over_within, denominator_within, cell_is, cell_product, passed_divisor}
use Rattle.basis_change.proofs.elements.cell_before.Goals as goal

pub overflow_mul-over : goal.overflow_mul-over
overflow_mul-over c = over_fits c.args.frame.now.d c.from.result (denominator_within c.args.frame.now c.requires.frame) c.from.ensures

pub along-requires : goal.along-requires
along-requires c = c.requires.axis

pub on-requires-clause-left : goal.on-requires-clause-left
on-requires-clause-left c = c.requires.frame.inverse_within

pub on-requires-clause-right : goal.on-requires-clause-right
on-requires-clause-right c = (over_within c.args.frame.now.d c.from.result (wide_column c.along.result) (denominator_within c.args.frame.now c.requires.frame) c.from.ensures c.along.ensures.within)

pub divided-requires-clause-positive : goal.divided-requires-clause-positive
divided-requires-clause-positive c = let f : FitsSigned w64 c.args.frame.now.k = search rules in subst (λ v. pos 0 <ℤ v) (sym (to_z-of_z f)) c.requires.frame.some

pub divided-requires-clause-small : goal.divided-requires-clause-small
divided-requires-clause-small c = c.on.ensures.size WIDE WIDE c.requires.frame.inverse_within (over_within c.args.frame.now.d c.from.result (wide_column c.along.result) (denominator_within c.args.frame.now c.requires.frame) c.from.ensures c.along.ensures.within)

pub returns-clause-some : goal.returns-clause-some
returns-clause-some c = λ e h. let f : FitsSigned w64 c.args.frame.now.k = search rules in passed_divisor c.args.frame.now.k _ _ _ _ (to_z-of_z f) (cell_product (wide_matrix c.args.frame.now.v) _ (c.args.frame.now.d *ℤ pos UNIT) (wide_column c.along.result) e (wide_column c.on.result) (over_is c.args.frame.now.d c.from.result (denominator_within c.args.frame.now c.requires.frame) c.from.ensures) (cell_is _ c.args.axis (wide_column c.along.result) e c.along.ensures.value h) c.on.ensures.value) c.divided.ensures.some

pub returns-clause-value : goal.returns-clause-value
returns-clause-value c = λ e h. let f : FitsSigned w64 c.args.frame.now.k = search rules in IfSome_then c.divided.result c.divided.ensures.value (λ q s. ap (λ z. times z (wide_column q)) (sym (to_z-of_z f)) ∙ s ∙ (cell_product (wide_matrix c.args.frame.now.v) _ (c.args.frame.now.d *ℤ pos UNIT) (wide_column c.along.result) e (wide_column c.on.result) (over_is c.args.frame.now.d c.from.result (denominator_within c.args.frame.now c.requires.frame) c.from.ensures) (cell_is _ c.args.axis (wide_column c.along.result) e c.along.ensures.value h) c.on.ensures.value))
