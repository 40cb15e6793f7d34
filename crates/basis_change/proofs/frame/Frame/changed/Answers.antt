use Rattle.std.proofs.Common.{◌≡◌, ◌∙◌, ap, refl}
use Rattle.std.proofs.lemmas.Bool.{false≢true}
use Rattle.lattice_algebra.specs.Matrix.{matrix_of, column_of, ◌·ᶜ◌, ◌+ᶜ◌, neg_column}
use Rattle.lattice_algebra.specs.Operator.{HasEntriesWithin, modulo}
use Rattle.basis_change.specs.Wide.{wide_matrix, wide_column}
use Rattle.exact_ops.specs.declared.TheConstants.{UNIT}
use Rattle.basis_change.specs.Frames.{map_in}
use Rattle.basis_change.proofs.Steps.{none_some, none_if}
use Rattle.basis_change.proofs.Frames.{map_found, map_has_matrix, map_has_column, changed_value, changed_in_range}
use Rattle.basis_change.proofs.frame.Frame.changed.Goals as goal

narrow : (c : goal.After-q-2-1) → HasEntriesWithin 2 (wide_matrix c.in_ok-m.m)
narrow c = c.requires.stays_narrow (wide_matrix c.in_ok-m.m) c.in_ok-m.ensures.value

matrix_is : (c : goal.After-numbers) → matrix_of c.rows.result ≡ wide_matrix c.in_ok-m.m
matrix_is c = ap matrix_of c.rows.ensures ∙ c.narrowed.ensures

column_is : (c : goal.After-numbers) → column_of c.numbers.result ≡ modulo UNIT (wide_column c.in_ok-q.q +ᶜ wide_column c.args.self.now.t +ᶜ neg_column (wide_matrix c.in_ok-m.m ·ᶜ wide_column c.args.self.now.t))
column_is c = ap column_of c.numbers.ensures ∙ c.translation-t.ensures

pub rotation-requires-clause-frame : goal.rotation-requires-clause-frame
rotation-requires-clause-frame c = c.requires.frame

pub rotation-requires-clause-narrow : goal.rotation-requires-clause-narrow
rotation-requires-clause-narrow c = c.requires.narrow

pub returns-in_err-m-clause-some : goal.returns-in_err-m-clause-some
returns-in_err-m-clause-some c = none_some _ _ c.from_residual.ensures (λ h. false≢true (c.in_err-m.ensures.some.1 (map_has_matrix c.args.self.now c.requires.frame (map_in c.args.g.now) h)))

pub returns-in_err-m-clause-value : goal.returns-in_err-m-clause-value
returns-in_err-m-clause-value c = none_if _ _ c.from_residual.ensures

pub moved-requires-clause-frame : goal.moved-requires-clause-frame
moved-requires-clause-frame c = c.requires.frame

pub moved-requires-clause-within : goal.moved-requires-clause-within
moved-requires-clause-within c = c.requires.within

pub returns-in_err-q-clause-some : goal.returns-in_err-q-clause-some
returns-in_err-q-clause-some c = none_some _ _ c.from_residual-in_err-q.ensures (λ h. false≢true (c.in_err-q.ensures.some.1 (map_has_column c.args.self.now c.requires.frame (map_in c.args.g.now) h)))

pub returns-in_err-q-clause-value : goal.returns-in_err-q-clause-value
returns-in_err-q-clause-value c = none_if _ _ c.from_residual-in_err-q.ensures

pub translation-t-requires-clause-frame : goal.translation-t-requires-clause-frame
translation-t-requires-clause-frame c = c.requires.frame

pub translation-t-requires-clause-narrow : goal.translation-t-requires-clause-narrow
translation-t-requires-clause-narrow c = narrow c

pub translation-t-requires-clause-within : goal.translation-t-requires-clause-within
translation-t-requires-clause-within c = c.in_ok-q.ensures.size

pub narrowed-requires : goal.narrowed-requires
narrowed-requires c = c.requires.stays_narrow (wide_matrix c.in_ok-m.m) c.in_ok-m.ensures.value

pub invariant_of-result : goal.invariant_of-result
invariant_of-result c = record { in_range = changed_in_range c.args.self.now c.requires.frame (map_in c.args.g.now) (wide_matrix c.in_ok-m.m) (wide_column c.in_ok-q.q) c.rows.result c.numbers.result (c.requires.stays_narrow (wide_matrix c.in_ok-m.m) c.in_ok-m.ensures.value) (matrix_is c) (column_is c) }

pub returns-clause-some : goal.returns-clause-some
returns-clause-some c = ((λ t. (_, map_found c.args.self.now c.requires.frame (map_in c.args.g.now) (wide_matrix c.in_ok-m.m) (wide_column c.in_ok-q.q) c.in_ok-m.ensures.value c.in_ok-q.ensures.value)), (λ h. refl))

pub returns-clause-value : goal.returns-clause-value
returns-clause-value c = changed_value c.args.self.now c.requires.frame (map_in c.args.g.now) (wide_matrix c.in_ok-m.m) (wide_column c.in_ok-q.q) c.rows.result c.numbers.result c.in_ok-m.ensures.value c.in_ok-q.ensures.value (ap matrix_of c.rows.ensures ∙ c.narrowed.ensures) (ap column_of c.numbers.ensures ∙ c.translation-t.ensures)
