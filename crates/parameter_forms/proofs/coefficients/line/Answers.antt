use Rattle.std.proofs.Common.{◌≡◌, pos, refl, rules, w32}
use Rattle.lattice_algebra.proofs.Machine.{read, kept}
use Rattle.exact_ops.specs.Fields.{matrix_in, column_in}
use Rattle.parameter_forms.specs.declared.TheConstants.{MAX_MATRIX}
use Rattle.parameter_forms.proofs.Passed.{other_passed, none_passed, same_coefficients}
use Rattle.parameter_forms.proofs.Lines.{by_x, by_y, by_z, nothing, coefficients_by_x, coefficients_by_y, coefficients_by_z, coefficients_of_nothing}
use Rattle.parameter_forms.proofs.coefficients.line.Goals as goal

-- ---- what stands in the machine

found_x : (c : goal.After-result-1) → matrix_in c.of.result ≡ by_x (column_in c.args.v.now)
found_x c = search (rules, read)

found_y : (c : goal.After-result-then-v-ne0-2-1) → matrix_in c.of-then-v-ne0-2.result ≡ by_y (column_in c.args.v.now)
found_y c = search (rules, read)

found_z : (c : goal.After-of-then-v-ne0-3) → matrix_in c.of-then-v-ne0-3.result ≡ by_z
found_z c = search rules

found_nothing : (c : goal.After-of-2) → matrix_in c.of-2.result ≡ nothing
found_nothing c = search rules

pub returns-then-v-ne0-clause-matrix : goal.returns-then-v-ne0-clause-matrix
returns-then-v-ne0-clause-matrix c = λ m line.
    let v = column_in c.args.v.now in
    same_coefficients m _ v.x _ (by_x v) (kept w32 MAX_MATRIX v.x c.requires.first tt) (found_x c) (coefficients_by_x m v line (other_passed v.x c.if-v-ne0.true))

pub returns-then-v-ne0-2-clause-matrix : goal.returns-then-v-ne0-2-clause-matrix
returns-then-v-ne0-2-clause-matrix c = λ m line.
    let v = column_in c.args.v.now in
    let x = none_passed MAX_MATRIX v.x c.requires.first tt c.if-v-ne0.false in
    same_coefficients m _ v.y _ (by_y v) (kept w32 MAX_MATRIX v.y c.requires.second tt) (found_y c) (coefficients_by_y m v line x (other_passed v.y c.if-v-ne0-2.true))

pub returns-then-v-ne0-3-clause-matrix : goal.returns-then-v-ne0-3-clause-matrix
returns-then-v-ne0-3-clause-matrix c = λ m line.
    let v = column_in c.args.v.now in
    let x = none_passed MAX_MATRIX v.x c.requires.first tt c.if-v-ne0.false in
    let y = none_passed MAX_MATRIX v.y c.requires.second tt c.if-v-ne0-2.false in
    same_coefficients m (pos 1) (pos 1) _ by_z refl (found_z c) (coefficients_by_z m v line x y (other_passed v.z c.if-v-ne0-3.true))

pub returns-clause-matrix : goal.returns-clause-matrix
returns-clause-matrix c = λ m line.
    let v = column_in c.args.v.now in
    let x = none_passed MAX_MATRIX v.x c.requires.first tt c.if-v-ne0.false in
    let y = none_passed MAX_MATRIX v.y c.requires.second tt c.if-v-ne0-2.false in
    let z = none_passed MAX_MATRIX v.z c.requires.third tt c.if-v-ne0-3.false in
    same_coefficients m (pos 1) (pos 1) _ nothing refl (found_nothing c) (coefficients_of_nothing m v line (λ i. record { x = x i; y = y i; z = z i }))
