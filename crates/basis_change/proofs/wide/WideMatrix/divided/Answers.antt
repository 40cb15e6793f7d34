use Rattle.std.proofs.Common.{rules, w64, ◌≡◌, ◌∙◌, ap, refl}
use Rattle.std.proofs.lemmas.Bool.{false≢true}
use Rattle.lattice_algebra.specs.Matrix.{Matrix, scaled}
use Rattle.exact_ops.proofs.Bounds.{three_passed}
use Rattle.basis_change.proofs.Frames.{BOUND}
use Rattle.basis_change.specs.Wide.{wide_matrix, wide_column}
use Rattle.basis_change.proofs.Steps.{none_some, none_if}
use Rattle.basis_change.proofs.Quotients.{x_row, y_row, z_row, of_rows, matrix_quotient, rows_of, passed_row, row_passed, kept_column}
use Rattle.basis_change.proofs.wide.WideMatrix.divided.Goals as goal

abbrev found : goal.After-struct_told-3-1 → Matrix
found c = of_rows (wide_column c.in_ok-x.x) (wide_column c.in_ok-y.y) (wide_column c.in_ok-z.z)

is_quotient : (c : goal.After-struct_told-3-1) → scaled c.args.k (found c) ≡ wide_matrix c.args.self.now
is_quotient c =
    let m = wide_matrix c.args.self.now in
    matrix_quotient c.args.k m (wide_column c.in_ok-x.x) (wide_column c.in_ok-y.y) (wide_column c.in_ok-z.z)
    (row_passed c.args.k (x_row m) (wide_column c.in_ok-x.x) c.ranges.k c.requires.small.x c.in_ok-x.ensures.value)
    (row_passed c.args.k (y_row m) (wide_column c.in_ok-y.y) c.ranges.k c.requires.small.y c.in_ok-y.ensures.value)
    (row_passed c.args.k (z_row m) (wide_column c.in_ok-z.z) c.ranges.k c.requires.small.z c.in_ok-z.ensures.value)

pub divided-requires-clause-positive : goal.divided-requires-clause-positive
divided-requires-clause-positive c = search rules

pub divided-requires-2-clause-positive : goal.divided-requires-2-clause-positive
divided-requires-2-clause-positive c = search rules

pub divided-requires-3-clause-positive : goal.divided-requires-3-clause-positive
divided-requires-3-clause-positive c = search rules

pub divided-requires-clause-small : goal.divided-requires-clause-small
divided-requires-clause-small c = three_passed w64 BOUND c.args.self.now.xx c.args.self.now.xy c.args.self.now.xz c.requires.small.x tt

pub divided-requires-2-clause-small : goal.divided-requires-2-clause-small
divided-requires-2-clause-small c = three_passed w64 BOUND c.args.self.now.yx c.args.self.now.yy c.args.self.now.yz c.requires.small.y tt

pub divided-requires-3-clause-small : goal.divided-requires-3-clause-small
divided-requires-3-clause-small c = three_passed w64 BOUND c.args.self.now.zx c.args.self.now.zy c.args.self.now.zz c.requires.small.z tt

pub returns-in_err-x-clause-some : goal.returns-in_err-x-clause-some
returns-in_err-x-clause-some c = none_some _ _ c.from_residual.ensures (λ q. false≢true (c.in_err-x.ensures.some.1 (x_row q.0, passed_row c.args.k (x_row (wide_matrix c.args.self.now)) (x_row q.0) c.ranges.k c.requires.small.x (rows_of c.args.k (wide_matrix c.args.self.now) q.0 q.1).0)))

pub returns-in_err-x-clause-value : goal.returns-in_err-x-clause-value
returns-in_err-x-clause-value c = none_if _ _ c.from_residual.ensures

pub returns-in_err-y-clause-some : goal.returns-in_err-y-clause-some
returns-in_err-y-clause-some c = none_some _ _ c.from_residual-in_err-y.ensures (λ q. false≢true (c.in_err-y.ensures.some.1 (y_row q.0, passed_row c.args.k (y_row (wide_matrix c.args.self.now)) (y_row q.0) c.ranges.k c.requires.small.y (rows_of c.args.k (wide_matrix c.args.self.now) q.0 q.1).1)))

pub returns-in_err-y-clause-value : goal.returns-in_err-y-clause-value
returns-in_err-y-clause-value c = none_if _ _ c.from_residual-in_err-y.ensures

pub returns-in_err-z-clause-some : goal.returns-in_err-z-clause-some
returns-in_err-z-clause-some c = none_some _ _ c.from_residual-in_err-z.ensures (λ q. false≢true (c.in_err-z.ensures.some.1 (z_row q.0, passed_row c.args.k (z_row (wide_matrix c.args.self.now)) (z_row q.0) c.ranges.k c.requires.small.z (rows_of c.args.k (wide_matrix c.args.self.now) q.0 q.1).2)))

pub returns-in_err-z-clause-value : goal.returns-in_err-z-clause-value
returns-in_err-z-clause-value c = none_if _ _ c.from_residual-in_err-z.ensures

pub returns-clause-some : goal.returns-clause-some
returns-clause-some c = ((λ t. (found c, is_quotient c)), (λ q. refl))

pub returns-clause-value : goal.returns-clause-value
returns-clause-value c = ap (scaled c.args.k) (λ i. of_rows (kept_column (wide_column c.in_ok-x.x) c.in_ok-x.ensures.size i) (kept_column (wide_column c.in_ok-y.y) c.in_ok-y.ensures.size i) (kept_column (wide_column c.in_ok-z.z) c.in_ok-z.ensures.size i)) ∙ is_quotient c
