use Rattle.std.proofs.Common.{rules, w64, ◌≡◌, ℤ, ◌∙◌, ap, refl}
use Rattle.std.proofs.lemmas.Bool.{false≢true}
use Rattle.lattice_algebra.specs.Matrix.{Column, times}
use Rattle.lattice_algebra.specs.Operator.{AreWithin}
use Rattle.exact_ops.proofs.Bounds.{passed, three_passed}
use Rattle.basis_change.proofs.Frames.{BOUND}
use Rattle.basis_change.proofs.Steps.{none_some, none_if}
use Rattle.basis_change.proofs.Quotients.{column_quotient, quotients_of, passed_quotient, quotient_passed, kept_column}
use Rattle.basis_change.proofs.wide.divided.Goals as goal

abbrev given : ℤ → ℤ → ℤ → Column
given a b c = record { x = a; y = b; z = c }

abbrev found : goal.In_ok-z → Column
found c = given c.in_ok-x.x c.in_ok-y.y c.in_ok-z.z

is_quotient : (c : goal.In_ok-z) → times c.args.k (found c) ≡ given c.args.a c.args.b c.args.c
is_quotient c =
    column_quotient c.args.k (given c.args.a c.args.b c.args.c) (found c)
    (quotient_passed c.args.k c.args.a c.in_ok-x.x c.ranges.k c.ranges.a c.in_ok-x.ensures.value)
    (quotient_passed c.args.k c.args.b c.in_ok-y.y c.ranges.k c.ranges.b c.in_ok-y.ensures.value)
    (quotient_passed c.args.k c.args.c c.in_ok-z.z c.ranges.k c.ranges.c c.in_ok-z.ensures.value)

size : (c : goal.In_ok-z) → AreWithin BOUND c.in_ok-x.x c.in_ok-y.y c.in_ok-z.z
size c = record { first = c.in_ok-x.ensures.size; second = c.in_ok-y.ensures.size; third = c.in_ok-z.ensures.size }

pub quotient-requires-clause-positive : goal.quotient-requires-clause-positive
quotient-requires-clause-positive c = search rules

pub quotient-requires-2-clause-positive : goal.quotient-requires-2-clause-positive
quotient-requires-2-clause-positive c = search rules

pub quotient-requires-3-clause-positive : goal.quotient-requires-3-clause-positive
quotient-requires-3-clause-positive c = search rules

pub quotient-requires-clause-small : goal.quotient-requires-clause-small
quotient-requires-clause-small c = passed w64 BOUND c.args.a c.requires.small.first tt

pub quotient-requires-2-clause-small : goal.quotient-requires-2-clause-small
quotient-requires-2-clause-small c = passed w64 BOUND c.args.b c.requires.small.second tt

pub quotient-requires-3-clause-small : goal.quotient-requires-3-clause-small
quotient-requires-3-clause-small c = passed w64 BOUND c.args.c c.requires.small.third tt

pub returns-in_err-x-clause-some : goal.returns-in_err-x-clause-some
returns-in_err-x-clause-some c = none_some _ _ c.from_residual.ensures (λ q. false≢true (c.in_err-x.ensures.some.1 (q.0.x, passed_quotient c.args.k c.args.a q.0.x c.ranges.k c.ranges.a (quotients_of c.args.k (given c.args.a c.args.b c.args.c) q.0 q.1).0)))

pub returns-in_err-x-clause-value : goal.returns-in_err-x-clause-value
returns-in_err-x-clause-value c = none_if _ _ c.from_residual.ensures

pub returns-in_err-x-clause-size : goal.returns-in_err-x-clause-size
returns-in_err-x-clause-size c = none_if _ _ c.from_residual.ensures

pub returns-in_err-y-clause-some : goal.returns-in_err-y-clause-some
returns-in_err-y-clause-some c = none_some _ _ c.from_residual-in_err-y.ensures (λ q. false≢true (c.in_err-y.ensures.some.1 (q.0.y, passed_quotient c.args.k c.args.b q.0.y c.ranges.k c.ranges.b (quotients_of c.args.k (given c.args.a c.args.b c.args.c) q.0 q.1).1)))

pub returns-in_err-y-clause-value : goal.returns-in_err-y-clause-value
returns-in_err-y-clause-value c = none_if _ _ c.from_residual-in_err-y.ensures

pub returns-in_err-y-clause-size : goal.returns-in_err-y-clause-size
returns-in_err-y-clause-size c = none_if _ _ c.from_residual-in_err-y.ensures

pub returns-in_err-z-clause-some : goal.returns-in_err-z-clause-some
returns-in_err-z-clause-some c = none_some _ _ c.from_residual-in_err-z.ensures (λ q. false≢true (c.in_err-z.ensures.some.1 (q.0.z, passed_quotient c.args.k c.args.c q.0.z c.ranges.k c.ranges.c (quotients_of c.args.k (given c.args.a c.args.b c.args.c) q.0 q.1).2)))

pub returns-in_err-z-clause-value : goal.returns-in_err-z-clause-value
returns-in_err-z-clause-value c = none_if _ _ c.from_residual-in_err-z.ensures

pub returns-in_err-z-clause-size : goal.returns-in_err-z-clause-size
returns-in_err-z-clause-size c = none_if _ _ c.from_residual-in_err-z.ensures

pub returns-clause-some : goal.returns-clause-some
returns-clause-some c = ((λ t. (found c, is_quotient c)), (λ q. refl))

pub returns-clause-value : goal.returns-clause-value
returns-clause-value c = ap (times c.args.k) (kept_column (found c) (size c)) ∙ is_quotient c

pub returns-clause-size : goal.returns-clause-size
returns-clause-size c = three_passed w64 BOUND c.in_ok-x.x c.in_ok-y.y c.in_ok-z.z (size c) tt
