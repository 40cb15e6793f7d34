use Rattle.std.proofs.Common.{◌≡◌, ap, rules, FitsSigned, w32, to_z, of_z}
use Rattle.lattice_algebra.specs.Matrix.{Column, times}
use Rattle.exact_ops.specs.Fields.{column_in}
use Rattle.op_types.proofs.Divisors.{entry_divides, column_quotient, no_divisor_left}
use Rattle.op_types.proofs.direction.reduced.Goals as goal

pub quotient-requires-clause-divides : goal.quotient-requires-clause-divides
unfolding times
quotient-requires-clause-divides c = let k = c.signed_divisor-divisor.ensures in entry_divides _ _ k.divides.0.x c.requires.within.first k.small (ap (λ (v : Column). v.x) k.divides.1)

pub quotient-requires-2-clause-divides : goal.quotient-requires-2-clause-divides
unfolding times
quotient-requires-2-clause-divides c = let k = c.signed_divisor-divisor.ensures in entry_divides _ _ k.divides.0.y c.requires.within.second k.small (ap (λ (v : Column). v.y) k.divides.1)

pub quotient-requires-3-clause-divides : goal.quotient-requires-3-clause-divides
unfolding times
quotient-requires-3-clause-divides c = let k = c.signed_divisor-divisor.ensures in entry_divides _ _ k.divides.0.z c.requires.within.third k.small (ap (λ (v : Column). v.z) k.divides.1)

-- the vector is the divisor times the three quotients
divided : (c : goal.After-quotient-3) → column_in c.args.v.now ≡ times c.signed_divisor-divisor.result (record { x = to_z w32 (of_z w32 c.quotient.result); y = to_z w32 (of_z w32 c.quotient-2.result); z = to_z w32 (of_z w32 c.quotient-3.result) })
divided c =
    let f : (FitsSigned w32 c.quotient.result) × (FitsSigned w32 c.quotient-2.result) × (FitsSigned w32 c.quotient-3.result) = search rules in
    column_quotient (column_in c.args.v.now) c.signed_divisor-divisor.result _ _ _ c.requires.within c.signed_divisor-divisor.ensures.small f c.quotient.ensures c.quotient-2.ensures c.quotient-3.ensures

pub returns-clause-same : goal.returns-clause-same
returns-clause-same c = (c.signed_divisor-divisor.result, c.signed_divisor-divisor.ensures.some, divided c)

pub returns-clause-no_divisor : goal.returns-clause-no_divisor
returns-clause-no_divisor c = let k = c.signed_divisor-divisor.ensures in no_divisor_left c.signed_divisor-divisor.result (column_in c.args.v.now) _ k.some (divided c) k.greatest

pub returns-clause-directed : goal.returns-clause-directed
returns-clause-directed c = c.signed_divisor-divisor.ensures.directed _ (divided c)
