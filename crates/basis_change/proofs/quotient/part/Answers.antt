use Rattle.std.proofs.Common.{arith, ap, ap₂, ◌∙◌, pos, w32, w64, to_z, of_z, FitsSigned, to_z-of_z, rules, ◌≡◌}
use Rattle.std.proofs.lemmas.Int.{ints}
use Rattle.std.specs.Int.{int_rem_euclid}
use Rattle.exact_ops.specs.declared.TheConstants.{UNIT}
use Rattle.basis_change.proofs.quotient.part.Goals as goal

pub rem_euclid-requires-clause-nonzero : goal.rem_euclid-requires-clause-nonzero
rem_euclid-requires-clause-nonzero c = search rules

pub rem_euclid-requires-clause-no_overflow : goal.rem_euclid-requires-clause-no_overflow
rem_euclid-requires-clause-no_overflow c = search rules

pub overflow_cast-result : goal.overflow_cast-result
overflow_cast-result c = omega (arith, ints)

pub returns : goal.returns
returns c =
    let value : c.rem_euclid.result ≡ int_rem_euclid c.args.n (pos UNIT) = c.rem_euclid.ensures.value ∙ ap₂ (λ z n. int_rem_euclid z n) (to_z-of_z c.ranges.n) (ap (λ n. to_z w64 (of_z w64 n)) c.from.ensures) in
    let fit : FitsSigned w64 c.rem_euclid.result = omega (arith, ints) in
    let small : FitsSigned w32 c.rem_euclid.result = omega (arith, ints) in
    ap (λ z. to_z w32 (of_z w32 z)) (to_z-of_z fit) ∙ to_z-of_z small ∙ value
