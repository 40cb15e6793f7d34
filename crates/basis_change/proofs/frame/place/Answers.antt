use Rattle.std.proofs.Common.{arith, ap, ◌∙◌, pos, neg_ℤ, ◌+ℤ◌, ◌-ℤ◌, ◌≡◌, w32, w64, to_z, of_z, FitsSigned, to_z-of_z, rules}
use Rattle.std.proofs.lemmas.Int.{ints}
use Rattle.std.specs.Int.{int_rem_euclid}
use Rattle.exact_ops.specs.declared.TheConstants.{UNIT}
use Rattle.basis_change.proofs.frame.place.Goals as goal

pub returns : goal.returns
returns c =
    let sum : to_z w64 (of_z w64 (to_z w64 (of_z w64 (to_z w64 (of_z w64 c.args.moved) +ℤ to_z w64 (of_z w64 c.args.origin))) -ℤ to_z w64 (of_z w64 c.args.back))) ≡ c.args.moved +ℤ c.args.origin +ℤ neg_ℤ c.args.back = omega (arith, ints) in
    let fit : FitsSigned w32 c.part.result = search rules in
    to_z-of_z fit ∙ c.part.ensures ∙ ap (λ n. int_rem_euclid n (pos UNIT)) sum
