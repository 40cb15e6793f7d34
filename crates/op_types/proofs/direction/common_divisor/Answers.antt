use Rattle.std.proofs.Common.{◌≤◌, ◌*◌, ◌<ℤ◌, ℕ, pos, unsigned_abs, sym, subst, FitsSigned, w32, arith}
use Rattle.std.proofs.lemmas.Int.{ints}
use Rattle.std.specs.Int.{◌∣◌}
use Rattle.group_closure.specs.declared.TheConstants.{MAX_OPERATORS}
use Rattle.exact_ops.specs.Fields.{column_in}
use Rattle.op_types.specs.Vector.{Divides}
use Rattle.lattice_algebra.proofs.Numbers.{above}
use Rattle.op_types.proofs.Divisors.{IsDivisorOf, divisor_of, divisor_within, as_signed}
use Rattle.op_types.proofs.direction.common_divisor.Goals as goal

divisor : (c : goal.After-greatest_common_divisor) → IsDivisorOf (column_in c.args.v.now) c.greatest_common_divisor.result
divisor c =
    divisor_of (column_in c.args.v.now) _ _ _ _ _ c.requires.some c.requires.within c.size.ensures c.size-2.ensures c.size-3.ensures c.greatest_common_divisor-rest.ensures c.greatest_common_divisor.ensures

small : (c : goal.After-greatest_common_divisor) → c.greatest_common_divisor.result ≤ 2 * MAX_OPERATORS
small c = divisor_within _ _ (column_in c.args.v.now) c.requires.some (divisor c).divides c.requires.within

fits : (g : ℕ) → g ≤ 2 * MAX_OPERATORS → FitsSigned w32 (pos g)
fits g l = omega (arith, ints)

pub overflow_cast-result : goal.overflow_cast-result
overflow_cast-result c = fits _ (small c)

pub returns-clause-positive : goal.returns-clause-positive
returns-clause-positive c = let g = divisor c in let p : pos 0 <ℤ pos c.greatest_common_divisor.result = above _ g.positive in subst (λ z. pos 0 <ℤ z) (sym (as_signed _ (small c))) p

pub returns-clause-small : goal.returns-clause-small
returns-clause-small c = subst (λ z. unsigned_abs z ≤ 2 * MAX_OPERATORS) (sym (as_signed _ (small c))) (small c)

pub returns-clause-divides : goal.returns-clause-divides
returns-clause-divides c = let g = divisor c in subst (λ z. Divides z (column_in c.args.v.now)) (sym (as_signed _ (small c))) g.divides

pub returns-clause-greatest : goal.returns-clause-greatest
returns-clause-greatest c = let g = divisor c in λ d h. subst (λ z. unsigned_abs d ∣ unsigned_abs z) (sym (as_signed _ (small c))) (g.greatest d h)
