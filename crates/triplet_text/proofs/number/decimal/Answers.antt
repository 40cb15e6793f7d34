use Rattle.std.proofs.Common.{◌<◌, ◌^◌, length, arith}
use Rattle.std.proofs.lemmas.Grind.{common_steps}
use Rattle.triplet_text.proofs.Bounds.{bound_decimal}
use Rattle.triplet_text.proofs.number.decimal.Goals as goal

pub overflow_mul-parts : goal.overflow_mul-parts
overflow_mul-parts c =
    let small : c.in_ok-n-2.field-0 < 10 ^ 9 = bound_decimal c.in_ok-n.n c.in_ok-n-2.field-0 (length c.args.front.now) (length c.args.back.now) c.in_ok-n.ensures.bound (omega arith) c.in_ok-n-2.ensures.bound (omega arith) in
    grind (arith, common_steps)

pub returns-clause-bound : goal.returns-clause-bound
returns-clause-bound c =
    let small : c.in_ok-n-2.field-0 < 10 ^ 9 = bound_decimal c.in_ok-n.n c.in_ok-n-2.field-0 (length c.args.front.now) (length c.args.back.now) c.in_ok-n.ensures.bound (omega arith) c.in_ok-n-2.ensures.bound (omega arith) in
    grind (arith, common_steps)
