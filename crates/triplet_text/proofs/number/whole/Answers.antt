use Rattle.std.proofs.Common.{length, arith}
use Rattle.triplet_text.proofs.Bounds.{bound_all}
use Rattle.triplet_text.proofs.number.whole.Goals as goal

pub returns-clause-bound : goal.returns-clause-bound
returns-clause-bound c = omega (arith, bound_all c.in_ok-digits_behind.field-0 0 (length c.args.text.now) 6 c.in_ok-digits_behind.ensures.bound (omega arith))
