use Rattle.std.proofs.Common.{length, arith}
use Rattle.triplet_text.proofs.Bounds.{power_within, bound_both}
use Rattle.triplet_text.proofs.coordinate.decimal_size.Goals as goal

pub digits_behind-requires : goal.digits_behind-requires
digits_behind-requires c = omega (arith, power_within (length c.args.front.now) 38 (omega arith))

pub digits_behind-requires-2 : goal.digits_behind-requires-2
digits_behind-requires-2 c = bound_both c.in_ok-n.n (length c.args.front.now) (length c.args.back.now) c.in_ok-n.ensures.bound (omega arith)
