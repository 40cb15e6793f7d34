use Rattle.std.proofs.Common.{length, arith}
use Rattle.triplet_text.proofs.Bounds.{power_within}
use Rattle.triplet_text.proofs.coordinate.number.Goals as goal

pub digits_behind-requires : goal.digits_behind-requires
digits_behind-requires c = omega (arith, power_within (length c.args.text.now) 38 (omega arith))
