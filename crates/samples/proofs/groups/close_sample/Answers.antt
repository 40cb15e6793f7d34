use Rattle.std.proofs.Common.{Err, ap}
use Rattle.samples.proofs.Triplets.{no_unclosed}
use Rattle.samples.proofs.groups.close_sample.Goals as goal

pub unreachable-requires : goal.unreachable-requires
unreachable-requires c = no_unclosed c.args.number c.requires.some c.requires.few c.args.list.now c.requires.read (c.in-Err-Unclosed.ensures.unclosed (ap Err c.in-Err-Unclosed.field-0-is))
