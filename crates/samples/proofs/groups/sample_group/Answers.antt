use Rattle.samples.proofs.Triplets.{no_fault}
use Rattle.samples.proofs.groups.sample_group.Goals as goal

pub unreachable-requires : goal.unreachable-requires
unreachable-requires c = no_fault c.args.number c.requires.some c.requires.few c.triplets.result.now c.in-Err-Unreadable.field-0 c.triplets.ensures c.in-Err-Unreadable.ensures.fault (λ e. let k = c.in-Err-Unreadable.field-0-is in cc)

pub unreachable-requires-in-Err-NotUnimodular : goal.unreachable-requires-in-Err-NotUnimodular
unreachable-requires-in-Err-NotUnimodular c = no_fault c.args.number c.requires.some c.requires.few c.triplets.result.now c.in-Err-NotUnimodular.field-0 c.triplets.ensures c.in-Err-NotUnimodular.ensures.fault (λ e. let k = c.in-Err-NotUnimodular.field-0-is in cc)
