use Rattle.samples.proofs.Triplets.{each}
use Rattle.samples.proofs.laws.samples_close.Goals as goal

pub returns : goal.returns
returns c = each
