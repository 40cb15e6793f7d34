use Rattle.std.proofs.Common.{refl}
use Rattle.sg_cli.proofs.words.Command.input.Goals as goal

pub returns-in-Sample : goal.returns-in-Sample
returns-in-Sample c = rw c.in-Sample.is refl
