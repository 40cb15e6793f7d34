use Rattle.samples.proofs.Enclosed.{enclosed_closes}
use Rattle.samples.proofs.laws.list_in_a_closed_set_closes.Goals as goal

pub returns : goal.returns
returns c = λ list set valid few narrow identity products. enclosed_closes list set valid (record { few = few; narrow = narrow; identity = identity; products = products })
