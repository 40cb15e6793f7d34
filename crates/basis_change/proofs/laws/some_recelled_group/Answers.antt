use Rattle.basis_change.proofs.Existence.{recelled_or_refused}
use Rattle.basis_change.proofs.laws.some_recelled_group.Goals as goal

pub returns : goal.returns
returns _ = recelled_or_refused
