use Rattle.basis_change.proofs.ChangedGroup.{one_group}
use Rattle.basis_change.proofs.laws.one_changed_group.Goals as goal

pub returns : goal.returns
returns c = one_group
