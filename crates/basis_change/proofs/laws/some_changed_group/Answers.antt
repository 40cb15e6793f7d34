use Rattle.basis_change.proofs.Existence.{changed_in_basis}
use Rattle.basis_change.proofs.laws.some_changed_group.Goals as goal

pub returns : goal.returns
returns _ = λ members c b group narrow. changed_in_basis members group c b narrow
