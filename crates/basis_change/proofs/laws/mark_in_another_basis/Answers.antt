use Rattle.basis_change.proofs.ChangedMarks.{mark_changed}
use Rattle.basis_change.proofs.laws.mark_in_another_basis.Goals as goal

pub returns : goal.returns
returns c = λ pairs members changed change h mark g there b e m. mark_changed pairs members changed g there change b e h mark m
