use Rattle.std.proofs.Common.{rules}
use Rattle.lattice_algebra.specs.Matrix.{◌·ᶜ◌}
use Rattle.lattice_algebra.proofs.Machine.{read}
use Rattle.exact_ops.proofs.matrix.Rotation.image.Goals as goal

pub returns : goal.returns
unfolding ◌·ᶜ◌
returns c = search (rules, read)
