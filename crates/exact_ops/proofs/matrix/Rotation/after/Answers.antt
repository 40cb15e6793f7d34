use Rattle.std.proofs.Common.{rules}
use Rattle.lattice_algebra.specs.Matrix.{◌·◌}
use Rattle.lattice_algebra.proofs.Machine.{read}
use Rattle.exact_ops.proofs.matrix.Rotation.after.Goals as goal

pub returns : goal.returns
unfolding ◌·◌
returns c = search (rules, read)
