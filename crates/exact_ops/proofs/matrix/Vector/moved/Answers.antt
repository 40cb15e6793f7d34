use Rattle.std.proofs.Common.{rules}
use Rattle.lattice_algebra.specs.Matrix.{◌·ᶜ◌, ◌+ᶜ◌}
use Rattle.lattice_algebra.specs.Operator.{modulo}
use Rattle.lattice_algebra.proofs.Machine.{read}
use Rattle.exact_ops.proofs.matrix.Vector.moved.Goals as goal

pub returns : goal.returns
unfolding ◌·ᶜ◌ ◌+ᶜ◌ modulo
returns c = search (rules, read)
