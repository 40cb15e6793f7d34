use Rattle.std.proofs.Common.{rules}
use Rattle.lattice_algebra.specs.Matrix.{adjugate, scaled}
use Rattle.lattice_algebra.proofs.Machine.{read}
use Rattle.exact_ops.proofs.matrix.Rotation.scaled_adjugate.Goals as goal

pub returns : goal.returns
unfolding adjugate scaled
returns c = search (rules, read)
