use Rattle.std.proofs.Common.{rules}
use Rattle.lattice_algebra.specs.Matrix.{scaled}
use Rattle.lattice_algebra.proofs.Machine.{read}
use Rattle.parameter_forms.proofs.coefficients.Coefficients.times.Goals as goal

pub returns-clause-matrix : goal.returns-clause-matrix
unfolding scaled
returns-clause-matrix c = search (rules, read)
