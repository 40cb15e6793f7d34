use Rattle.std.proofs.Common.{rules}
use Rattle.lattice_algebra.proofs.Machine.{read}
use Rattle.parameter_forms.specs.Finding.{cross_product}
use Rattle.parameter_forms.proofs.vectors.cross.Goals as goal

pub returns-clause-value : goal.returns-clause-value
unfolding cross_product
returns-clause-value c = search (rules, read)
