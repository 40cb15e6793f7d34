use Rattle.atom_expand.proofs.Placing.{some_expansion}
use Rattle.atom_expand.proofs.Standing.{same_expansion}
use Rattle.atom_expand.proofs.laws.one_expansion.Goals as goal

pub returns-clause-some : goal.returns-clause-some
returns-clause-some c = λ members sites group scaled. some_expansion members group sites scaled

pub returns-clause-one : goal.returns-clause-one
returns-clause-one c = λ members sites a b group points p q. same_expansion members sites points a b p q
