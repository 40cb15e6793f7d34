use Rattle.op_types.proofs.OneType as agree
use Rattle.op_types.proofs.SomeType.{some_type}
use Rattle.op_types.proofs.laws.one_type.Goals as goal

pub returns-clause-some : goal.returns-clause-some
returns-clause-some c = some_type

pub returns-clause-one : goal.returns-clause-one
returns-clause-one c = agree.one_type
