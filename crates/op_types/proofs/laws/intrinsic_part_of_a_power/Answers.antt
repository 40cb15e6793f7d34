use Rattle.op_types.proofs.PowersOfOperations.{returned, translated, fixed}
use Rattle.op_types.proofs.laws.intrinsic_part_of_a_power.Goals as goal

pub returns-clause-turned : goal.returns-clause-turned
returns-clause-turned c = returned

pub returns-clause-translation : goal.returns-clause-translation
returns-clause-translation c = translated

pub returns-clause-fixed : goal.returns-clause-fixed
returns-clause-fixed c = fixed
