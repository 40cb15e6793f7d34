use Rattle.std.proofs.Common.{arith}
use Rattle.basis_change.proofs.Generators.{as_many}
use Rattle.basis_change.proofs.generator.generator_count.Goals as goal

pub overflow_add-result : goal.overflow_add-result
overflow_add-result c = omega (arith, c.len.ensures.value, c.len.ensures.group.within)

pub returns-clause-count : goal.returns-clause-count
returns-clause-count c = omega (arith, as_many c.args.group.now, c.len.ensures.value)
