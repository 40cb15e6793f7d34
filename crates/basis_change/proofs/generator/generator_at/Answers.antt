use Rattle.std.proofs.Common.{arith}
use Rattle.basis_change.proofs.Generators.{as_many, cell_at}
use Rattle.basis_change.proofs.generator.generator_at.Goals as goal

pub overflow_cast-i : goal.overflow_cast-i
overflow_cast-i c = omega (arith, c.if-i-count.true, c.len-count.ensures.value, c.len-count.ensures.group.within)

pub member-requires : goal.member-requires
member-requires c = omega (arith, c.if-i-count.true, c.len-count.ensures.value)

pub returns-then-i-count-clause-value : goal.returns-then-i-count-clause-value
returns-then-i-count-clause-value c = c.member.ensures.value

pub returns-then-i-count-clause-narrow : goal.returns-then-i-count-clause-narrow
returns-then-i-count-clause-narrow c = c.member.ensures.narrow

pub returns-then-i-count-clause-within : goal.returns-then-i-count-clause-within
returns-then-i-count-clause-within c = c.member.ensures.within

pub cell-requires : goal.cell-requires
cell-requires c = omega (arith, as_many c.args.group.now, c.requires, c.len-count.ensures.value, c.if-i-count.false)

pub returns-clause-value : goal.returns-clause-value
returns-clause-value c = cell_at c.args.group.now c.args.i _ _ (omega (arith, c.len-count.ensures.value, c.if-i-count.false)) c.cell.ensures.value

pub returns-clause-narrow : goal.returns-clause-narrow
returns-clause-narrow c = c.cell.ensures.narrow

pub returns-clause-within : goal.returns-clause-within
returns-clause-within c = c.cell.ensures.within
