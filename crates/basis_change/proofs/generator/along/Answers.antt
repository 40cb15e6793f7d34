use Rattle.std.proofs.Common.{arith, to_z-of_z}
use Rattle.basis_change.proofs.Generators.{along_x, along_y, along_z, within_x, within_y, within_z}
use Rattle.basis_change.proofs.generator.along.Goals as goal

pub returns-then-axis-eq0-clause-value : goal.returns-then-axis-eq0-clause-value
returns-then-axis-eq0-clause-value c = along_x c.args.axis c.args.n _ c.if-axis-eq0.true (to_z-of_z c.ranges.n)

pub returns-then-axis-eq0-clause-within : goal.returns-then-axis-eq0-clause-within
returns-then-axis-eq0-clause-within c = within_x c.args.n _ (to_z-of_z c.ranges.n)

pub returns-then-axis-eq1-clause-value : goal.returns-then-axis-eq1-clause-value
returns-then-axis-eq1-clause-value c = along_y c.args.axis c.args.n _ c.if-axis-eq1.true (to_z-of_z c.ranges.n)

pub returns-then-axis-eq1-clause-within : goal.returns-then-axis-eq1-clause-within
returns-then-axis-eq1-clause-within c = within_y c.args.n _ (to_z-of_z c.ranges.n)

pub returns-clause-value : goal.returns-clause-value
returns-clause-value c = along_z c.args.axis c.args.n _ (omega (arith, c.requires, c.if-axis-eq0.false, c.if-axis-eq1.false)) (to_z-of_z c.ranges.n)

pub returns-clause-within : goal.returns-clause-within
returns-clause-within c = within_z c.args.n _ (to_z-of_z c.ranges.n)
