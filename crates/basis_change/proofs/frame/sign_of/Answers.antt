use Rattle.std.proofs.Common.{arith}
use Rattle.std.proofs.lemmas.Int.{ints}
use Rattle.basis_change.proofs.frame.sign_of.Goals as goal

pub returns-then-n-lt0-clause-size : goal.returns-then-n-lt0-clause-size
returns-then-n-lt0-clause-size c = omega (arith, ints)

pub returns-then-n-lt0-clause-positive : goal.returns-then-n-lt0-clause-positive
returns-then-n-lt0-clause-positive c = omega (arith, ints)

pub returns-clause-size : goal.returns-clause-size
returns-clause-size c = omega (arith, ints)

pub returns-clause-positive : goal.returns-clause-positive
returns-clause-positive c = omega (arith, ints)
