use Rattle.std.proofs.Common.{arith, ◌≡◌, slice_get, Some, map, unsigned_abs, w64, ap, subst}
use Rattle.lattice_algebra.specs.Matrix.{times}
use Rattle.lattice_algebra.specs.Operator.{AreWithin}
use Rattle.lattice_algebra.proofs.Machine.{back}
use Rattle.basis_change.specs.Wide.{wide_column}
use Rattle.basis_change.specs.Frames.{cells}
use Rattle.basis_change.proofs.Generators.{shift_along}
use Rattle.basis_change.proofs.generator.cell.Goals as goal

pub along-requires : goal.along-requires
along-requires c = c.requires

pub returns-clause-value : goal.returns-clause-value
returns-clause-value c = shift_along c.args.axis _ (subst (λ n. slice_get (map (times n) cells) c.args.axis ≡ Some (wide_column c.along.result)) (ap (back w64) c.from.ensures) c.along.ensures.value)

pub returns-clause-narrow : goal.returns-clause-narrow
returns-clause-narrow c = omega arith

pub returns-clause-within : goal.returns-clause-within
returns-clause-within c = subst (λ n. AreWithin (unsigned_abs n) c.along.result.x c.along.result.y c.along.result.z) (ap (back w64) c.from.ensures) c.along.ensures.within
