use Rattle.std.proofs.Common.{rules, w64}
use Rattle.lattice_algebra.specs.Matrix.{adjugate, scaled}
use Rattle.lattice_algebra.proofs.Machine.{read}
use Rattle.exact_ops.proofs.Bounds.{passed}
use Rattle.basis_change.specs.Wide.{WIDE}
use Rattle.basis_change.proofs.wide.WideMatrix.scaled_adjugate.Goals as goal

pub returns-clause-value : goal.returns-clause-value
unfolding adjugate scaled
returns-clause-value c = search (rules, read)

pub returns-clause-size : goal.returns-clause-size
returns-clause-size c = record {
  x = record { first = passed w64 WIDE c.cofactor.result c.cofactor.ensures.size tt; second = passed w64 WIDE c.cofactor-2.result c.cofactor-2.ensures.size tt; third = passed w64 WIDE c.cofactor-3.result c.cofactor-3.ensures.size tt };
  y = record { first = passed w64 WIDE c.cofactor-4.result c.cofactor-4.ensures.size tt; second = passed w64 WIDE c.cofactor-5.result c.cofactor-5.ensures.size tt; third = passed w64 WIDE c.cofactor-6.result c.cofactor-6.ensures.size tt };
  z = record { first = passed w64 WIDE c.cofactor-7.result c.cofactor-7.ensures.size tt; second = passed w64 WIDE c.cofactor-8.result c.cofactor-8.ensures.size tt; third = passed w64 WIDE c.cofactor-9.result c.cofactor-9.ensures.size tt };
}
