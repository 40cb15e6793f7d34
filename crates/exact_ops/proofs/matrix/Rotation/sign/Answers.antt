use Rattle.std.proofs.Common.{◌∙◌, sym, ap, ⊎_elim, of_z, w64}
use Rattle.lattice_algebra.proofs.Matrices.{IsUnimodular-det}
use Rattle.exact_ops.proofs.matrix.Rotation.sign.Goals as goal

pub returns-else-determinant-eq1-clause-value : goal.returns-else-determinant-eq1-clause-value
returns-else-determinant-eq1-clause-value c =
    ⊎_elim (λ p. absurd (c.if-determinant-eq1.false (ap (of_z w64) (c.determinant.ensures.value ∙ p)))) sym (IsUnimodular-det _ c.requires.unimodular)
