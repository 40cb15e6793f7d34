use Rattle.std.proofs.Common.{rules, ◌≡◌, inl, inr, ⊎_elim, ℤ, pos, negsuc, ap, sym, ◌∙◌, arith, nat_eq, of_z, w64, FitsSigned}
use Rattle.std.proofs.lemmas.Int.{ints}
use Rattle.std.specs.Bool.{passes}
use lib.Dec.{eqb→eq}
use Rattle.exact_ops.specs.Fields.{matrix_in}
use Rattle.lattice_algebra.proofs.Matrices.{IsUnimodular-det, det-IsUnimodular}
use Rattle.exact_ops.proofs.matrix.Rotation.is_unimodular.Goals as goal

is_one : (d : ℤ) → FitsSigned w64 d → of_z w64 d ≡ 1 → d ≡ pos 1
is_one d f e = omega (arith, ints)

is_less_one : (d : ℤ) → FitsSigned w64 d → of_z w64 d ≡ 18446744073709551615 → d ≡ negsuc 0
is_less_one d f e = omega (arith, ints)

pub returns-then-d-eq1 : goal.returns-then-d-eq1
returns-then-d-eq1 c =
    let f : FitsSigned w64 c.determinant-d.result = search rules in
    let u = det-IsUnimodular (matrix_in c.args.self.now) (inl (sym c.determinant-d.ensures.value ∙ is_one _ f c.if-d-eq1.true)) in
    (λ t. u, λ v. ap (λ n. nat_eq n 1) c.if-d-eq1.true)

pub returns-else-d-eq1 : goal.returns-else-d-eq1
returns-else-d-eq1 c =
    let f : FitsSigned w64 c.determinant-d.result = search rules in
    let e = c.determinant-d.ensures.value in (
      λ t. det-IsUnimodular (matrix_in c.args.self.now) (inr (sym e ∙ is_less_one _ f (eqb→eq _ _ (passes _ t)))),
      λ v. ⊎_elim (λ p. absurd (c.if-d-eq1.false (ap (of_z w64) (e ∙ p)))) (λ p. ap (λ d. nat_eq (of_z w64 d) 18446744073709551615) (e ∙ p)) (IsUnimodular-det _ v),
    )
