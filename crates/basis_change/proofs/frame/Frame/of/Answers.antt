use Rattle.std.proofs.Common.{w64, ℕ, [], ◌∷◌, ◌≡◌, ◌≤◌, ◌*◌, ◌^◌, ◌*ℤ◌, ℤ, pos, sym, subst, ap, ◌∙◌}
use Rattle.lattice_algebra.specs.Matrix.{det, scaled, adjugate}
use Rattle.lattice_algebra.specs.Operator.{AreParts, HasEntriesWithin}
use Rattle.lattice_algebra.proofs.Machine.{back, kept, fits, computed}
use Rattle.lattice_algebra.proofs.Ring.{var, ◌⊗◌}
use Rattle.exact_ops.proofs.Bounds.{passed}
use Rattle.basis_change.specs.Wide.{wide_matrix}
use Rattle.exact_ops.specs.Fields.{matrix_in}
use Rattle.exact_ops.specs.declared.TheConstants.{UNIT, MAX_ENTRY}
use Rattle.basis_change.proofs.Frames.{sign_some, is_frame}
use Rattle.basis_change.specs.declared.TheConstants.{MAX_CELL}
use Rattle.basis_change.proofs.frame.Frame.of.Goals as goal

abbrev LIMIT : ℕ
LIMIT = 6 * MAX_ENTRY ^ 3

denominator : (x : ℤ) (d : ℕ) → x ≡ pos d → d ≤ MAX_CELL → back w64 x ≡ pos d
denominator x d e l = ap (back w64) e ∙ kept w64 MAX_CELL (pos d) l tt

determinant_is : (c : goal.After-determinant-determinant) → back w64 c.determinant-determinant.result ≡ det (matrix_in c.args.w.now)
determinant_is c = kept w64 (6 * MAX_ENTRY ^ 3) c.determinant-determinant.result c.determinant-determinant.ensures.size tt ∙ c.determinant-determinant.ensures.value

pub determinant-determinant-requires : goal.determinant-determinant-requires
determinant-determinant-requires c = c.requires.within

pub sign_of-sign-requires : goal.sign_of-sign-requires
sign_of-sign-requires c = sign_some _ _ (determinant_is c) c.requires.some

pub scaled_adjugate-requires-clause-sign : goal.scaled_adjugate-requires-clause-sign
scaled_adjugate-requires-clause-sign c = passed w64 1 c.sign_of-sign.result c.sign_of-sign.ensures.size tt

pub scaled_adjugate-requires-clause-small : goal.scaled_adjugate-requires-clause-small
scaled_adjugate-requires-clause-small c = subst (HasEntriesWithin MAX_ENTRY) (sym c.of-wide.ensures) c.requires.within

pub overflow_mul-result : goal.overflow_mul-result
overflow_mul-result c = fits w64 (1 ∷ LIMIT ∷ []) (c.sign_of-sign.result ∷ c.determinant-determinant.result ∷ []) (var 0 ⊗ var 1) (c.sign_of-sign.ensures.size, (c.determinant-determinant.ensures.size, tt)) tt

pub returns-clause-frame : goal.returns-clause-frame
returns-clause-frame c =
    let sign : back w64 c.sign_of-sign.result ≡ c.sign_of-sign.result = kept w64 1 c.sign_of-sign.result c.sign_of-sign.ensures.size tt in
    let n : back w64 c.determinant-determinant.result ≡ c.determinant-determinant.result = kept w64 LIMIT c.determinant-determinant.result c.determinant-determinant.ensures.size tt in
    is_frame _ c.sign_of-sign.result (back w64 c.determinant-determinant.result) c.args.d
    (subst (HasEntriesWithin MAX_ENTRY) (sym c.of-wide.ensures) c.requires.within)
    c.scaled_adjugate.ensures.size
    (c.scaled_adjugate.ensures.value ∙ ap (λ s. scaled s (adjugate (wide_matrix c.of-wide.result))) sign)
    (computed w64 (1 ∷ LIMIT ∷ []) (c.sign_of-sign.result ∷ c.determinant-determinant.result ∷ []) (var 0 ⊗ var 1) (c.sign_of-sign.ensures.size, (c.determinant-determinant.ensures.size, tt)) tt ∙ ap (λ z. c.sign_of-sign.result *ℤ z) (sym n))
    (n ∙ c.determinant-determinant.ensures.value ∙ ap det (sym c.of-wide.ensures))
    c.sign_of-sign.ensures.positive
    (subst (AreParts UNIT) (sym c.of.ensures) c.requires.in_cell)
    (denominator c.from.result c.args.d c.from.ensures c.requires.denominator.1)
    c.requires.denominator.0
    c.requires.denominator.1

pub returns-clause-value : goal.returns-clause-value
returns-clause-value c = λ i. record { w = c.of-wide.ensures i; t = c.of.ensures i; d = denominator c.from.result c.args.d c.from.ensures c.requires.denominator.1 i }
