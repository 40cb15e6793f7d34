use Rattle.std.proofs.Common.{rules, [], ◌∷◌, w32, w64, FitsSigned, ◌∙◌, ap, sym, subst, refl}
use Rattle.std.proofs.lemmas.Bool.{false≢true}
use Rattle.lattice_algebra.specs.Matrix.{matrix_of, IsUnimodular}
use Rattle.lattice_algebra.specs.Operator.{HasEntriesWithin}
use Rattle.lattice_algebra.proofs.Machine.{back}
use Rattle.lattice_algebra.proofs.Matrices.{IsUnimodular-identity}
use Rattle.basis_change.specs.Wide.{wide_column}
use Rattle.basis_change.proofs.Frames.{parts_are, translation_in_range, translation_operator, identity_narrow}
use Rattle.basis_change.proofs.elements.translation_by.Goals as goal

pub invariant_of-raw : goal.invariant_of-raw
invariant_of-raw c =
    let k : (FitsSigned w64 c.args.s.now.x) × (FitsSigned w64 c.args.s.now.y) × (FitsSigned w64 c.args.s.now.z) = search rules in
    let f : (FitsSigned w32 c.part.result) × (FitsSigned w32 c.part-2.result) × (FitsSigned w32 c.part-3.result) = search rules in
    record { in_range = translation_in_range (wide_column c.args.s.now) c.rows.result (back w32 c.part.result ∷ back w32 c.part-2.result ∷ back w32 c.part-3.result ∷ []) (ap matrix_of c.rows.ensures) (parts_are (wide_column c.args.s.now) _ _ _ k f c.part.ensures c.part-2.ensures c.part-3.ensures) }

pub returns-in-Ok-clause-some : goal.returns-in-Ok-clause-some
returns-in-Ok-clause-some c = refl

pub returns-in-Ok-clause-value : goal.returns-in-Ok-clause-value
returns-in-Ok-clause-value c =
    let k : (FitsSigned w64 c.args.s.now.x) × (FitsSigned w64 c.args.s.now.y) × (FitsSigned w64 c.args.s.now.z) = search rules in
    let f : (FitsSigned w32 c.part.result) × (FitsSigned w32 c.part-2.result) × (FitsSigned w32 c.part-3.result) = search rules in
    c.in-Ok.ensures.value ∙ translation_operator (wide_column c.args.s.now) c.rows.result (back w32 c.part.result ∷ back w32 c.part-2.result ∷ back w32 c.part-3.result ∷ []) (ap matrix_of c.rows.ensures) (parts_are (wide_column c.args.s.now) _ _ _ k f c.part.ensures c.part-2.ensures c.part-3.ensures)

pub returns-in-Err-clause-some : goal.returns-in-Err-clause-some
returns-in-Err-clause-some c = absurd (false≢true (c.in-Err.ensures.ok.1 (subst IsUnimodular (sym (ap matrix_of c.rows.ensures)) IsUnimodular-identity, subst (HasEntriesWithin 2) (sym (ap matrix_of c.rows.ensures)) identity_narrow)))

pub returns-in-Err-clause-value : goal.returns-in-Err-clause-value
returns-in-Err-clause-value c = tt
