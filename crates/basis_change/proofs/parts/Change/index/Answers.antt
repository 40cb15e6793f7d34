use Rattle.std.proofs.Common.{rules, w32, w64, FitsSigned, to_z-of_z, ◌≤◌, unsigned_abs, ap, sym, subst, refl, ◌∙◌}
use Rattle.std.proofs.lemmas.Bool.{false≢true}
use Rattle.lattice_algebra.specs.Matrix.{inverse_matrix}
use Rattle.lattice_algebra.specs.Operator.{AreWithin}
use Rattle.lattice_algebra.proofs.Machine.{kept}
use Rattle.exact_ops.proofs.Bounds.{passed, three_passed}
use Rattle.space_groups.specs.Bases.{CoordinateChange}
use Rattle.phase_rules.specs.declared.TheConstants.{MAX_INDEX}
use Rattle.phase_rules.specs.Rows.{Row, ◌·ʳ◌}
use Rattle.basis_change.proofs.Steps.{none_some, none_if}
use Rattle.basis_change.proofs.parts.Change.index.Goals as goal

pub row_of-row-requires : goal.row_of-row-requires
row_of-row-requires c = c.self.invariant.inverse_within

pub returns-in_err-number-clause-some : goal.returns-in_err-number-clause-some
returns-in_err-number-clause-some c = none_some _ _ c.from_residual.ensures (λ w. false≢true (c.in_err-number.ensures.some.1 (passed w64 MAX_INDEX c.row_of-row.result.x (subst (λ v. unsigned_abs v ≤ MAX_INDEX) (sym (ap (λ (r : Row). r.h) (c.row_of-row.ensures ∙ ap (λ m. c.args.x.now ·ʳ m) c.self.invariant.inverse ∙ ap (λ (s : CoordinateChange). c.args.x.now ·ʳ inverse_matrix s.w) c.self.view_is))) w.first) tt)))

pub returns-in_err-number-clause-value : goal.returns-in_err-number-clause-value
returns-in_err-number-clause-value c = none_if _ _ c.from_residual.ensures

pub returns-in_err-number-2-clause-some : goal.returns-in_err-number-2-clause-some
returns-in_err-number-2-clause-some c = none_some _ _ c.from_residual-in_err-number-2.ensures (λ w. false≢true (c.in_err-number-2.ensures.some.1 (passed w64 MAX_INDEX c.row_of-row.result.y (subst (λ v. unsigned_abs v ≤ MAX_INDEX) (sym (ap (λ (r : Row). r.k) (c.row_of-row.ensures ∙ ap (λ m. c.args.x.now ·ʳ m) c.self.invariant.inverse ∙ ap (λ (s : CoordinateChange). c.args.x.now ·ʳ inverse_matrix s.w) c.self.view_is))) w.second) tt)))

pub returns-in_err-number-2-clause-value : goal.returns-in_err-number-2-clause-value
returns-in_err-number-2-clause-value c = none_if _ _ c.from_residual-in_err-number-2.ensures

pub returns-in_err-number-3-clause-some : goal.returns-in_err-number-3-clause-some
returns-in_err-number-3-clause-some c = none_some _ _ c.from_residual-in_err-number-3.ensures (λ w. false≢true (c.in_err-number-3.ensures.some.1 (passed w64 MAX_INDEX c.row_of-row.result.z (subst (λ v. unsigned_abs v ≤ MAX_INDEX) (sym (ap (λ (r : Row). r.l) (c.row_of-row.ensures ∙ ap (λ m. c.args.x.now ·ʳ m) c.self.invariant.inverse ∙ ap (λ (s : CoordinateChange). c.args.x.now ·ʳ inverse_matrix s.w) c.self.view_is))) w.third) tt)))

pub returns-in_err-number-3-clause-value : goal.returns-in_err-number-3-clause-value
returns-in_err-number-3-clause-value c = none_if _ _ c.from_residual-in_err-number-3.ensures

pub invariant_of-result : goal.invariant_of-result
invariant_of-result c = three_passed w32 MAX_INDEX c.in_ok-number.field-0 c.in_ok-number-2.field-0 c.in_ok-number-3.field-0 (record { first = (subst (λ v. unsigned_abs v ≤ MAX_INDEX) (sym c.in_ok-number.ensures.value) (c.in_ok-number.ensures.some.0 refl)); second = (subst (λ v. unsigned_abs v ≤ MAX_INDEX) (sym c.in_ok-number-2.ensures.value) (c.in_ok-number-2.ensures.some.0 refl)); third = (subst (λ v. unsigned_abs v ≤ MAX_INDEX) (sym c.in_ok-number-3.ensures.value) (c.in_ok-number-3.ensures.some.0 refl)) }) tt

pub returns-clause-some : goal.returns-clause-some
returns-clause-some c = let f : (FitsSigned w64 c.row_of-row.result.x) × (FitsSigned w64 c.row_of-row.result.y) × (FitsSigned w64 c.row_of-row.result.z) = search rules in ((λ t. subst (λ (r : Row). AreWithin MAX_INDEX r.h r.k r.l) (c.row_of-row.ensures ∙ ap (λ m. c.args.x.now ·ʳ m) c.self.invariant.inverse ∙ ap (λ (s : CoordinateChange). c.args.x.now ·ʳ inverse_matrix s.w) c.self.view_is) (record { first = (subst (λ v. unsigned_abs v ≤ MAX_INDEX) (to_z-of_z f.0) (c.in_ok-number.ensures.some.0 refl)); second = (subst (λ v. unsigned_abs v ≤ MAX_INDEX) (to_z-of_z f.1) (c.in_ok-number-2.ensures.some.0 refl)); third = (subst (λ v. unsigned_abs v ≤ MAX_INDEX) (to_z-of_z f.2) (c.in_ok-number-3.ensures.some.0 refl)) })), (λ w. refl))

pub returns-clause-value : goal.returns-clause-value
returns-clause-value c =
    let f : (FitsSigned w64 c.row_of-row.result.x) × (FitsSigned w64 c.row_of-row.result.y) × (FitsSigned w64 c.row_of-row.result.z) = search rules in
    (λ i. record {
      h = (kept w32 MAX_INDEX c.in_ok-number.field-0 (subst (λ v. unsigned_abs v ≤ MAX_INDEX) (sym c.in_ok-number.ensures.value) (c.in_ok-number.ensures.some.0 refl)) tt ∙ c.in_ok-number.ensures.value ∙ to_z-of_z f.0) i;
      k = (kept w32 MAX_INDEX c.in_ok-number-2.field-0 (subst (λ v. unsigned_abs v ≤ MAX_INDEX) (sym c.in_ok-number-2.ensures.value) (c.in_ok-number-2.ensures.some.0 refl)) tt ∙ c.in_ok-number-2.ensures.value ∙ to_z-of_z f.1) i;
      l = (kept w32 MAX_INDEX c.in_ok-number-3.field-0 (subst (λ v. unsigned_abs v ≤ MAX_INDEX) (sym c.in_ok-number-3.ensures.value) (c.in_ok-number-3.ensures.some.0 refl)) tt ∙ c.in_ok-number-3.ensures.value ∙ to_z-of_z f.2) i;
    })
    ∙ (c.row_of-row.ensures ∙ ap (λ m. c.args.x.now ·ʳ m) c.self.invariant.inverse ∙ ap (λ (s : CoordinateChange). c.args.x.now ·ʳ inverse_matrix s.w) c.self.view_is)
