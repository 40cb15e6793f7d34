use Rattle.std.proofs.Common.{◌≡◌, ◌≤◌, pos, unsigned_abs, subst, sym, refl, ◌∙◌, rules, w32}
use Rattle.lattice_algebra.specs.Operator.{HasEntriesWithin}
use Rattle.lattice_algebra.proofs.Machine.{read, kept}
use Rattle.exact_ops.specs.Fields.{matrix_in, column_in}
use Rattle.parameter_forms.specs.declared.TheConstants.{MAX_MINOR}
use Rattle.parameter_forms.proofs.Passed.{other_passed, none_passed, same_coefficients}
use Rattle.parameter_forms.proofs.Planes.{over_z, over_y, without_x, coefficients_over_z, coefficients_over_y, coefficients_without_x, last_some, over_z_within}
use Rattle.parameter_forms.proofs.coefficients.plane.Goals as goal

-- ---- what stands in the machine

found_z : (c : goal.After-result-1) → matrix_in c.of.result ≡ over_z (column_in c.args.l.now)
found_z c = search (rules, read)

found_y : (c : goal.After-result-then-l-ne0-2-1) → matrix_in c.of-then-l-ne0-2.result ≡ over_y (column_in c.args.l.now)
found_y c = search (rules, read)

found_x : (c : goal.After-of-2) → matrix_in c.of-2.result ≡ without_x
found_x c = search rules

pub returns-then-l-ne0-clause-matrix : goal.returns-then-l-ne0-clause-matrix
returns-then-l-ne0-clause-matrix c = λ m plane.
    let l = column_in c.args.l.now in
    same_coefficients m _ l.z _ (over_z l) (kept w32 MAX_MINOR l.z c.requires.small.third tt) (found_z c) (coefficients_over_z m l plane (other_passed l.z c.if-l-ne0.true))

pub returns-then-l-ne0-clause-small : goal.returns-then-l-ne0-clause-small
returns-then-l-ne0-clause-small c =
    let l = column_in c.args.l.now in
    let e = kept w32 MAX_MINOR l.z c.requires.small.third tt in
    record {
      entries = subst (HasEntriesWithin MAX_MINOR) (sym (found_z c)) (over_z_within MAX_MINOR l c.requires.small);
      over_size = subst (λ d. unsigned_abs d ≤ MAX_MINOR) (sym e) c.requires.small.third;
      some = λ h. other_passed l.z c.if-l-ne0.true (sym e ∙ h);
    }

pub returns-then-l-ne0-2-clause-matrix : goal.returns-then-l-ne0-2-clause-matrix
returns-then-l-ne0-2-clause-matrix c = λ m plane.
    let l = column_in c.args.l.now in
    same_coefficients m _ l.y _ (over_y l) (kept w32 MAX_MINOR l.y c.requires.small.second tt) (found_y c)
    (coefficients_over_y m l plane (none_passed MAX_MINOR l.z c.requires.small.third tt c.if-l-ne0.false) (other_passed l.y c.if-l-ne0-2.true))

pub returns-clause-matrix : goal.returns-clause-matrix
returns-clause-matrix c = λ m plane.
    let l = column_in c.args.l.now in
    let z = none_passed MAX_MINOR l.z c.requires.small.third tt c.if-l-ne0.false in
    let y = none_passed MAX_MINOR l.y c.requires.small.second tt c.if-l-ne0-2.false in
    same_coefficients m (pos 1) (pos 1) _ without_x refl (found_x c) (coefficients_without_x m l plane z y (last_some l z y c.requires.some))
