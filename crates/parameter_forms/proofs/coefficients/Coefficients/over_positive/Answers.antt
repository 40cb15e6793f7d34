use Rattle.std.proofs.Common.{◌≡◌, ◌≤◌, ℤ, pos, ◌*ℤ◌, ◌<ℤ◌, unsigned_abs, ap, subst, sym, ◌∙◌, w32, arith}
use Rattle.std.specs.Int.{int_signum}
use Rattle.std.proofs.lemmas.Int.{ints}
use Rattle.lattice_algebra.specs.Matrix.{Matrix, scaled}
use Rattle.lattice_algebra.specs.Operator.{HasEntriesWithin}
use Rattle.lattice_algebra.proofs.Machine.{back, kept}
use Rattle.lattice_algebra.proofs.Numbers.{above, some_size}
use Rattle.exact_ops.specs.Fields.{matrix_in}
use Rattle.parameter_forms.specs.declared.TheConstants.{MAX_MINOR}
use Rattle.parameter_forms.proofs.Passed.{same_coefficients}
use Rattle.parameter_forms.proofs.Scaling.{scaled_coefficients, scaled_within, sign_small, sign_times}
use Rattle.parameter_forms.proofs.coefficients.Coefficients.over_positive.Goals as goal

module _ (c : goal.After-times) where
  abbrev over : ℤ
  over = c.args.self.now.over

  abbrev b : Matrix
  b = matrix_in c.args.self.now.b

  sign_is : c.signum.result ≡ int_signum over
  sign_is = c.signum.ensures.value ∙ ap int_signum (kept w32 MAX_MINOR over c.requires.over_size tt)

  sign_passed : back w32 c.signum.result ≡ int_signum over
  sign_passed = ap (back w32) sign_is ∙ kept w32 1 (int_signum over) (sign_small over) tt

  matrix_is : matrix_in c.times.result.b ≡ scaled (int_signum over) b
  matrix_is = c.times.ensures.matrix ∙ ap (λ k. scaled k b) sign_passed

  over_is : c.times.result.over ≡ int_signum over *ℤ over
  over_is = c.times.ensures.over ∙ ap (λ k. k *ℤ over) sign_passed

  size_is : c.times.result.over ≡ pos (unsigned_abs over)
  size_is = over_is ∙ sign_times over

  positive : pos 0 <ℤ c.times.result.over
  positive = subst (λ d. pos 0 <ℤ d) (sym size_is) (above (unsigned_abs over) (some_size over c.requires.some))

pub returns-clause-matrix : goal.returns-clause-matrix
returns-clause-matrix c = λ m is. same_coefficients m c.times.result.over (int_signum (over c) *ℤ over c) (matrix_in c.times.result.b) (scaled (int_signum (over c)) (b c)) (over_is c) (matrix_is c) (scaled_coefficients m (int_signum (over c)) (over c) (b c) is)

pub returns-clause-positive : goal.returns-clause-positive
returns-clause-positive c = positive c

pub returns-clause-small : goal.returns-clause-small
returns-clause-small c = record {
  entries = subst (HasEntriesWithin MAX_MINOR) (sym (matrix_is c)) (scaled_within 1 MAX_MINOR (int_signum (over c)) (b c) (sign_small (over c)) c.requires.entries);
  over_size = subst (λ d. unsigned_abs d ≤ MAX_MINOR) (sym (size_is c)) c.requires.over_size;
  some = λ e. let p = positive c in omega (arith, ints, e, p);
}
